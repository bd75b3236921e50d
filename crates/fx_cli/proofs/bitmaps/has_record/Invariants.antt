use Rattle.std.proofs.Common.{◌≡◌, ◌-◌}
use Rattle.fx_cli.specs.Bitmaps.{has_record}
use Rattle.fx_cli.proofs.bitmaps.has_record.Given as goal

-- whether one of the records is of the size is whether one of those that are left is
abbrev pub invariant-records : goal.invariant-records
invariant-records l = has_record (l.count - l.i) l.rest l.ppem ≡ has_record l.count l.records l.ppem
