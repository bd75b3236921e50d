use Rattle.std.proofs.Common.{◌≡◌, drop}
use Rattle.fx_names.specs.Names.{name_by_first}
use Rattle.fx_names.proofs.records.name_by_first.Given as goal

-- the first kind with a record among those that are left is that among all
abbrev pub invariant-kinds : goal.invariant-kinds
invariant-kinds l = name_by_first l.table l.fn.id (drop l.kind-index l.kinds) ≡ name_by_first l.table l.fn.id l.kinds
