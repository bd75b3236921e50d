use Rattle.std.proofs.Common.{drop}
use Rattle.fx_sfnt.proofs.Finding.{Searching}
use Rattle.fx_cmap.specs.Lookup.{is_record_of}
use Rattle.fx_cmap.proofs.records.first_subtable.Given as goal

-- the first such record among the records that are left is that among all
abbrev pub invariant-records : goal.invariant-records
invariant-records l = Searching 8 (is_record_of l.fn.candidate l.cmap) l.count l.k (drop 4 l.cmap) l.rest
