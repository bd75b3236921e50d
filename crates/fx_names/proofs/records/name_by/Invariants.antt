use Rattle.std.proofs.Common.{drop}
use Rattle.fx_sfnt.proofs.Finding.{Searching}
use Rattle.fx_names.specs.Names.{is_name}
use Rattle.fx_names.proofs.records.name_by.Given as goal

-- the first such record among the records that are left is that among all
abbrev pub invariant-records : goal.invariant-records
invariant-records l = Searching 12 (is_name l.fn.kind l.fn.id l.table) l.count l.k (drop 6 l.table) l.rest
