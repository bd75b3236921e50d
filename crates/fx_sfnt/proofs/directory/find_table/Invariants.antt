use Rattle.std.proofs.Common.{drop}
use Rattle.fx_sfnt.specs.Tables.{has_tag}
use Rattle.fx_sfnt.proofs.Finding.{Searching}
use Rattle.fx_sfnt.proofs.directory.find_table.Given as goal

-- the first record with the tag among the records that are left is that among all
abbrev pub invariant-records : goal.invariant-records
invariant-records l = Searching 16 (has_tag l.fn.tag) l.count l.k (drop 12 l.directory) l.rest
