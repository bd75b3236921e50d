use Rattle.std.proofs.Common.{sym, ◌∙◌}
use Rattle.fx_sfnt.proofs.Finding.{search_on}
use Rattle.fx_cmap.proofs.records.first_subtable.Goals as goal

pub records-preserved : goal.records-preserved
records-preserved c =
    search_on c.records.invariant c.records-test.true (sym c.is_record_of.ensures ∙ c.if-is_record_of.false)
    c.after-rest-in-records.ensures
