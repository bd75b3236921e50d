use Rattle.std.proofs.Common.{◌≡◌, true, false, sym, ap, ◌∙◌}
use Rattle.std.proofs.lemmas.Bool.{eq-eqb, ne_eqb}
use Rattle.std.specs.Option.{option_map}
use Rattle.fx_sfnt.specs.Tables.{has_tag, table_bytes}
use Rattle.fx_sfnt.proofs.Finding.{search_ends, search_on}
use Rattle.fx_sfnt.proofs.directory.find_table.Goals as goal

pub returns-then-u32_in-want-clause-table : goal.returns-then-u32_in-want-clause-table
returns-then-u32_in-want-clause-table c =
    let hit : has_tag c.args.tag c.records.rest.now ≡ true =
    eq-eqb _ _ (sym c.u32_in.ensures ∙ c.if-u32_in-want.true ∙ c.u32_in-want.ensures) in
    cc (ap (option_map (table_bytes c.args.file.now)) (search_ends c.records.invariant c.records-test.true hit))

pub records-preserved : goal.records-preserved
records-preserved c =
    let miss : has_tag c.args.tag c.records.rest.now ≡ false =
    ne_eqb _ _ (λ e. c.if-u32_in-want.false (c.u32_in.ensures ∙ e ∙ sym c.u32_in-want.ensures)) in
    search_on c.records.invariant c.records-test.true miss c.after-rest-in-records.ensures
