use Rattle.std.proofs.Common.{ℕ, List, drop, sym, ap, ◌∙◌, Some}
use Rattle.std.specs.List.{find}
use Rattle.std.specs.Option.{option_map}
use Rattle.fx_sfnt.specs.Tables.{records}
use Rattle.fx_sfnt.proofs.Finding.{search_ends, search_on}
use Rattle.fx_names.specs.Names.{is_name, string_of, text_of}
use Rattle.fx_names.proofs.records.name_by.Goals as goal

pub returns-then-is_name : goal.returns-then-is_name
returns-then-is_name c =
    let p = is_name c.args.kind c.args.id c.args.table.now in
    let text : List ℕ → List ℕ = λ entry. text_of c.args.kind (string_of c.args.table.now entry) in
    ap Some (c.new.ensures ∙ ap (text_of c.args.kind) c.string_of.ensures)
    ∙ ap (option_map text)
    (search_ends c.records.invariant c.records-test.true (sym c.is_name.ensures ∙ c.if-is_name.true))
    ∙ ap (λ (n : ℕ). option_map text (find p (records 12 n (drop 6 c.args.table.now)))) c.u16_in-count.ensures

pub records-preserved : goal.records-preserved
records-preserved c =
    search_on c.records.invariant c.records-test.true (sym c.is_name.ensures ∙ c.if-is_name.false)
    c.after-rest-in-records.ensures
