use Rattle.std.proofs.Common.{arith, sym, ap, ◌∙◌, ◌≡◌, inl, inr, List, ℕ, ◌∷◌, option_map}
use Rattle.std.proofs.lemmas.Result.{err_from_is_err_and}
use Rattle.fx_arguments.specs.Parts.{left_parts, parts_of}
use Rattle.fx_arguments.specs.Chars.{items_of, numbers_of_items}
use Rattle.fx_arguments.proofs.Items.{behind, behind_item, none_by_count}
use Rattle.fx_arguments.proofs.chars.parse_chars.Goals as goal

pub returns-in_err-push_range-clause-refused : goal.returns-in_err-push_range-clause-refused
returns-in_err-push_range-clause-refused c =
    let here : numbers_of_items (items_of c.args.list.now) ≡ behind c.items.chars.items
    (numbers_of_items (parts_of 44 c.in-Some.text.now)) = rw c.in-Some.is at c.items.invariant.so_far in
    let cut : numbers_of_items (items_of c.args.list.now) ≡ behind c.items.chars.items
    (numbers_of_items (c.first_part.result.0.now ∷ left_parts 44 (option_map (λ more. more.now) c.first_part.result.1)))
    = rw c.first_part.ensures.parts at here in
    let p = err_from_is_err_and c.from_residual.result c.from_residual.ensures.1 in
    rw (p.1, p.2) (elim c.in_err-push_range.ensures.err [
      | inl e ↦ inl e
      | inr (e, many) ↦ inr (
        e,
        none_by_count c.args.list.now c.items.chars.items c.first_part.result.0.now
            (c.in-Some-range.low, c.in-Some-range.high) (left_parts 44 (option_map (λ more. more.now) c.first_part.result.1)) cut
            (sym c.in-Some-range.ensures.value) (omega (arith, many)),
      )
    ])

pub items-preserved : goal.items-preserved
items-preserved c =
    let here : numbers_of_items (items_of c.args.list.now) ≡ behind c.items.chars.items
    (numbers_of_items (parts_of 44 c.in-Some.text.now)) = rw c.in-Some.is at c.items.invariant.so_far in
    let cut : numbers_of_items (items_of c.args.list.now) ≡ behind c.items.chars.items
    (numbers_of_items (c.first_part.result.0.now ∷ left_parts 44 (option_map (λ more. more.now) c.first_part.result.1)))
    = rw c.first_part.ensures.parts at here in
    let pushed = c.in_ok-push_range.ensures.ok in
    let left = left_parts 44 (option_map (λ more. more.now) c.first_part.result.1) in
    record {
      so_far = cut ∙ behind_item c.items.chars.items (c.in-Some-range.low, c.in-Some-range.high) c.first_part.result.0.now left
          (sym c.in-Some-range.ensures.value)
          ∙ ap (λ (chars : List ℕ). behind chars (numbers_of_items left)) (sym pushed.0);
      count = pushed.1;
    }
