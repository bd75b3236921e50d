use Rattle.std.proofs.Common.{◌≡◌, ℕ, ◌+◌, ◌-◌, ◌/◌, ◌<◌, ◌≤◌, List, length, take, drop, get_or, inl, inr, refl, ap, sym, ◌∙◌, arith}
use Rattle.std.specs.Prelude.{slice_index}
use Rattle.std.proofs.lemmas.Bool.{cases_lt}
use Rattle.std.proofs.lemmas.List.{get_or-take, get_or-drop, length-drop, length-take-le}
use Rattle.fx_machine.proofs.words.used_of.Goals as goal

-- a part of words that are 0
part_none : (a b : ℕ) (ws : List ℕ) → b ≤ length ws
    → ((k : ℕ) → k < length (take (b - a) (drop a ws)) → slice_index (take (b - a) (drop a ws)) k ≡ 0)
    → (k : ℕ) → a ≤ k → k < b → slice_index ws k ≡ 0
part_none a b ws inside none k low high =
    let long = length-drop a ws in
    let size : length (take (b - a) (drop a ws)) ≡ b - a = length-take-le (b - a) (drop a ws) (omega (arith, long, inside)) in
    let back : a + (k - a) ≡ k = omega (arith, low) in
    sym (ap (λ (n : ℕ). get_or ws n 0) back) ∙ sym (get_or-drop a ws (k - a) 0)
    ∙ sym (get_or-take (b - a) (drop a ws) (k - a) 0 (omega (arith, low, high)))
    ∙ none (k - a) (omega (arith, size, low, high))

pub halves-preserved : goal.halves-preserved
halves-preserved c = record {
  inside = omega (arith, c.halves.invariant.inside);
  rest =
      λ k l m. elim (cases_lt k c.halves.used) [
        | inl i ↦ part_none (c.halves.used / 2) c.halves.used c.args.words.now c.halves.invariant.inside
            (c.if-are_none-2.ensures refl) k l i
        | inr i ↦ c.halves.invariant.rest k i m
      ];
}
