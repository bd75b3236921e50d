use Rattle.std.proofs.Common.{◌≡◌, ◌∙◌, List, ℕ, [], ◌∷◌, true, sym, arith}
use Rattle.std.specs.Prelude.{nat_eq}
use Rattle.std.specs.List.{starts_with}
use Rattle.fx_front.specs.Mistaken.{has_text}
use Rattle.fx_front.proofs.mistaken.has_text.Goals as goal

-- a text that begins with a part has it
begun : (part text : List ℕ) → starts_with nat_eq text part ≡ true → has_text part text ≡ true
begun part [] is = is
begun part (b ∷ text) is = grind arith

pub returns-then-starts_with : goal.returns-then-starts_with
returns-then-starts_with c =
    sym (begun c.args.part.now c.places.rest.now (sym c.starts_with.ensures.value ∙ c.if-starts_with.true)) ∙ c.places.invariant
