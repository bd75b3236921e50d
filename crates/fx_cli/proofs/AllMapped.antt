-- The characters of a map up to a limit are the first ones that it lists: `mapped_to`.
-- Serves `mapped_in`.
use Rattle.std.proofs.Common.{◌≡◌, ◌∙◌, refl, sym, ap, arith, ℕ, ◌+◌, ◌≤◌, min, Bool, true, false, List, length, take, nat_le, take_all}
use Rattle.std.proofs.lemmas.Bool.Decides.{nat_tests}
use Rattle.fx_cmap.specs.Mapped.{mapped_below}
use Rattle.fx_cmap.specs.declared.mapping.Mapping.{Mapping}
use Rattle.fx_request.specs.Limits.{max_code}
use Rattle.fx_cli.specs.Mapped.{mapped_in}

-- a buffer of as many as there are, or as the limit allows, is filled
filled_to : (whole new : List ℕ) (all limit : ℕ) → all ≡ length whole → length new ≡ min all limit
    → take all new ≡ take (length new) whole → new ≡ take limit whole
filled_to whole new all limit a room front = by_limit (nat_le all limit) refl
  where
    by_limit : (b : Bool) → nat_le all limit ≡ b → new ≡ take limit whole
    by_limit true e =
        let few : all ≤ limit = grind (arith, nat_tests) in
        sym (take_all all new (omega (arith, room))) ∙ front ∙ take_all (length new) whole (omega (arith, a, room, few))
        ∙ sym (take_all limit whole (omega (arith, a, few)))
    by_limit false e =
        let many : limit ≤ all = grind (arith, nat_tests) in
        let full : length new ≡ limit = omega (arith, room, many) in
        sym (take_all all new (omega (arith, room))) ∙ front ∙ ap (λ (n : ℕ). take n whole) full

pub mapped_to : (map : Mapping) (new : List ℕ) (all limit : ℕ) → all ≡ length (mapped_below map (max_code + 1))
    → length new ≡ min all limit → take all new ≡ take (length new) (mapped_below map (max_code + 1)) → new ≡ mapped_in map limit
unfolding mapped_in
mapped_to map new all limit a room front = filled_to (mapped_below map (max_code + 1)) new all limit a room front
