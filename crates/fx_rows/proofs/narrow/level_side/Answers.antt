use Rattle.std.proofs.Common.{◌≡◌, ◌∙◌, inl, inr, refl, ℕ, ℤ, ap, ◌^◌, pos, ◌+ℤ◌, ◌*ℤ◌, ◌<ℤ◌, arith, w64, to_z, of_z}
use Rattle.fx_fixed.proofs.Linear.{signed_linear}
use Rattle.fx_fixed.specs.Ranges.{IsWithin}
use Rattle.fx_winding.specs.Winding.{place_of, maybe_place_of, span_of, sign}
use Rattle.fx_winding.specs.declared.weights.Weights.{Weights}
use Rattle.fx_rows.specs.inner.Sides.{place_at}
use Rattle.fx_rows.proofs.Narrows.{weight_part, level_weight, sided_none, sided_all, owned_above, owned_on_level, not_owned_on_level}
use Rattle.fx_rows.proofs.narrow.level_side.Goals as goal

-- the weight without its copies
weight_is : (areas : Weights) (total weight : ℤ) → total ≡ areas.u +ℤ areas.v +ℤ areas.w → IsWithin (2 ^ 57) total
    → weight ≡ sign (to_z w64 (of_z w64 total)) *ℤ to_z w64 (of_z w64 areas.v)
    → weight ≡ sign (areas.u +ℤ areas.v +ℤ areas.w) *ℤ areas.v
weight_is areas total weight is size e =
    let t : to_z w64 (of_z w64 total) ≡ total = omega (arith, signed_linear) in
    let v : to_z w64 (of_z w64 areas.v) ≡ areas.v = omega (arith, signed_linear) in
    e ∙ (λ i. sign (t i) *ℤ v i) ∙ ap (λ z. sign z *ℤ areas.v) is

pub returns-then-weight-lt0 : goal.returns-then-weight-lt0
returns-then-weight-lt0 c =
    let w = c.turned-weight.result in
    let low : w <ℤ pos 0 = omega (arith, signed_linear, c.turned-weight.ensures.size) in
    sided_none (span_of c.args.piece.now) c.args.strip _ c.requires.bent.1
    (λ k. let q = level_weight c.args.piece.now c.args.b c.args.strip c.args.areas w c.requires.bent.0 c.requires.areas
    c.requires.level (weight_is c.args.areas c.total_of.result w c.total_of.ensures.value c.total_of.ensures.size
    c.turned-weight.ensures.value) k in omega (arith, signed_linear, q, low)) refl

pub returns-then-weight-gt0 : goal.returns-then-weight-gt0
returns-then-weight-gt0 c =
    let s = c.args.piece.now in
    let w = c.turned-weight.result in
    let high : pos 0 <ℤ w = omega (arith, signed_linear, c.turned-weight.ensures.size) in
    let all : (k : ℕ) → pos 0 <ℤ weight_part (place_of s.a) (maybe_place_of s.b) (place_of s.c) (place_at c.args.strip k) =
    λ k. let q = level_weight s c.args.b c.args.strip c.args.areas w c.requires.bent.0 c.requires.areas
    c.requires.level (weight_is c.args.areas c.total_of.result w c.total_of.ensures.value c.total_of.ensures.size
    c.turned-weight.ensures.value) k in omega (arith, signed_linear, q, high) in
    sided_all (span_of s) c.args.strip _ c.requires.bent.1 (λ k. let q = all k in omega (arith, signed_linear, q)) refl refl
    (inl (refl, λ k. owned_above (span_of s) (place_at c.args.strip k) c.requires.bent.1 (all k)))

pub returns-then-piece-b : goal.returns-then-piece-b
returns-then-piece-b c =
    let s = c.args.piece.now in
    let w = c.turned-weight.result in
    let none : w ≡ pos 0 = omega (arith, signed_linear, c.turned-weight.ensures.size) in
    let all : (k : ℕ) → weight_part (place_of s.a) (maybe_place_of s.b) (place_of s.c) (place_at c.args.strip k) ≡ pos 0 =
    λ k. level_weight s c.args.b c.args.strip c.args.areas w c.requires.bent.0 c.requires.areas
    c.requires.level (weight_is c.args.areas c.total_of.result w c.total_of.ensures.value c.total_of.ensures.size
    c.turned-weight.ensures.value) k ∙ none in
    sided_all (span_of s) c.args.strip _ c.requires.bent.1 (λ k. let q = all k in omega (arith, signed_linear, q)) refl refl
    (inl (
      refl,
      λ k. owned_on_level s c.args.b (place_at c.args.strip k) c.requires.bent.0 c.requires.level
          (omega (arith, signed_linear)) (all k),
    ))

pub returns : goal.returns
returns c =
    let s = c.args.piece.now in
    let w = c.turned-weight.result in
    let none : w ≡ pos 0 = omega (arith, signed_linear, c.turned-weight.ensures.size) in
    let all : (k : ℕ) → weight_part (place_of s.a) (maybe_place_of s.b) (place_of s.c) (place_at c.args.strip k) ≡ pos 0 =
    λ k. level_weight s c.args.b c.args.strip c.args.areas w c.requires.bent.0 c.requires.areas
    c.requires.level (weight_is c.args.areas c.total_of.result w c.total_of.ensures.value c.total_of.ensures.size
    c.turned-weight.ensures.value) k ∙ none in
    sided_all (span_of s) c.args.strip _ c.requires.bent.1 (λ k. let q = all k in omega (arith, signed_linear, q)) refl refl
    (inr (
      refl,
      λ k. not_owned_on_level s c.args.b (place_at c.args.strip k) c.requires.bent.0 c.requires.level
          (omega (arith, signed_linear)) (all k),
    ))
