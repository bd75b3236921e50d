use Rattle.std.proofs.Common.{◌≡◌, ◌∙◌, sym, ap, ℤ, pos, ◌<ℤ◌, IsTrue, Some, arith, w32, to_z, of_z, int_lt, ◌^◌}
use mir.Syntax.{w128}
use Rattle.fx_fixed.specs.Ranges.{IsWithin}
use Rattle.std.proofs.lemmas.Int.{ints}
use Rattle.fx_fixed.proofs.Linear.{signed_linear}
use Rattle.fx_winding.specs.Winding.{place_of, maybe_place_of, span_of, region, region_part}
use Rattle.fx_winding.proofs.Places.{no, zero_bits}
use Rattle.fx_winding.proofs.Swept.{moved}
use Rattle.fx_winding.proofs.tip.is_tip.Goals as goal

falling : (z : ℤ) → IsWithin (2 ^ 113) z → z <ℤ pos 0 → IsTrue (int_lt (to_z w128 (of_z w128 z)) (pos 0))
falling z h k =
    let e : to_z w128 (of_z w128 z) ≡ z = omega (arith, signed_linear) in
    rw (e) (sym (omega (arith, ints)))

pub returns-then-gap_slope-le0-clause-value : goal.returns-then-gap_slope-le0-clause-value
returns-then-gap_slope-le0-clause-value c =
    no (λ k. let r : pos 0 <ℤ c.gap_slope.result = rw (c.gap_slope.ensures.value) k.rises in omega (arith, signed_linear))

pub returns-clause-value : goal.returns-clause-value
returns-clause-value c =
    let s = span_of c.args.piece.now in
    let a = place_of c.args.piece.now.a in
    let e = place_of c.args.piece.now.c in
    let p = place_of c.args.p in
    let x : to_z w32 (of_z w32 c.args.p.x) ≡ c.args.p.x = omega (arith, signed_linear) in
    let y : to_z w32 (of_z w32 c.args.p.y) ≡ c.args.p.y = omega (arith, signed_linear) in
    let part : c.region.result ≡ region p s = c.region.ensures.value ∙ moved (λ q. region q s) x y in
    let zero : c.region.result ≡ pos 0 = zero_bits w32 c.region.result (omega (arith, signed_linear)) c.if-region-ne0.false in
    let bent : region p s ≡ region_part a (Some (place_of c.args.b)) e p =
    ap (λ m. region_part a (maybe_place_of m) e p) c.requires.middle in
    let high : pos 0 <ℤ c.gap_slope.result = omega (arith, signed_linear) in (
      λ t. record {
        reached = c.reached_y.ensures.0 c.if-not-reached_y.false;
        outside = sym bent ∙ sym part ∙ zero;
        rises = rw (← c.gap_slope.ensures.value) high;
        falls = rw (← c.gap_slope-2.ensures.value) (omega (arith, signed_linear));
      },
      λ k. falling c.gap_slope-2.result c.gap_slope-2.ensures.size (rw (c.gap_slope-2.ensures.value) k.falls),
    )
