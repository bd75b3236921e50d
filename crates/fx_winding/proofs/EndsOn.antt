-- The ends of a piece are on it: `first_on`, `last_on`.
-- Serves segments neither of whose ends is on a piece, and the law `ends`.
use Rattle.std.proofs.Common.{◌≡◌, ◌≢◌, ap, ◌∙◌, ◌⊎◌, inl, inr, ℤ, pos, ◌*ℤ◌, Some, arith}
use Rattle.std.proofs.lemmas.Int.{ints}
use Rattle.fx_fixed.proofs.Linear.{signed_linear}
use Rattle.fx_fixed.proofs.Ring.{*ℤ_zero}
use Rattle.fx_winding.specs.Area.{Place, area, gap_of}
use Rattle.fx_winding.specs.Moves.{reversed}
use Rattle.fx_winding.specs.Outside.{EndsAreCovered}
use Rattle.fx_winding.specs.Winding.{Span, sign, weight_a, weight_b, weight_c, IsOn, IsOnPart, IsCovered}
use Rattle.fx_winding.proofs.Aside.{IsNoEnd}
use Rattle.fx_winding.proofs.Beside.{total_above}
use Rattle.fx_winding.proofs.Products.{by_zero}
use Rattle.fx_winding.proofs.Reversal.{reversal_negates}
use Rattle.fx_winding.proofs.Triangle.{line_start, line_end}

-- no gap at the ends of an arc
pub no_gap : (u v w : ℤ) → (u ≡ pos 0) ⊎ (w ≡ pos 0) → v ≡ pos 0 → gap_of u v w ≡ pos 0
no_gap u v w h i = grind (arith, signed_linear, h, i)

pub end_on : (a b c : Place) → IsOnPart a (Some b) c c
end_on a b c = by_zero (area a b c) flat bent
  where
    none : (s : ℤ) {z : ℤ} → z ≡ pos 0 → s *ℤ z ≡ pos 0
    none s e = ap (λ x. s *ℤ x) e ∙ *ℤ_zero s

    bent : area a b c ≢ pos 0 → IsOnPart a (Some b) c c
    bent n =
        let u : weight_a a b c c ≡ pos 0 = none (sign (area a b c)) (line_start c b) in
        let v : weight_b a b c c ≡ pos 0 = none (sign (area a b c)) (line_end a c) in
        let w = total_above (area a b c) n in
        inl (record {
          bent = n;
          on_arc = (
            omega (arith, signed_linear, u),
            omega (arith, signed_linear, v),
            omega (arith, signed_linear, w),
            no_gap (weight_a a b c c) (weight_b a b c c) (weight_c a b c c) (inl u) v,
          );
        })

    flat : area a b c ≡ pos 0 → IsOnPart a (Some b) c c
    flat z = inr (record {
      flat = z;
      with_ab = z;
      with_bc = line_end b c;
      with_ac = line_end a c;
      range_x = record { low = inr (inl (omega (arith, signed_linear))); high = inr (inl (omega (arith, signed_linear))) };
      range_y = record { low = inr (inl (omega (arith, signed_linear))); high = inr (inl (omega (arith, signed_linear))) };
    })

pub last_on : (s : Span) → IsOn s.c s
last_on s = grind (arith, ints, line_end, end_on)

pub first_on : (s : Span) → IsOn s.a s
first_on s = (reversal_negates s.a s).0.0 (last_on (reversed s))

-- hence pieces cover them
at_end : (p : Place) (s : Span) → (p ≡ s.a) ⊎ (p ≡ s.c) → IsOn p s
at_end p s (inl e) = rw e (first_on s)
at_end p s (inr e) = rw e (last_on s)

pub ends_are_covered : EndsAreCovered
unfolding IsCovered
ends_are_covered p ss (k, s, within, is, end) = inl (k, s, within, is, at_end p s end)

-- and a place off the piece is neither of them
pub off_no_end : (p : Place) (s : Span) → ¬ (IsOn p s) → IsNoEnd p s
off_no_end p s off = grind (arith, off, first_on, last_on)
