-- The frame with drop-out control of moved spans is the moved frame: `moves_dropout_frame`.
-- Serves the law `outlines`, and the pictures of moved outlines.
use Rattle.std.proofs.Common.{◌≡◌, ◌≢◌, inl, inr, refl, sym, subst, ◌↔◌, ℤ, pos, negsuc, ◌+ℤ◌, ◌*ℤ◌, neg_ℤ}
use Rattle.std.proofs.Common.{◌≤ℤ◌, ◌<ℤ◌, List, [], ◌∷◌, map, Option, Some, None, option_map, arith}
use Rattle.std.specs.Int.{int_min}
use Rattle.std.specs.Option.{option_map_or}
use Rattle.fx_fixed.specs.Polynomial.{var, num, ◌⊞◌, ◌⊠◌, minus, ◌⊟◌}
use Rattle.fx_fixed.proofs.Ring.{ring}
use Rattle.fx_fixed.proofs.Linear.{signed_linear}
use Rattle.fx_winding.specs.Area.{Place}
use Rattle.fx_winding.specs.Winding.{Span}
use Rattle.fx_contour.specs.DropoutFrames.{x_of, y_of, least_of, least, greatest, IsKeptIn, IsKept, IsInDropoutFrame}
use Rattle.fx_contour.specs.Frames.{AreNoPixels}
use Rattle.fx_contour.proofs.Moving.{moved}
use Rattle.fx_symmetry.specs.Symmetries.{Mirror, Flip, Exchange, place_in}
use Rattle.fx_symmetry.specs.Outlines.{HasMiddle, MovesDropoutFrame}
use Rattle.fx_symmetry.proofs.Covering.{mirror, axis_mirrored}
use Rattle.fx_symmetry.proofs.OnPieces.{minus_minus}

-- ---- the least of a coordinate of the moved places is that of a coordinate of the places
one_moved : (r : Place → Place) (coord : Place → ℤ) (s : Span) → least_of coord (moved r s) ≡ least_of (λ q. coord (r q)) s
one_moved r coord s = control s.b
  where
    control : (b : Option Place)
        → int_min (coord (r s.a)) (option_map_or (λ b. int_min (coord b) (coord (r s.c))) (option_map r b) (coord (r s.c)))
        ≡ int_min (coord (r s.a)) (option_map_or (λ b. int_min (coord (r b)) (coord (r s.c))) b (coord (r s.c)))
    control None = refl
    control (Some b) = refl

least_moved : (r : Place → Place) (coord : Place → ℤ) (s : Span) (ss : List Span)
    → least coord (moved r s) (map (moved r) ss) ≡ least (λ q. coord (r q)) s ss
least_moved r coord s [] = one_moved r coord s
least_moved r coord s (t ∷ ss) = λ i. int_min (one_moved r coord s i) (least_moved r coord t ss i)

kept_moved : (r : Place → Place) (coord : Place → ℤ) (ss : List Span) (n : ℤ)
    → IsKept coord (map (moved r) ss) n ≡ IsKept (λ q. coord (r q)) ss n
kept_moved r coord [] n = refl
kept_moved r coord (s ∷ ss) n = λ i. IsKeptIn (least_moved r coord s ss i) (neg_ℤ (least_moved r (λ q. neg_ℤ (coord q)) s ss i)) n

-- ---- a coordinate with its sign changed
none_mirrored : (low high : ℤ) → AreNoPixels low high → AreNoPixels (neg_ℤ high) (neg_ℤ low)
none_mirrored low high none n (h, k) =
    let e = axis_mirrored n in none (mirror n) (omega (arith, signed_linear, k, e), omega (arith, signed_linear, h, e))

before_of : (n : ℤ) → pos 256 *ℤ mirror n ≡ neg_ℤ (pos 256 *ℤ (n +ℤ pos 1))
before_of n = ring (n ∷ []) (num (pos 256) ⊠ (num (negsuc 0) ⊟ var 0)) (minus (num (pos 256) ⊠ (var 0 ⊞ num (pos 1)))) tt

after_of : (n : ℤ) → pos 256 *ℤ (mirror n +ℤ pos 1) ≡ neg_ℤ (pos 256 *ℤ n)
after_of n = ring (n ∷ []) (num (pos 256) ⊠ ((num (negsuc 0) ⊟ var 0) ⊞ num (pos 1))) (minus (num (pos 256) ⊠ var 0)) tt

kept_in_minus : (low high n : ℤ) → (AreNoPixels low high → low +ℤ high ≢ pos 256 *ℤ n) → IsKeptIn low high n
    → IsKeptIn (neg_ℤ high) (neg_ℤ low) (mirror n)
kept_in_minus low high n apart (inl (h, k)) =
    let e = axis_mirrored n in inl (omega (arith, signed_linear, k, e), omega (arith, signed_linear, h, e))
kept_in_minus low high n apart (inr (none, (h, k))) =
    let l = strictly (pos 256 *ℤ n) (low +ℤ high) h (apart none) in
    let e = before_of n in
    let f = after_of n in
    inr (none_mirrored low high none, (omega (arith, signed_linear, k, e), omega (arith, signed_linear, l, f)))
  where
    strictly : (x y : ℤ) → x ≤ℤ y → y ≢ x → x <ℤ y
    strictly x y h n = omega (arith, signed_linear, h, n)

-- the least and the greatest change places
minus_in : (coord : Place → ℤ) (s : Span) (ss : List Span) (n : ℤ)
    → IsKept (λ q. neg_ℤ (coord q)) (s ∷ ss) n ≡ IsKeptIn (neg_ℤ (greatest coord s ss)) (neg_ℤ (least coord s ss)) n
minus_in coord s ss n = λ i. IsKeptIn (sym (minus_minus (least (λ q. neg_ℤ (coord q)) s ss)) i)
    (neg_ℤ (least (λ q. minus_minus (coord q) i) s ss)) n

kept_minus : (coord : Place → ℤ) (ss : List Span) → HasMiddle coord ss → (n : ℤ)
    → IsKept (λ q. neg_ℤ (coord q)) ss (mirror n) ↔ IsKept coord ss n
kept_minus coord [] middle n = (λ h. h, λ h. h)
kept_minus coord (s ∷ ss) middle n = (
  λ h. from (least coord s ss) (greatest coord s ss) middle (subst (λ (T : Type 0). T) (minus_in coord s ss (mirror n)) h),
  λ h. subst (λ (T : Type 0). T) (sym (minus_in coord s ss (mirror n)))
      (kept_in_minus (least coord s ss) (greatest coord s ss) n (λ none. middle none n) h),
)
  where
    twice : (n : ℤ) → mirror (mirror n) ≡ n
    twice n = omega (arith, signed_linear)

    from : (low high : ℤ) → (AreNoPixels low high → (n : ℤ) → low +ℤ high ≢ pos 256 *ℤ n)
        → IsKeptIn (neg_ℤ high) (neg_ℤ low) (mirror n) → IsKeptIn low high n
    from low high middle h = subst (λ (z : ℤ × ℤ × ℤ). IsKeptIn z.0 z.1 z.2)
        (λ i. (minus_minus low i, minus_minus high i, twice n i))
        (kept_in_minus (neg_ℤ high) (neg_ℤ low) (mirror n) (λ none e. middle
        (subst (λ (z : ℤ × ℤ). AreNoPixels z.0 z.1) (λ i. (minus_minus low i, minus_minus high i))
        (none_mirrored (neg_ℤ high) (neg_ℤ low) none)) (n +ℤ pos 1)
        (let g = before_of n in omega (arith, signed_linear, e, g))) h)

pub moves_dropout_frame : MovesDropoutFrame
moves_dropout_frame Mirror ss middle i j =
    let x = kept_minus x_of ss middle i in
    subst (λ (T : Type 0). T ↔ IsInDropoutFrame ss i j)
    (λ t. sym (kept_moved (place_in Mirror) x_of ss (mirror i)) t × sym (kept_moved (place_in Mirror) y_of ss j) t)
    (λ h. (x.0 h.0, h.1), λ h. (x.1 h.0, h.1))
moves_dropout_frame Flip ss middle i j =
    let y = kept_minus y_of ss middle j in
    subst (λ (T : Type 0). T ↔ IsInDropoutFrame ss i j)
    (λ t. sym (kept_moved (place_in Flip) x_of ss i) t × sym (kept_moved (place_in Flip) y_of ss (mirror j)) t)
    (λ h. (h.0, y.0 h.1), λ h. (h.0, y.1 h.1))
moves_dropout_frame Exchange ss middle i j = subst (λ (T : Type 0). T ↔ IsInDropoutFrame ss i j)
    (λ t. sym (kept_moved (place_in Exchange) x_of ss j) t × sym (kept_moved (place_in Exchange) y_of ss i) t)
    (λ h. (h.1, h.0), λ h. (h.1, h.0))
