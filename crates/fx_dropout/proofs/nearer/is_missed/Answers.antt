use Rattle.std.proofs.Common.{◌≡◌, ◌⊎◌, ◌↔◌, sym, subst, ℤ, ◌<ℤ◌, Bool, true, false, IsTrue, arith}
use Rattle.fx_fixed.proofs.Linear.{signed_linear}
use Rattle.fx_winding.specs.Outside.{HasAll}
use Rattle.fx_winding.specs.Turned.{turned_span}
use Rattle.fx_winding.specs.Winding.{Span, place_of, span_of}
use Rattle.fx_winding.specs.declared.point.Point.{Point}
use Rattle.fx_dropout.specs.inner.Pairs.{seen_span}
use Rattle.fx_dropout.specs.inner.Places.{IsMissed}
use Rattle.fx_dropout.proofs.Decided.{missed_turned}
use Rattle.fx_dropout.proofs.Stretching.{held}
use Rattle.fx_dropout.proofs.nearer.is_missed.Goals as goal
use Rattle.fx_dropout.proofs.nearer.is_missed.Goals.{then-is_after, else-is_after, then-is_after-2, else-is_after-2}

held_x : (p : Point) → p.x ≡ held p.x
held_x p = let h = p.near_x in omega (arith, signed_linear, h)

held_y : (p : Point) → p.y ≡ held p.y
held_y p = let h = p.near_y in omega (arith, signed_linear, h)

-- the last of three tests decides, if the first two fail
by_last : (A B C M : Type 0) (x y z : Bool) → IsTrue x ↔ A → IsTrue y ↔ B → IsTrue z ↔ C → x ≡ false → y ≡ false
    → M ↔ (A ⊎ (B ⊎ C)) → IsTrue z ↔ M
by_last A B C M x y z a b d e f m = grind (arith, a, b, d, e, f, m)

turned : (p : Point) (up : Bool) (s : Span) → true ≡ up → IsMissed (place_of p) (seen_span up s)
    ↔ (HasAll (λ e. held p.y <ℤ e.x) s ⊎ (HasAll (λ e. e.x <ℤ held p.y) s ⊎ HasAll (λ e. e.y <ℤ held p.x) s))
turned p up s e =
    subst (λ (b : Bool). IsMissed (place_of p) (seen_span b s)
    ↔ (HasAll (λ e. held p.y <ℤ e.x) s ⊎ (HasAll (λ e. e.x <ℤ held p.y) s ⊎ HasAll (λ e. e.y <ℤ held p.x) s))) e
    (subst (λ (z : ℤ × ℤ). IsMissed (place_of p) (turned_span s)
    ↔ (HasAll (λ e. z.1 <ℤ e.x) s ⊎ (HasAll (λ e. e.x <ℤ z.1) s ⊎ HasAll (λ e. e.y <ℤ z.0) s)))
    (λ t. (held_x p t, held_y p t)) (missed_turned (place_of p) s))

unturned : (p : Point) (up : Bool) (s : Span) → false ≡ up → IsMissed (place_of p) (seen_span up s)
    ↔ (HasAll (λ e. held p.y <ℤ e.y) s ⊎ (HasAll (λ e. e.y <ℤ held p.y) s ⊎ HasAll (λ e. e.x <ℤ held p.x) s))
unturned p up s e =
    subst (λ (b : Bool). IsMissed (place_of p) (seen_span b s)
    ↔ (HasAll (λ e. held p.y <ℤ e.y) s ⊎ (HasAll (λ e. e.y <ℤ held p.y) s ⊎ HasAll (λ e. e.x <ℤ held p.x) s))) e
    (subst (λ (z : ℤ × ℤ). IsMissed (place_of p) s
    ↔ (HasAll (λ e. z.1 <ℤ e.y) s ⊎ (HasAll (λ e. e.y <ℤ z.1) s ⊎ HasAll (λ e. e.x <ℤ z.0) s)))
    (λ t. (held_x p t, held_y p t)) (λ h. h, λ h. h))

pub returns-else-is_before : goal.returns-else-is_before
returns-else-is_before c = elim c.if-is_after.branch [
  | then-is_after w ↦ absurd (cc)
  | else-is_after w ↦
      by_last _ _ _ _ c.is_after.result w.is_before.result c.is_before-else-is_before.result c.is_after.ensures w.is_before.ensures
      c.is_before-else-is_before.ensures w.if-is_after.false (cc)
      (turned c.args.first c.args.is_turned (span_of c.args.piece.now) (sym c.if-is_turned.true))
]

pub returns-else-is_before-2 : goal.returns-else-is_before-2
returns-else-is_before-2 c = elim c.if-is_after-2.branch [
  | then-is_after-2 w ↦ absurd (cc)
  | else-is_after-2 w ↦
      by_last _ _ _ _ c.is_after-2.result w.is_before-else-is_after-2.result c.is_before-else-is_before-2.result
      c.is_after-2.ensures w.is_before-else-is_after-2.ensures c.is_before-else-is_before-2.ensures w.if-is_after-2.false (cc)
      (unturned c.args.first c.args.is_turned (span_of c.args.piece.now) (sym c.if-is_turned.false))
]
