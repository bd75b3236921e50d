use Rattle.std.proofs.Common.{◌≡◌, ◌⊎◌, inl, inr, ℤ, pos, ◌+ℤ◌, ◌*ℤ◌, ◌<ℤ◌, ◌≤ℤ◌, arith, w32, to_z, of_z}
use Rattle.fx_fixed.proofs.Linear.{signed_linear}
use Rattle.fx_winding.specs.Winding.{Span, span_of}
use Rattle.fx_fixed.proofs.Order.{below_or_not_ℤ}
use Rattle.fx_rows.proofs.Points.{of_all, to_all}
use Rattle.fx_rows.proofs.narrow.across_of.Goals as goal

pub returns-clause-across : goal.returns-clause-across
returns-clause-across c =
    let low = c.low_x.result in
    let high = c.high_x.result in
    let first : to_z w32 (of_z w32 c.first_from.result) ≡ c.first_from.result =
    omega (arith, signed_linear, c.first_from.ensures.size) in
    let end : to_z w32 (of_z w32 c.first_from-2.result) ≡ c.first_from-2.result =
    omega (arith, signed_linear, c.first_from-2.ensures.size) in
    let el : to_z w32 (of_z w32 low) ≡ low = omega (arith, signed_linear, c.low_x.ensures.size) in
    let eh : to_z w32 (of_z w32 (to_z w32 (of_z w32 high) +ℤ pos 1)) ≡ high +ℤ pos 1 =
    omega (arith, signed_linear, c.high_x.ensures.size) in (
      λ x h q p.
          let b : (pos 128 *ℤ x +ℤ pos 64) <ℤ _ = c.first_from.ensures.before x (omega (arith, signed_linear, h, first)) in
          let l = of_all (λ q. low ≤ℤ q.x) (span_of c.args.piece.now) c.low_x.ensures.low q p in
          omega (arith, signed_linear, b, l, el),
      λ x h q p.
          let f : _ ≤ℤ (pos 128 *ℤ x +ℤ pos 64) = c.first_from-2.ensures.from x (omega (arith, signed_linear, h, end)) in
          let l = of_all (λ q. q.x ≤ℤ high) (span_of c.args.piece.now) c.high_x.ensures.high q p in
          omega (arith, signed_linear, f, l, eh),
    )

pub returns-clause-tight : goal.returns-clause-tight
returns-clause-tight c n m h = (from (below_or_not_ℤ first n), to (below_or_not_ℤ m end))
  where
    s : Span
    s = span_of c.args.piece.now

    low : ℤ
    low = c.low_x.result

    high : ℤ
    high = c.high_x.result

    first : ℤ
    first = c.first_from.result

    end : ℤ
    end = c.first_from-2.result

    from : (first <ℤ n) ⊎ (n ≤ℤ first) → n ≤ℤ to_z w32 (of_z w32 first)
    from (inr l) = omega (arith, signed_linear, l, c.first_from.ensures.size)
    from (inl l) =
        let el : to_z w32 (of_z w32 low) ≡ low = omega (arith, signed_linear, c.low_x.ensures.size) in
        let on = c.first_from.ensures.from first (omega (arith, signed_linear)) in
        let over = c.low_x.ensures.met (pos 128 *ℤ first +ℤ pos 65)
        (to_all (λ q. (pos 128 *ℤ first +ℤ pos 65) ≤ℤ q.x) s (λ q p. let b = h.0 first l q p in omega (arith, signed_linear, b))) in
        absurd (omega (arith, signed_linear, on, over, el))

    to : (m <ℤ end) ⊎ (end ≤ℤ m) → to_z w32 (of_z w32 end) ≤ℤ m
    to (inr l) = omega (arith, signed_linear, l, c.first_from-2.ensures.size)
    to (inl l) =
        let eh : to_z w32 (of_z w32 (to_z w32 (of_z w32 high) +ℤ pos 1)) ≡ high +ℤ pos 1 =
        omega (arith, signed_linear, c.high_x.ensures.size) in
        let before = c.first_from-2.ensures.before m l in
        let under = c.high_x.ensures.met (pos 128 *ℤ m +ℤ pos 63)
        (to_all (λ q. q.x ≤ℤ (pos 128 *ℤ m +ℤ pos 63)) s
        (λ q p. let b = h.1 m (omega (arith, signed_linear)) q p in omega (arith, signed_linear, b))) in
        absurd (omega (arith, signed_linear, before, under, eh))
