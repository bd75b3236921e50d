-- The remainder gives the greatest member of a grid (`greatest_by_rem`), and so the rounded distance: `rounded_from`.
-- Serves `greatest_member`, `round_size`, `Grid::round`, `RoundState::round` and `rounding_laws`.
use Rattle.std.proofs.Common.{◌≡◌, ℕ, ◌+◌, ◌<◌, ◌≤◌, arith, ℤ, pos, negsuc, neg_ℤ, ◌+ℤ◌, ◌-ℤ◌, ◌*ℤ◌, ◌<ℤ◌, ◌≤ℤ◌, unsigned_abs}
use Rattle.std.proofs.Common.{◌∙◌, sym, ap}
use Rattle.std.proofs.Math.Nat.{mul-le-mul_right}
use Rattle.std.proofs.lemmas.Int.{ints, by_lt_z}
use borrow.Author.Differences.{up, down}
use Rattle.std.specs.Int.{int_rem_euclid, int_div_euclid}
use Rattle.fx_fixed.proofs.Rounding.{by_quotient}
use Rattle.fx_fixed.specs.Numbers.{wrapped_of}
use Rattle.fx_gstate.specs.Grid.{GridView, OnGrid, IsGreatestNotAbove, IsRoundedSize, IsRounded, RoundedIsFunctional}
use Rattle.fx_gstate.specs.Grid.{RoundedOfIsRounded, grid_rounded_of, member_of, member_or_phase, with_sign_of}

-- no member lies between two that follow each other
no_member_between : (p : ℕ) (phase x q n : ℤ) → x <ℤ (phase +ℤ q *ℤ pos p +ℤ pos p) → (phase +ℤ n *ℤ pos p) ≤ℤ x
    → (phase +ℤ n *ℤ pos p) ≤ℤ (phase +ℤ q *ℤ pos p)
no_member_between p phase x q n above below = by_lt_z q n
    (λ l. let m : up q + down n + 1 ≤ up n + down q = omega (arith, ints) in absurd (omega (arith, ints, mul-le-mul_right p m)))
    (λ l. let m : up n + down q ≤ up q + down n = omega (arith, ints) in omega (arith, ints, mul-le-mul_right p m))

pub greatest_by_quotient : (p : ℕ) (phase x m q : ℤ) → m ≡ phase +ℤ q *ℤ pos p → m ≤ℤ x → x <ℤ (m +ℤ pos p)
    → IsGreatestNotAbove (OnGrid (pos p) phase) x m
greatest_by_quotient p phase x m q e low high = record {
  member = record { index = q; is = e };
  not_above = low;
  greatest = λ k g l. rw (g.is, e) (no_member_between p phase x q g.index (rw e at high) (rw g.is at l));
}

rem_is : (a : ℤ) (p : ℕ) → 0 < p → (pos 0 ≤ℤ int_rem_euclid a (pos p)) × (int_rem_euclid a (pos p) <ℤ pos p)
rem_is (pos a) p h = omega (arith, ints)
rem_is (negsuc a) p h = omega (arith, ints)

pub greatest_by_rem : (period phase x : ℤ) → pos 1 ≤ℤ period
    → IsGreatestNotAbove (OnGrid period phase) x (x -ℤ int_rem_euclid (x -ℤ phase) period)
greatest_by_rem (pos p) phase x h =
    let some : 0 < p = omega (arith, ints) in
    let r = rem_is (x -ℤ phase) p some in
    let q = by_quotient (x -ℤ phase) p some in
    greatest_by_quotient p phase x (x -ℤ int_rem_euclid (x -ℤ phase) (pos p)) (int_div_euclid (x -ℤ phase) (pos p))
    (omega (arith, ints, q)) (omega (arith, ints, r)) (omega (arith, ints, r))
greatest_by_rem (negsuc p) phase x h = absurd (omega (arith, ints))

-- ---- one result

one_greatest : (P : ℤ → Type 0) (x m n : ℤ) → IsGreatestNotAbove P x m → IsGreatestNotAbove P x n → m ≡ n
one_greatest P x m n g h =
    let a = g.greatest n h.member h.not_above in let b = h.greatest m g.member g.not_above in omega (arith, ints, a, b)

one_size : (grid : GridView) (s : ℕ) (v w : ℤ) → IsRoundedSize grid s v → IsRoundedSize grid s w → v ≡ w
one_size grid s v w g h =
    let e = one_greatest (OnGrid grid.period grid.phase) (pos s +ℤ grid.threshold) g.member h.member g.greatest h.greatest in
    by_lt_z g.member (pos 0)
    (λ l. g.raised l ∙ sym (h.raised (rw e at l)))
    (λ l. g.kept l ∙ e ∙ sym (h.kept (rw e at l)))

pub one_rounded : RoundedIsFunctional
one_rounded grid d r s g h =
    let e = one_size grid (unsigned_abs d) g.size h.size g.rounded h.rounded in
    by_lt_z d (pos 0)
    (λ l. g.negative l ∙ ap (λ z. wrapped_of (neg_ℤ z)) e ∙ sym (h.negative l))
    (λ l. g.not_negative l ∙ ap wrapped_of e ∙ sym (h.not_negative l))

-- with each value by its own equation, as code gives them
pub greatest_from : (period phase x m rem a p : ℤ) → pos 1 ≤ℤ period → rem ≡ int_rem_euclid a p → a ≡ x -ℤ phase → p ≡ period
    → m ≡ x -ℤ rem → IsGreatestNotAbove (OnGrid period phase) x m
greatest_from period phase x m rem a p h e f g i = rw (i, e, f, g) (greatest_by_rem period phase x h)

pub size_from : (grid : GridView) (s : ℕ) (period phase x member v : ℤ) → IsGreatestNotAbove (OnGrid period phase) x member
    → period ≡ grid.period → phase ≡ grid.phase → x ≡ pos s +ℤ grid.threshold → (pos 0 ≤ℤ member → v ≡ member)
    → (member <ℤ pos 0 → v ≡ grid.phase) → IsRoundedSize grid s v
size_from grid s period phase x member v g p q e k r =
    record { member = member; greatest = rw (p, q, e) at g; kept = k; raised = r }

pub rounded_from : (grid : GridView) (d r : ℤ) (s : ℕ) (size signed : ℤ) → IsRoundedSize grid s size → s ≡ unsigned_abs d
    → (pos 0 ≤ℤ d → signed ≡ size) → (d <ℤ pos 0 → signed ≡ neg_ℤ size) → r ≡ wrapped_of signed → IsRounded grid d r
rounded_from grid d r s size signed g a n m w = record {
  size = size;
  rounded = rw a at g;
  not_negative = λ h. w ∙ ap wrapped_of (n h);
  negative = λ h. w ∙ ap wrapped_of (m h);
}

-- ---- the function

kept_is : (phase member : ℤ) → pos 0 ≤ℤ member → member_or_phase phase member ≡ member
kept_is phase member h = grind (arith, ints)

raised_is : (phase member : ℤ) → member <ℤ pos 0 → member_or_phase phase member ≡ phase
raised_is phase member h = grind (arith, ints)

sign_kept : (d size : ℤ) → pos 0 ≤ℤ d → with_sign_of d size ≡ size
sign_kept d size h = grind (arith, ints)

sign_turned : (d size : ℤ) → d <ℤ pos 0 → with_sign_of d size ≡ neg_ℤ size
sign_turned d size h = grind (arith, ints)

pub rounded_of_is_rounded : RoundedOfIsRounded
unfolding grid_rounded_of
rounded_of_is_rounded g d h =
    let x = pos (unsigned_abs d) +ℤ g.threshold in
    let member = member_of g.period g.phase x in record {
      size = member_or_phase g.phase member;
      rounded = record {
        member = member;
        greatest = greatest_by_rem g.period g.phase x h;
        kept = kept_is g.phase member;
        raised = raised_is g.phase member;
      };
      not_negative = λ n. ap wrapped_of (sign_kept d (member_or_phase g.phase member) n);
      negative = λ n. ap wrapped_of (sign_turned d (member_or_phase g.phase member) n);
    }

-- what is rounded is the function's result
pub same_rounded : (g : GridView) (d r : ℤ) → pos 1 ≤ℤ g.period → IsRounded g d r → r ≡ grid_rounded_of g d
same_rounded g d r h is = one_rounded g d r (grid_rounded_of g d) is (rounded_of_is_rounded g d h)
