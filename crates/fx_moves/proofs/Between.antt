-- A delta in proportion lies between those of its two points, as `inferred_between_both` says.
-- For the law of inferred deltas.
use Rattle.std.proofs.Common.{◌≡◌, ◌≢◌, ℕ, zero, suc, ◌*◌, ◌≤◌, ℤ, pos, negsuc, ◌<ℤ◌, ◌≤ℤ◌, ◌-ℤ◌, ◌*ℤ◌, unsigned_abs, Bool, true, false, refl, arith}
use Rattle.std.specs.Prelude.{int_lt, int_le}
use Rattle.std.specs.Ordering.{int_eq}
use Rattle.std.proofs.lemmas.Bool.Decides.{Decides-int_eq}
use Rattle.std.proofs.Math.Nat.{mul_comm, mul_assoc}
use Rattle.std.proofs.lemmas.Int.{ints}
use Rattle.fx_axes.specs.Rounding.{near_up_of}
use Rattle.fx_axes.proofs.Quotients.{near_within, near_up_within}
use Rattle.fx_fixed.specs.Numbers.{near_size}
use Rattle.fx_fixed.proofs.Bounds.{product_size}
use Rattle.fx_fixed.proofs.Signs.{product_at_least_zero}
use Rattle.fx_moves.specs.declared.inferring.Named.{Named}
use Rattle.fx_moves.specs.Inferred.{one, in_proportion_of, inferred_between, inferred_of}
use Rattle.fx_moves.specs.Laws.{IsBetween}

-- a rounded quotient has the sign of what is divided
above : (n : ℤ) (d : ℕ) → pos 0 ≤ℤ n → pos 0 ≤ℤ near_up_of n d
unfolding near_up_of
above (pos n) d h = omega (arith, ints)
above (negsuc n) d h = absurd (omega (arith, ints, h))

-- a product with a number that is not below 0 has the other's sign
up_product : (a e : ℤ) → pos 0 ≤ℤ a → pos 0 ≤ℤ e → pos 0 ≤ℤ (a *ℤ e *ℤ one)
up_product a e h k = product_at_least_zero (a *ℤ e) one (product_at_least_zero a e h k) (omega (arith, ints))

down_product : (a e : ℤ) → pos 0 ≤ℤ a → e <ℤ pos 0 → (a *ℤ e *ℤ one) ≤ℤ pos 0
down_product (pos a) (pos e) h k = absurd (omega (arith, ints))
down_product (pos a) (negsuc e) h k = omega (arith, ints)
down_product (negsuc a) e h k = absurd (omega (arith, ints))

turned : (w m n : ℕ) → n ≤ (w * m) * 65536 → n ≤ m * 65536 * w
turned w m n h = omega (arith, h, mul_comm w m, mul_assoc m 65536 w, mul_assoc m w 65536, mul_comm 65536 w)

-- 0 is not moved
near_zero : (d : ℕ) → d ≢ 0 → near_size 0 d ≡ 0
near_zero d z = omega (arith, near_within 0 d 0 z (omega arith))

not_above : (n : ℤ) (d : ℕ) → d ≢ 0 → n ≤ℤ pos 0 → near_up_of n d ≤ℤ pos 0
unfolding near_up_of
not_above (pos zero) d z h = omega (arith, ints, near_zero d z)
not_above (pos (suc n)) d z h = absurd (omega (arith, ints, h))
not_above (negsuc n) d z h = omega (arith, ints)

within : (a e : ℤ) (w : ℕ) → w ≢ 0 → unsigned_abs a ≤ w → unsigned_abs (near_up_of (a *ℤ e *ℤ one) w) ≤ unsigned_abs e * 65536
within a e w z h =
    let m = unsigned_abs e in
    let b : unsigned_abs (a *ℤ e) ≤ w * m = product_size w m a e h (omega arith) in
    let c : unsigned_abs (a *ℤ e *ℤ one) ≤ (w * m) * 65536 = product_size (w * m) 65536 (a *ℤ e) one b (omega arith) in
    near_up_within (a *ℤ e *ℤ one) w (m * 65536) z (turned w m (unsigned_abs (a *ℤ e *ℤ one)) c)

part_between : (a e : ℤ) (w : ℕ) → w ≢ 0 → pos 0 ≤ℤ a → unsigned_abs a ≤ w → IsBetween (pos 0) e (near_up_of (a *ℤ e *ℤ one) w)
part_between a (pos e) w z p h =
    let s : unsigned_abs (near_up_of (a *ℤ pos e *ℤ one) w) ≤ e * 65536 = within a (pos e) w z h in
    let u : pos 0 ≤ℤ near_up_of (a *ℤ pos e *ℤ one) w =
    above (a *ℤ pos e *ℤ one) w (up_product a (pos e) p (omega (arith, ints))) in
    record {
      rising = λ r. (omega (arith, ints, u), omega (arith, ints, s, u));
      falling = λ f. (omega (arith, ints, s, u, f), omega (arith, ints, s, u, f));
    }
part_between a (negsuc e) w z p h =
    let s : unsigned_abs (near_up_of (a *ℤ negsuc e *ℤ one) w) ≤ suc e * 65536 = within a (negsuc e) w z h in
    let u : near_up_of (a *ℤ negsuc e *ℤ one) w ≤ℤ pos 0 =
    not_above (a *ℤ negsuc e *ℤ one) w z (down_product a (negsuc e) p (omega (arith, ints))) in
    record {
      rising = λ r. absurd (omega (arith, ints, r));
      falling = λ f. (omega (arith, ints, s, u), omega (arith, ints, u));
    }

by_test : {C : Type 0} (b : Bool) → (b ≡ true → C) → (b ≡ false → C) → C
by_test true t f = t refl
by_test false t f = f refl

in_proportion : (x : ℤ) (lo hi : Named) → lo.at <ℤ x → x <ℤ hi.at → IsBetween lo.delta hi.delta (in_proportion_of x lo hi)
unfolding in_proportion_of
in_proportion x lo hi h k =
    let w = unsigned_abs (hi.at -ℤ lo.at) in
    let b : IsBetween (pos 0) (hi.delta -ℤ lo.delta) (near_up_of ((x -ℤ lo.at) *ℤ (hi.delta -ℤ lo.delta) *ℤ one) w) =
    part_between (x -ℤ lo.at) (hi.delta -ℤ lo.delta) w (omega (arith, ints, h, k)) (omega (arith, ints, h))
    (omega (arith, ints, h, k)) in
    record {
      rising = λ r. let q = b.rising (omega (arith, ints, r)) in (omega (arith, ints, q.0), omega (arith, ints, q.1));
      falling = λ f. let q = b.falling (omega (arith, ints, f)) in (omega (arith, ints, q.0), omega (arith, ints, q.1));
    }

exchanged : (a b d : ℤ) → IsBetween a b d → IsBetween b a d
exchanged a b d h = record { rising = h.falling; falling = h.rising }

-- the delta of one of two
at_first : (a b : ℤ) → IsBetween a b (a *ℤ one)
at_first a b = record {
  rising = λ r. (omega (arith, ints), omega (arith, ints, r));
  falling = λ r. (omega (arith, ints, r), omega (arith, ints));
}

between_two : (x : ℤ) (lo hi : Named) → lo.at <ℤ hi.at → IsBetween lo.delta hi.delta (inferred_between x lo hi)
between_two x lo hi h = by_test (int_le x lo.at)
    (λ a. rw a (at_first lo.delta hi.delta))
    (λ a. rw a (by_test (int_le hi.at x)
    (λ b. rw b (exchanged hi.delta lo.delta (hi.delta *ℤ one) (at_first hi.delta lo.delta)))
    (λ b. rw b (in_proportion x lo hi (omega (arith, ints, a)) (omega (arith, ints, b))))))

pub inferred_between_both : (x : ℤ) (before after : Named) → before.at ≢ after.at
    → IsBetween before.delta after.delta (inferred_of x before after)
inferred_between_both x before after h = by_test (int_eq before.at after.at)
    (λ e. absurd (h ((Decides-int_eq before.at after.at).0 e)))
    (λ e. rw e (by_test (int_lt before.at after.at)
    (λ l. rw l (between_two x before after (omega (arith, ints, l))))
    (λ l. rw l (exchanged _ _ _ (between_two x after before (apart before.at after.at h l))))))
  where
    apart : (a b : ℤ) → a ≢ b → int_lt a b ≡ false → b <ℤ a
    apart a b n l = omega (arith, ints, n, l)
