-- Point numbers, one at a time: after a step those that are left are the rest of all, as `number_stepped` says.
-- For `skip_numbers` and the iterator `Numbers`.
use Rattle.std.proofs.Common.{◌≡◌, ◌≢◌, ℕ, suc, ◌-◌, [], Some, None, refl, sym, ap, ◌∙◌}
use Rattle.std.specs.Prelude.{IsSome, option_map, option_and_then}
use Rattle.fx_glyf.specs.Words.{with_front, list_in}
use Rattle.fx_tuples.specs.Numbers.{NumberCursor, next_number, numbers_from}
use Rattle.fx_glyf.proofs.Steps.{Stepped, front_rest, none_absurd, stepped}
use Rattle.fx_tuples.proofs.Steps.{below}

-- no number is left
pub numbers_done : (c : NumberCursor) (n : ℕ) → n ≡ 0 → numbers_from n c ≡ Some ([], c.bytes)
unfolding numbers_from
numbers_done c n e = ap (λ (m : ℕ). numbers_from m c) e

pub numbers_none : (n : ℕ) (c : NumberCursor) → n ≡ 0 → list_in (numbers_from n c) ≡ []
numbers_none n c e = ap list_in (numbers_done c n e)

-- the next number is d's
pub numbers_at : (n m : ℕ) (c d : NumberCursor) → n ≡ suc m → Some d ≡ next_number n c
    → numbers_from n c ≡ with_front d.number (numbers_from m d)
unfolding numbers_from
numbers_at n m c d h e =
    ap (λ (k : ℕ). numbers_from k c) h
    ∙ ap (option_and_then (λ (x : NumberCursor). with_front x.number (numbers_from m x))) (ap (λ (k : ℕ). next_number k c)
    (sym h) ∙ sym e)

-- there is no next number
pub numbers_short : (n m : ℕ) (c : NumberCursor) → n ≡ suc m → None ≡ next_number n c → numbers_from n c ≡ None
unfolding numbers_from
numbers_short n m c h e =
    ap (λ (k : ℕ). numbers_from k c) h
    ∙ ap (option_and_then (λ (x : NumberCursor). with_front x.number (numbers_from m x))) (ap (λ (k : ℕ). next_number k c)
    (sym h) ∙ sym e)

-- the bytes after a step are those after all
pub numbers_passed : (n m : ℕ) (c d : NumberCursor) → n ≢ 0 → m ≡ n - 1 → Some d ≡ next_number n c
    → option_map (λ r. r.1) (numbers_from m d) ≡ option_map (λ r. r.1) (numbers_from n c)
numbers_passed n m c d h k e =
    sym (ap (option_map (λ r. r.1)) (numbers_at n m c d (below n m h k) e) ∙ front_rest d.number (numbers_from m d))

pub numbers_stopped : (n : ℕ) (c : NumberCursor) → n ≢ 0 → None ≡ next_number n c
    → None ≡ option_map (λ r. r.1) (numbers_from n c)
numbers_stopped n c h e = sym (ap (option_map (λ r. r.1)) (numbers_short n (n - 1) c (below n (n - 1) h refl) e))

pub numbers_ended : (n : ℕ) (c : NumberCursor) → n ≡ 0 → Some c.bytes ≡ option_map (λ r. r.1) (numbers_from n c)
numbers_ended n c h = sym (ap (option_map (λ r. r.1)) (numbers_done c n h))

-- a step of the iterator
pub number_stepped : (n m : ℕ) (c d : NumberCursor) → n ≢ 0 → m ≡ n - 1 → Some d ≡ next_number n c → IsSome (numbers_from n c)
    → Stepped (numbers_from n c) (numbers_from m d) d.number
number_stepped n m c d h k e s = stepped _ _ _ (numbers_at n m c d (below n m h k) e) s

pub number_there : (n : ℕ) (c : NumberCursor) → n ≢ 0 → None ≡ next_number n c → IsSome (numbers_from n c) → ⊥
number_there n c h e s = none_absurd _ (numbers_short n (n - 1) c (below n (n - 1) h refl) e) s

pub ruleset next_steps = (numbers_none, number_stepped, number_there)

pub ruleset skip_steps = (numbers_passed, numbers_stopped, numbers_ended)
