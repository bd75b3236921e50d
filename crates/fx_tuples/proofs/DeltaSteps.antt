-- Deltas, one at a time: after a step those that are left are the rest of all, as `delta_stepped` says.
-- For `skip_deltas` and the iterator `Deltas`.
use Rattle.std.proofs.Common.{◌≡◌, ◌≢◌, ℕ, suc, ◌-◌, [], Some, None, refl, sym, ap, ◌∙◌}
use Rattle.std.specs.Prelude.{IsSome, option_map, option_and_then}
use Rattle.fx_glyf.specs.Words.{with_front, list_in}
use Rattle.fx_tuples.specs.Deltas.{DeltaCursor, next_delta, deltas_from}
use Rattle.fx_glyf.proofs.Steps.{Stepped, front_rest, none_absurd, stepped}
use Rattle.fx_tuples.proofs.Steps.{below}

-- no delta is left
pub deltas_done : (c : DeltaCursor) (n : ℕ) → n ≡ 0 → deltas_from n c ≡ Some ([], c.bytes)
unfolding deltas_from
deltas_done c n e = ap (λ (m : ℕ). deltas_from m c) e

pub deltas_none : (n : ℕ) (c : DeltaCursor) → n ≡ 0 → list_in (deltas_from n c) ≡ []
deltas_none n c e = ap list_in (deltas_done c n e)

-- the next delta is d's
pub deltas_at : (n m : ℕ) (c d : DeltaCursor) → n ≡ suc m → Some d ≡ next_delta n c
    → deltas_from n c ≡ with_front d.delta (deltas_from m d)
unfolding deltas_from
deltas_at n m c d h e =
    ap (λ (k : ℕ). deltas_from k c) h
    ∙ ap (option_and_then (λ (x : DeltaCursor). with_front x.delta (deltas_from m x))) (ap (λ (k : ℕ). next_delta k c) (sym h)
    ∙ sym e)

-- there is no next delta
pub deltas_short : (n m : ℕ) (c : DeltaCursor) → n ≡ suc m → None ≡ next_delta n c → deltas_from n c ≡ None
unfolding deltas_from
deltas_short n m c h e =
    ap (λ (k : ℕ). deltas_from k c) h
    ∙ ap (option_and_then (λ (x : DeltaCursor). with_front x.delta (deltas_from m x))) (ap (λ (k : ℕ). next_delta k c) (sym h)
    ∙ sym e)

-- the bytes after a step are those after all
pub deltas_passed : (n m : ℕ) (c d : DeltaCursor) → n ≢ 0 → m ≡ n - 1 → Some d ≡ next_delta n c
    → option_map (λ r. r.1) (deltas_from m d) ≡ option_map (λ r. r.1) (deltas_from n c)
deltas_passed n m c d h k e =
    sym (ap (option_map (λ r. r.1)) (deltas_at n m c d (below n m h k) e) ∙ front_rest d.delta (deltas_from m d))

pub deltas_stopped : (n : ℕ) (c : DeltaCursor) → n ≢ 0 → None ≡ next_delta n c
    → None ≡ option_map (λ r. r.1) (deltas_from n c)
deltas_stopped n c h e = sym (ap (option_map (λ r. r.1)) (deltas_short n (n - 1) c (below n (n - 1) h refl) e))

pub deltas_ended : (n : ℕ) (c : DeltaCursor) → n ≡ 0 → Some c.bytes ≡ option_map (λ r. r.1) (deltas_from n c)
deltas_ended n c h = sym (ap (option_map (λ r. r.1)) (deltas_done c n h))

-- a step of the iterator
pub delta_stepped : (n m : ℕ) (c d : DeltaCursor) → n ≢ 0 → m ≡ n - 1 → Some d ≡ next_delta n c → IsSome (deltas_from n c)
    → Stepped (deltas_from n c) (deltas_from m d) d.delta
delta_stepped n m c d h k e s = stepped _ _ _ (deltas_at n m c d (below n m h k) e) s

pub delta_there : (n : ℕ) (c : DeltaCursor) → n ≢ 0 → None ≡ next_delta n c → IsSome (deltas_from n c) → ⊥
delta_there n c h e s = none_absurd _ (deltas_short n (n - 1) c (below n (n - 1) h refl) e) s

pub ruleset next_steps = (deltas_none, delta_stepped, delta_there)

pub ruleset skip_steps = (deltas_passed, deltas_stopped, deltas_ended)
