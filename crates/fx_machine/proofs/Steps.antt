-- The function's answer is the relation's (`answer_is`), and there is no other (`one_answer`).
-- Serves the laws of `answer_of` and the loop of `run`.
use Rattle.std.proofs.Common.{◌≡◌, ◌⊎◌, inl, inr, ℕ, zero, suc, ◌+◌, ◌-◌, ◌<◌, ◌≤◌, List, [], ◌∷◌, length, refl, sym, ap, ◌∙◌, Some, subst}
use Rattle.std.specs.Prelude.{slice_get}
use Rattle.std.proofs.Common.{arith, add-zero, zero-add}
use Rattle.std.proofs.Math.Numerals.{one-add}
use Rattle.std.proofs.lemmas.Bool.{cases_lt, lt-ltb, le-ltb}
use Rattle.fx_machine.specs.declared.program.Program.{Program}
use Rattle.fx_machine.specs.declared.definitions.Function.{Function}
use Rattle.fx_machine.specs.declared.halt.Cause.{Cause}
use Rattle.fx_machine.specs.declared.halt.Cause.TheVariants.{CallDepth}
use Rattle.fx_machine.specs.declared.calls.OpenCall.{OpenCall}
use Rattle.fx_machine.specs.declared.state.State.{State}
use Rattle.fx_machine.specs.Effects.{Effect, Ends, Fails, Goes, Calls, Returns}
use Rattle.fx_machine.specs.Runs.{How, Ended, Returned, Faulted, Open, IsLast, Start, At, Turns, Runs, open_at, ends}
use Rattle.fx_machine.specs.Limits.{CALL_LIMIT}
use Rattle.fx_machine.specs.Runs.{ends_inside, fails, goes, returns, returns_outside, calls, too_deep, done, turn, last_turn}
use Rattle.fx_machine.specs.Runs.{Verdict, Finished, Halted, Exhausted, Answer, finished, faulted, stopped}
use Rattle.fx_machine.specs.Machine.{Config, config, turned, Move, Finishes, Stops, Moves, moved_by, answer_from, answer_of}
use Rattle.fx_machine.specs.Machine.{verdict_by, verdict_at_limit}
use Rattle.fx_machine.specs.Events.{Step, steps_from, steps_of, Counts, LeadsTo}
use Rattle.fx_machine.proofs.Stepping.{none_left, none_after_end, none_after_halt, one_step}

module _ (row : Program → ℕ → State → Effect) where
  abbrev go : ℕ → ℕ → Config → Verdict
  go left n c = answer_from row left n c

  -- ---- one instruction of the function

  -- what comes of the instruction at an address within these open calls
  pub record Takes (K : List OpenCall) (w : Program) (p : ℕ) (s : State) (m : Move) : Type 0 where
    pub is : moved_by (row w p s) K w ≡ m

  pub go_none : (n : ℕ) (K : List OpenCall) (w : Program) (p : ℕ) (s : State) (m : Move) → Takes K w p s m
      → go zero n (config K w p s) ≡ verdict_at_limit n w p s m
  unfolding answer_from
  go_none n K w p s m e = rw e.is refl

  pub go_one : (left n : ℕ) (K : List OpenCall) (w : Program) (p : ℕ) (s : State) (m : Move) → Takes K w p s m
      → go (suc left) n (config K w p s) ≡ verdict_by (λ to. go left (suc n) to) n w p s m
  unfolding answer_from
  go_one left n K w p s m e = rw e.is refl

  pub go_finishes : (left n : ℕ) (K : List OpenCall) (w : Program) (p : ℕ) (s : State) → Takes K w p s Finishes
      → go left n (config K w p s) ≡ Finished n s
  go_finishes zero n K w p s e = go_none n K w p s Finishes e
  go_finishes (suc left) n K w p s e = go_one left n K w p s Finishes e

  -- ---- from runs to the function

  -- n instructions lead from one configuration to another
  record Skips (c : Config) (n : ℕ) (d : Config) : Type 0 where
    pub skips : (k m : ℕ) → go (n + k) m c ≡ go k (n + m) d

  skip_none : (c : Config) → Skips c 0 c
  skip_none c = record { skips = λ k m. rw (zero-add k, zero-add m) refl }

  skip_one : {K : List OpenCall} {w : Program} {p : ℕ} {s : State} {d : Config} → Takes K w p s (Moves d)
      → Skips (config K w p s) 1 d
  skip_one {K = K} {w = w} {p = p} {s = s} {d = d} e =
      record { skips = λ k m. rw (one-add k, one-add m) (go_one k m K w p s (Moves d) e) }

  skip_then : {c d e : Config} {m n : ℕ} → Skips c m d → Skips d n e → Skips c (m + n) e
  skip_then {m = m} {n = n} x y = record {
    skips = λ k j.
        let a : m + n + k ≡ m + (n + k) = omega arith in
        let b : m + n + j ≡ n + (m + j) = omega arith in
        rw (a, b) (x.skips (n + k) j ∙ y.skips k (m + j));
  }

  -- where a run leads, from a configuration within these open calls
  Comes : Config → ℕ → List OpenCall → State → How → Type 0
  Comes c n K u Ended = (k m : ℕ) → go (n + k) m c ≡ Finished (n + m) u
  Comes c n K u (Faulted x v q) = (k m : ℕ) → go (n + suc k) m c ≡ Halted x v q
  Comes c n K u (Open v q) = (L : List OpenCall) × Skips c n (config L v q u)
  Comes c n [] u Returned = ⊥
  Comes c n (g ∷ K) u Returned = Skips c n (turned g.left g.function g.next K g.program u)

  -- what comes of a later configuration comes of an earlier one
  comes_before : {c d : Config} {m : ℕ} (n : ℕ) (K : List OpenCall) (u : State) (how : How) → Skips c m d → Comes d n K u how
      → Comes c (m + n) K u how
  unfolding Comes
  comes_before {m = m} n K u Ended x y = λ k j.
      let a : m + n + k ≡ m + (n + k) = omega arith in
      let b : m + n + j ≡ n + (m + j) = omega arith in
      rw (a, b) (x.skips (n + k) j ∙ y k (m + j))
  comes_before {m = m} n K u (Faulted f v q) x y = λ k j.
      let a : m + n + suc k ≡ m + (n + suc k) = omega arith in
      rw a (x.skips (n + suc k) j ∙ y k (m + j))
  comes_before n K u (Open v q) x y = (y.0, skip_then x y.1)
  comes_before n [] u Returned x y = y
  comes_before n (g ∷ K) u Returned x y = skip_then x y

  comes_step : {K' : List OpenCall} {w : Program} {p : ℕ} {s : State} {d : Config} (n : ℕ) (K : List OpenCall) (u : State)
      (how : How)
      → Takes K' w p s (Moves d) → Comes d n K u how → Comes (config K' w p s) (suc n) K u how
  comes_step n K u how e x = rw (← one-add n) (comes_before n K u how (skip_one e) x)

  -- the calls do not matter to a run that does not come back
  comes_last : (c : Config) (n : ℕ) (K L : List OpenCall) (u : State) (how : How) → IsLast how → Comes c n K u how
      → Comes c n L u how
  unfolding Comes
  comes_last c n K L u Ended l x = x
  comes_last c n K L u (Faulted y w p) l x = x
  comes_last c n K L u (Open w p) l x = x
  comes_last c n K L u Returned l x = absurd l

  comes_end : {w : Program} {p : ℕ} {s : State} → Takes [] w p s Finishes → Comes (config [] w p s) 0 [] s Ended
  unfolding Comes
  comes_end {w = w} {p = p} {s = s} e k m = rw (zero-add k, zero-add m) (go_finishes k m [] w p s e)

  comes_fault : {K : List OpenCall} {w : Program} {p : ℕ} {s : State} {c : Cause} → Takes K w p s (Stops c)
      → Comes (config K w p s) 0 K s (Faulted c w p)
  unfolding Comes
  comes_fault {K = K} {w = w} {p = p} {s = s} {c = c} e k m = rw (zero-add (suc k)) (go_one k m K w p s (Stops c) e)

  -- what an effect takes
  takes : {K : List OpenCall} {w : Program} {p : ℕ} {s : State} {x : Effect} {m : Move} → row w p s ≡ x → moved_by x K w ≡ m
      → Takes K w p s m
  takes e h = record { is = rw e h }

  -- the configuration of a start within these open calls
  begun : Start → List OpenCall → Program → State → Config
  begun (At p) K w s = config K w p s
  begun (Turns k f next) K w s = turned k f next K w s

  called : (K : List OpenCall) (w : Program) (k : ℕ) (f : Function) (next : ℕ) (t : State) → length K < CALL_LIMIT
      → moved_by (Calls k f next t) K w ≡ Moves (turned k f next K w t)
  called K w k f next t h = rw (lt-ltb (length K) CALL_LIMIT h) refl

  deep : (K : List OpenCall) (w : Program) (k : ℕ) (f : Function) (next : ℕ) (t : State) → CALL_LIMIT ≤ length K
      → moved_by (Calls k f next t) K w ≡ Stops CallDepth
  deep K w k f next t h = rw (le-ltb (length K) CALL_LIMIT h) refl

  -- a run of n instructions is n steps of the function, within any open calls
  comes_of : {w : Program} {st : Start} {d n : ℕ} {s u : State} {how : How} → Runs row w st d s n u how
      → (K : List OpenCall) → length K ≡ d → Comes (begun st K w s) n K u how
  unfolding Comes begun
  comes_of (open_at {w = w} {p = p} {s = s}) K e = (K, skip_none (config K w p s))
  comes_of (ends x) [] e = comes_end (takes x refl)
  comes_of (ends x) (g ∷ K) e = absurd (omega arith)
  comes_of (ends_inside x) [] e = absurd (omega arith)
  comes_of (ends_inside x) (g ∷ K) e = comes_fault (takes x refl)
  comes_of (fails x) K e = comes_fault (takes x refl)
  comes_of (goes {n = n} {u = u} {how = how} x r) K e = comes_step n K u how (takes x refl) (comes_of r K e)
  comes_of (returns x) [] e = absurd (omega arith)
  comes_of (returns x) (g ∷ K) e = skip_one (takes x refl)
  comes_of (returns_outside x) [] e = comes_fault (takes x refl)
  comes_of (returns_outside x) (g ∷ K) e = absurd (omega arith)
  comes_of (calls {w = w} {n = n} {u = u} {how = how} x d r) K e =
      comes_step n K u how (takes x (called K w _ _ _ _ (rw e d))) (comes_of r K e)
  comes_of (too_deep {w = w} x d) K e = comes_fault (takes x (deep K w _ _ _ _ (rw e d)))
  comes_of (done r) K e = comes_of r K e
  comes_of (turn {w = w} {m = m} {n = n} {k = k} {next = next} {f = f} {u = u} {how = how} r r') K e =
      comes_before n K u how (comes_of r (record { function = f; left = k; program = w; next = next } ∷ K) (ap suc e))
      (comes_of r' K e)
  comes_of (last_turn {w = w} {m = m} {k = k} {next = next} {f = f} {t = t} {how = how} r l) K e =
      comes_last _ m (record { function = f; left = k; program = w; next = next } ∷ K) K t how l
      (comes_of r (record { function = f; left = k; program = w; next = next } ∷ K) (ap suc e))

  -- ---- from the function to runs

  -- what is left of the whole from a start within these open calls
  Rest : List OpenCall → Program → Start → State → ℕ → State → How → Type 0
  Rest [] w st s n u how = Runs row w st 0 s n u how
  Rest (g ∷ K) w st s n u how =
      (Runs row w st (suc (length K)) s n u how × IsLast how)
      ⊎ ((m k : ℕ) × (t : State) × Runs row w st (suc (length K)) s m t Returned × Rest K g.program (Turns g.left g.function g.next)
      t k u how × (n ≡ m + k))

  -- a run that does not come back is all that is left
  rest_last : (K : List OpenCall) {w : Program} {st : Start} {s : State} {n : ℕ} {u : State} {how : How}
      → Runs row w st (length K) s n u how → IsLast how → Rest K w st s n u how
  unfolding Rest
  rest_last [] r l = r
  rest_last (g ∷ K) r l = inl (r, l)

  -- what stands before a run stands before what is left
  rest_before : (K : List OpenCall) {w w' : Program} {st st' : Start} {s s' : State} (j n : ℕ) (u : State) (how : How)
      → ((m : ℕ) (t : State) (h : How) → Runs row w st (length K) s m t h → Runs row w' st' (length K) s' (j + m) t h)
      → Rest K w st s n u how → Rest K w' st' s' (j + n) u how
  unfolding Rest
  rest_before [] j n u how before r = before _ _ _ r
  rest_before (g ∷ K) j n u how before (inl r) = inl (before _ _ _ r.0, r.1)
  rest_before (g ∷ K) j n u how before (inr r) = inr (j + r.0, r.1, r.2, before _ _ _ r.3, r.4, let e = r.5 in omega arith)

  -- what is left from a configuration
  Left : Config → ℕ → State → How → Type 0
  Left (config K w p s) n u how = Rest K w (At p) s n u how

  rest_turned : (k : ℕ) (f : Function) (next : ℕ) (K : List OpenCall) (w : Program) (s : State) (n : ℕ) (u : State) (how : How)
      → Left (turned k f next K w s) n u how → Rest K w (Turns k f next) s n u how
  unfolding Left Rest
  rest_turned zero f next K w s n u how r = rw (← zero-add n) (rest_before K 0 n u how (λ m t h x. rw zero-add (done x)) r)
  rest_turned (suc k) f next K w s n u how (inl r) = rest_last K (last_turn r.0 r.1) r.1
  rest_turned (suc k) f next K w s n u how (inr r) = rw r.5 (rest_before K r.0 r.1 u how (λ m t h x. turn r.3 x) r.4)

  -- what a move says of what is left
  Leads : List OpenCall → Program → ℕ → State → Move → Type 0
  Leads K w p s Finishes = Left (config K w p s) 0 s Ended
  Leads K w p s (Stops c) = Left (config K w p s) 0 s (Faulted c w p)
  Leads K w p s (Moves d) = (n : ℕ) (u : State) (how : How) → Left d n u how → Left (config K w p s) (suc n) u how

  leads_call : (K : List OpenCall) (w : Program) (p : ℕ) (s : State) (k : ℕ) (f : Function) (next : ℕ) (t : State)
      → row w p s ≡ Calls k f next t → Leads K w p s (moved_by (Calls k f next t) K w)
  unfolding Leads Left
  leads_call K w p s k f next t e = elim (cases_lt (length K) CALL_LIMIT) [
    | inl h ↦ rw (lt-ltb (length K) CALL_LIMIT h)
        (λ n u how r. rw (← one-add n) (rest_before K 1 n u how (λ m t h' x. rw one-add (calls e h x))
        (rest_turned k f next K w t n u how r)))
    | inr h ↦ rw (le-ltb (length K) CALL_LIMIT h) (rest_last K (too_deep e h) tt)
  ]

  leads : (K : List OpenCall) (w : Program) (p : ℕ) (s : State) (x : Effect) → row w p s ≡ x → Leads K w p s (moved_by x K w)
  unfolding Leads Left Rest
  leads [] w p s Ends e = ends e
  leads (g ∷ K) w p s Ends e = inl (ends_inside e, tt)
  leads K w p s (Fails c) e = rest_last K (fails e) tt
  leads K w p s (Goes q t) e = λ n u how r. rw (← one-add n) (rest_before K 1 n u how (λ m t h x. rw one-add (goes e x)) r)
  leads K w p s (Calls k f next t) e = leads_call K w p s k f next t e
  leads [] w p s (Returns t) e = returns_outside e
  leads (g ∷ K) w p s (Returns t) e =
      λ n u how r. inr (1, n, t, returns e, rest_turned g.left g.function g.next K g.program t n u how r, sym (one-add n))

  -- what a verdict comes from, where `left` more instructions may be executed, after n
  data Came (left : ℕ) (c : Config) (n : ℕ) : Verdict → Type 0 where
    came_end : (k : ℕ) (u : State) → k ≤ left → Left c k u Ended → Came left c n (Finished (k + n) u)
    came_fault : (k : ℕ) (u : State) {x : Cause} {v : Program} {p : ℕ} → k < left → Left c k u (Faulted x v p)
        → Came left c n (Halted x v p)
    came_open : (u : State) {v : Program} {p : ℕ} → Left c left u (Open v p) → Came left c n (Exhausted v p)

  came_step : {left n : ℕ} {K : List OpenCall} {w : Program} {p : ℕ} {s : State} {d : Config} {v : Verdict}
      → Leads K w p s (Moves d)
      → Came left d (suc n) v → Came (suc left) (config K w p s) n v
  unfolding Leads
  came_step {n = n} l (came_end k u h r) =
      let e : k + suc n ≡ suc k + n = omega arith in rw e (came_end (suc k) u (omega arith) (l _ _ _ r))
  came_step l (came_fault k u h r) = came_fault (suc k) u (omega arith) (l _ _ _ r)
  came_step l (came_open u r) = came_open u (l _ _ _ r)

  came_here : (K : List OpenCall) (w : Program) (p : ℕ) (s : State) (n : ℕ) → Came zero (config K w p s) n (Exhausted w p)
  unfolding Left
  came_here K w p s n = came_open s (rest_last K open_at tt)

  came_finish : (left n : ℕ) (K : List OpenCall) (w : Program) (p : ℕ) (s : State) → Leads K w p s Finishes
      → Came left (config K w p s) n (Finished n s)
  unfolding Leads
  came_finish left n K w p s l =
      let x : Came left (config K w p s) n (Finished (0 + n) s) = came_end 0 s (omega arith) l in rw (zero-add n) at x

  came_none : (n : ℕ) (K : List OpenCall) (w : Program) (p : ℕ) (s : State) (m : Move) → Takes K w p s m → Leads K w p s m
      → Came zero (config K w p s) n (go zero n (config K w p s))
  came_none n K w p s Finishes e l = rw (go_finishes zero n K w p s e) (came_finish zero n K w p s l)
  came_none n K w p s (Stops c) e l = rw (go_none n K w p s (Stops c) e) (came_here K w p s n)
  came_none n K w p s (Moves d) e l = rw (go_none n K w p s (Moves d) e) (came_here K w p s n)

  came_one : (left n : ℕ) (K : List OpenCall) (w : Program) (p : ℕ) (s : State) (m : Move) → Takes K w p s m → Leads K w p s m
      → ((d : Config) → Came left d (suc n) (go left (suc n) d))
      → Came (suc left) (config K w p s) n (go (suc left) n (config K w p s))
  unfolding Leads
  came_one left n K w p s Finishes e l more = rw (go_finishes (suc left) n K w p s e) (came_finish (suc left) n K w p s l)
  came_one left n K w p s (Stops c) e l more = rw (go_one left n K w p s (Stops c) e) (came_fault 0 s (omega arith) l)
  came_one left n K w p s (Moves d) e l more = rw (go_one left n K w p s (Moves d) e) (came_step l (more d))

  came : (left n : ℕ) (c : Config) → Came left c n (go left n c)
  came zero n (config K w p s) =
      came_none n K w p s (moved_by (row w p s) K w) (record { is = refl }) (leads K w p s (row w p s) refl)
  came (suc left) n (config K w p s) = came_one left n K w p s (moved_by (row w p s) K w) (record { is = refl })
      (leads K w p s (row w p s) refl) (λ d. came left (suc n) d)

  -- ---- the laws

  module _ (limit : ℕ) (w : Program) (s : State) where
    abbrev top : Config
    top = config [] w 0 s

    answer_end : {n : ℕ} {u : State} → n ≤ limit → Runs row w (At 0) 0 s n u Ended → go limit 0 top ≡ Finished n u
    unfolding Comes begun
    answer_end {n = n} {u = u} h r =
        let e : n + (limit - n) ≡ limit = omega arith in rw (e, add-zero n) at (comes_of r [] refl (limit - n) 0)

    answer_fault : {n : ℕ} {u : State} {x : Cause} {v : Program} {p : ℕ} → n < limit → Runs row w (At 0) 0 s n u (Faulted x v p)
        → go limit 0 top ≡ Halted x v p
    unfolding Comes begun
    answer_fault {n = n} h r =
        let e : n + suc (limit - suc n) ≡ limit = omega arith in rw e at (comes_of r [] refl (limit - suc n) 0)

    answer_open : {u : State} {v : Program} {p : ℕ} → Runs row w (At 0) 0 s limit u (Open v p)
        → (L : List OpenCall) × (go limit 0 top ≡ go 0 limit (config L v p u))
    unfolding Comes begun
    answer_open r = let x = comes_of r [] refl in (x.0, rw (add-zero limit) at (x.1.skips 0 0))

    no_end : {n : ℕ} {t : State} {v : Program} {p : ℕ} → go limit 0 top ≡ Exhausted v p → n ≤ limit
        → Runs row w (At 0) 0 s n t Ended → ⊥
    no_end e h r = let x = answer_end h r in cc

    no_fault : {n : ℕ} {t : State} {c : Cause} {x v : Program} {q p : ℕ} → go limit 0 top ≡ Exhausted v p → n < limit
        → Runs row w (At 0) 0 s n t (Faulted c x q) → ⊥
    no_fault e h r = let x = answer_fault h r in cc

    answer_came : (v : Verdict) → go limit 0 top ≡ v → Came limit top 0 v → Answer row limit w s v
    unfolding Left Rest
    answer_came v e (came_end k u h r) = rw (add-zero k) (finished h r)
    answer_came v e (came_fault k u h r) = faulted h r
    answer_came v e (came_open u r) = stopped (λ n t h run. no_end e h run) (λ n t c y q h run. no_fault e h run) r

    pub answer_is : Answer row limit w s (answer_of row limit w s)
    answer_is = answer_came (go limit 0 top) refl (came limit 0 top)

    -- where the function is at the limit
    at_limit : (n : ℕ) (K : List OpenCall) (v : Program) (p : ℕ) (t : State) (m : Move) → Takes K v p t m
        → (go 0 n (config K v p t) ≡ Exhausted v p) ⊎ (go 0 n (config K v p t) ≡ Finished n t)
    at_limit n K v p t Finishes e = inr (go_finishes zero n K v p t e)
    at_limit n K v p t (Stops c) e = inl (go_none n K v p t (Stops c) e)
    at_limit n K v p t (Moves d) e = inl (go_none n K v p t (Moves d) e)

    not_finished : {m : ℕ} {u : State} → ((n : ℕ) (t : State) → n ≤ limit → Runs row w (At 0) 0 s n t Ended → ⊥)
        → Answer row limit w s (Finished m u) → ⊥
    not_finished none (finished {n = n} {u = u} h r) = none n u h r

    -- any answer is the function's
    pub same_answer : {v : Verdict} → Answer row limit w s v → v ≡ answer_of row limit w s
    same_answer (finished h r) = sym (answer_end h r)
    same_answer (faulted h r) = sym (answer_fault h r)
    same_answer (stopped {u = u} {v = v} {p = p} none _ r) =
        let x = answer_open r in
        elim (at_limit limit x.0 v p u (moved_by (row v p u) x.0 v) (record { is = refl })) [
          | inl e ↦ sym (x.1 ∙ e)
          | inr e ↦ absurd (not_finished none (rw (x.1 ∙ e) at answer_is))
        ]

    pub one_answer : (v v' : Verdict) → Answer row limit w s v → Answer row limit w s v' → v ≡ v'
    one_answer v v' x y = same_answer x ∙ sym (same_answer y)

  -- ---- the instructions, one by one

  abbrev steps : ℕ → Config → List Step
  steps left c = steps_from row left c

  -- n instructions from a configuration lead to another
  ToLeft : Config → ℕ → Config → Type 0
  ToLeft c n (config L v q t) = Left c n t (Open v q)

  Numbered : Config → ℕ → Step → Type 0
  Numbered c k x = ((u : State) × Left c k u (Open x.program x.address)) × ToLeft c (suc k) x.to

  open_here : (c : Config) → ToLeft c 0 c
  unfolding ToLeft Left
  open_here (config K w p s) = rest_last K open_at tt

  to_left : (K : List OpenCall) (w : Program) (p : ℕ) (s : State) (d : Config) (n : ℕ) (e : Config) → Leads K w p s (Moves d)
      → ToLeft d n e → ToLeft (config K w p s) (suc n) e
  unfolding ToLeft Leads
  to_left K w p s d n (config L v q t) l x = l n t (Open v q) x

  numbered_first : (K : List OpenCall) (w : Program) (p : ℕ) (s : State) (d : Config) → Leads K w p s (Moves d)
      → Numbered (config K w p s) 0 (record { program = w; address = p; to = d })
  unfolding Numbered Left
  numbered_first K w p s d l = ((s, rest_last K open_at tt), to_left K w p s d 0 d l (open_here d))

  numbered_next : (K : List OpenCall) (w : Program) (p : ℕ) (s : State) (d : Config) (k : ℕ) (x : Step) → Leads K w p s (Moves d)
      → Numbered d k x → Numbered (config K w p s) (suc k) x
  unfolding Numbered Leads
  numbered_next K w p s d k x l y = ((y.0.0, l k y.0.0 (Open x.program x.address) y.0.1), to_left K w p s d (suc k) x.to l y.1)

  numbered_in : (K : List OpenCall) (w : Program) (p : ℕ) (s : State) (d : Config) (xs : List Step) (k : ℕ) (x : Step)
      → Leads K w p s (Moves d) → ((j : ℕ) → slice_get xs j ≡ Some x → Numbered d j x)
      → slice_get (record { program = w; address = p; to = d } ∷ xs) k ≡ Some x → Numbered (config K w p s) k x
  numbered_in K w p s d xs zero x l more h =
      let e : record { program = w; address = p; to = d } ≡ x = grind (arith, h) in
      let P : Step → Type 0 = λ y. Numbered (config K w p s) 0 y in subst P e (numbered_first K w p s d l)
  numbered_in K w p s d xs (suc k) x l more h = numbered_next K w p s d k x l (more k h)

  nowhere : (xs : List Step) (k : ℕ) (x : Step) → xs ≡ [] → slice_get xs k ≡ Some x → ⊥
  nowhere [] k x e h = absurd cc
  nowhere (y ∷ ys) k x e h = absurd cc

  numbered_by : (left k : ℕ) (K : List OpenCall) (w : Program) (p : ℕ) (s : State) (x : Step) (m : Move) → Takes K w p s m
      → Leads K w p s m → ((d : Config) (j : ℕ) → slice_get (steps left d) j ≡ Some x → Numbered d j x)
      → slice_get (steps (suc left) (config K w p s)) k ≡ Some x → Numbered (config K w p s) k x
  numbered_by left k K w p s x Finishes e l more h = absurd (nowhere _ k x (none_after_end row (suc left) K w p s e.is) h)
  numbered_by left k K w p s x (Stops c) e l more h = absurd (nowhere _ k x (none_after_halt row (suc left) K w p s c e.is) h)
  numbered_by left k K w p s x (Moves d) e l more h =
      numbered_in K w p s d (steps left d) k x l (more d) (rw (one_step row left K w p s d e.is) at h)

  numbered : (left k : ℕ) (c : Config) (x : Step) → slice_get (steps left c) k ≡ Some x → Numbered c k x
  numbered zero k (config K w p s) x h = absurd (nowhere _ k x (none_left row K w p s) h)
  numbered (suc left) k (config K w p s) x h =
      numbered_by left k K w p s x (moved_by (row w p s) K w) (record { is = refl }) (leads K w p s (row w p s) refl)
      (λ d j y. numbered left j d x y) h

  -- ---- how many there are

  CountsFrom : ℕ → ℕ → Config → ℕ → Verdict → Type 0
  CountsFrom left n c m (Finished k t) = m + n ≡ k
  CountsFrom left n c m (Halted x v q) = (u : State) × Left c m u (Faulted x v q)
  CountsFrom left n c m (Exhausted v q) = m ≡ left

  counts_more : (left n : ℕ) (K : List OpenCall) (w : Program) (p : ℕ) (s : State) (d : Config) (m : ℕ) (v : Verdict)
      → Leads K w p s (Moves d) → CountsFrom left (suc n) d m v → CountsFrom (suc left) n (config K w p s) (suc m) v
  unfolding CountsFrom Leads
  counts_more left n K w p s d m (Finished k t) l e = omega (arith, e)
  counts_more left n K w p s d m (Halted x v q) l e = (e.0, l m e.0 (Faulted x v q) e.1)
  counts_more left n K w p s d m (Exhausted v q) l e = omega (arith, e)

  counts_one : (left n : ℕ) (K : List OpenCall) (w : Program) (p : ℕ) (s : State) (m : Move) → Takes K w p s m → Leads K w p s m
      → ((d : Config) → CountsFrom left (suc n) d (length (steps left d)) (go left (suc n) d))
      → CountsFrom (suc left) n (config K w p s) (length (steps (suc left) (config K w p s))) (go (suc left) n (config K w p s))
  unfolding CountsFrom Leads
  counts_one left n K w p s Finishes e l more =
      rw (go_finishes (suc left) n K w p s e, none_after_end row (suc left) K w p s e.is) (omega arith)
  counts_one left n K w p s (Stops c) e l more =
      rw (go_one left n K w p s (Stops c) e, none_after_halt row (suc left) K w p s c e.is) (s, l)
  counts_one left n K w p s (Moves d) e l more =
      rw (go_one left n K w p s (Moves d) e, one_step row left K w p s d e.is)
      (counts_more left n K w p s d (length (steps left d)) (go left (suc n) d) l (more d))

  counts_none : (n : ℕ) (K : List OpenCall) (w : Program) (p : ℕ) (s : State) (m : Move) → Takes K w p s m
      → CountsFrom zero n (config K w p s) 0 (go zero n (config K w p s))
  unfolding CountsFrom
  counts_none n K w p s Finishes e = rw (go_finishes zero n K w p s e) (omega arith)
  counts_none n K w p s (Stops c) e = rw (go_none n K w p s (Stops c) e) refl
  counts_none n K w p s (Moves d) e = rw (go_none n K w p s (Moves d) e) refl

  counts : (left n : ℕ) (c : Config) → CountsFrom left n c (length (steps left c)) (go left n c)
  counts zero n (config K w p s) =
      rw (none_left row K w p s) (counts_none n K w p s (moved_by (row w p s) K w) (record { is = refl }))
  counts (suc left) n (config K w p s) = counts_one left n K w p s (moved_by (row w p s) K w) (record { is = refl })
      (leads K w p s (row w p s) refl) (λ d. counts left (suc n) d)

  module _ (limit : ℕ) (w : Program) (s : State) where
    leads_to : (n : ℕ) (c : Config) → ToLeft (config [] w 0 s) n c → LeadsTo row limit w s n c
    unfolding ToLeft Left Rest
    leads_to n (config L v q t) r = r

    pub step_is_run : (k : ℕ) (x : Step) → slice_get (steps_of row limit w s) k ≡ Some x
        → ((u : State) × Runs row w (At 0) 0 s k u (Open x.program x.address)) × LeadsTo row limit w s (suc k) x.to
    unfolding Numbered Left Rest
    step_is_run k x h = let y = numbered limit k (config [] w 0 s) x h in (y.0, leads_to (suc k) x.to y.1)

    counted_by : (m : ℕ) (v : Verdict) → CountsFrom limit 0 (config [] w 0 s) m v → Counts row limit w s m v
    unfolding CountsFrom Left Rest
    counted_by m (Finished n t) e = omega (arith, e)
    counted_by m (Halted c v p) e = e
    counted_by m (Exhausted v p) e = e

    pub steps_counted : Counts row limit w s (length (steps_of row limit w s)) (answer_of row limit w s)
    steps_counted = counted_by _ _ (counts limit 0 (config [] w 0 s))
