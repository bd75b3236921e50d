-- A budget stops programs at the first event that it can't pay for (`in_time`).
-- It serves the bound of the work that programs do.
use Rattle.std.proofs.Common.{◌≡◌, ◌≤◌, ℕ, ◌-◌, List, [], ◌∷◌, Option, Some, refl, sym, inl, inr, arith, ap, ◌∙◌}
use Rattle.std.proofs.lemmas.Bool.Decides.{leb_tells}
use Rattle.std.specs.Prelude.{is_none, false}
use Rattle.fx_machine.specs.declared.state.State.{State}
use Rattle.fx_machine.specs.declared.work.WorkBudget.{WorkBudget}
use Rattle.fx_machine.specs.Events.{Event, StopsIn}
use Rattle.fx_machine.specs.Work.{IsCutOff, work_of, work_from, trail_after, paid, budget_after}

-- what can be paid for leaves the rest
pub paid_rest : (work had : ℕ) → is_none (paid work (Some had)) ≡ false → (work ≤ had) × (paid work (Some had) ≡ Some (had - work))
paid_rest work had e = elim (leb_tells work had) [
  | inl x ↦ (x.1, rw x.0 refl)
  | inr x ↦ absurd (let none = rw x.0 at e in cc)
]

-- a budget after an event, by what it had
pub after_paying : (x : Event) (b next : WorkBudget) (had : ℕ) (left : Option ℕ) → left ≡ Some had → next ≡ budget_after x left b
    → b.left ≡ left → next ≡ record { left = paid (work_of b.trail x) (Some had); trail = trail_after x }
after_paying x b next had left e s k = rw (e) at (rw (k) at s)

-- one event more before the last
pub more_before : (x : Event) (xs : List Event) (b next : WorkBudget) (had : ℕ) (s : State)
    → next ≡ record { left = paid (work_of b.trail x) (Some had); trail = trail_after x } → work_of b.trail x ≤ had
    → IsCutOff next (had - work_of b.trail x) xs s → IsCutOff b had (x ∷ xs) s
unfolding work_from
more_before x xs b next had s e le h =
    let within = rw (ap (λ c. c.trail) e) at h.within in
    record {
      before = x ∷ h.before;
      last = h.last;
      after = h.after;
      all = ap (λ l. x ∷ l) h.all;
      state = h.state;
      within = omega (arith, le, within);
    }

pub in_time : (b : WorkBudget) (had : ℕ) (events : List Event) (s : State) (now : WorkBudget) → b.left ≡ Some had
    → StopsIn (λ was x now. now ≡ budget_after x was.left was) (λ c. is_none c.left) b events s now → IsCutOff b had events s
unfolding work_from
in_time b had [] s now e h = absurd h
in_time b had (x ∷ xs) s now e h =
    let next = after_paying x b h.0 had b.left e h.1 refl in
    elim h.2 [
      | inl k ↦ record { before = []; last = x; after = xs; all = refl; state = k.2; within = omega arith }
      | inr k ↦
          let rest = paid_rest (work_of b.trail x) had (sym (ap (λ c. is_none c.left) next) ∙ k.0) in
          more_before x xs b h.0 had s next rest.0
          (in_time h.0 (had - work_of b.trail x) xs s now (ap (λ c. c.left) next ∙ rest.1) k.1)
    ]
