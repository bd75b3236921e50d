-- A budget that has seen events is spent exactly if their work was more than was left (`is_paid`).
-- It serves the bound of the work that programs do.
use Rattle.std.proofs.Common.{◌≡◌, ◌≤◌, ℕ, ◌+◌, ◌-◌, List, [], ◌∷◌, ◌++◌, Option, Some, None, refl, inl, inr, arith, ap, ◌∙◌}
use Rattle.std.proofs.lemmas.Bool.Decides.{leb_tells}
use Rattle.std.proofs.lemmas.Bool.{le-leb, lt-leb}
use Rattle.std.specs.Prelude.{is_none, length, true, false}
use Rattle.fx_code.specs.Chain.{opcode_at}
use Rattle.fx_machine.specs.declared.program.FontProgram.{FontProgram}
use Rattle.fx_machine.specs.declared.state.State.{State}
use Rattle.fx_machine.specs.declared.work.Trail.{Trail}
use Rattle.fx_machine.specs.declared.work.WorkBudget.{WorkBudget}
use Rattle.fx_machine.specs.Events.{Event, Begins, Executed}
use Rattle.fx_machine.specs.Work.{work_of, work_from, trail_after, visited, searched, apart, paid, budget_after, Budgets}

-- some work, and then more, is the work of both
pub paid_both : (m n : ℕ) (left : Option ℕ) → paid n (paid m left) ≡ paid (m + n) left
paid_both m n None = refl
paid_both m n (Some left) = elim (leb_tells m left) [
  | inl x ↦ elim (leb_tells n (left - m)) [
    | inl y ↦ let e : left - m - n ≡ left - (m + n) = omega arith in
        rw (x.0, y.0, le-leb (m + n) left (omega (arith, x.1, y.1)), e) refl
    | inr y ↦ rw (x.0, y.0, lt-leb (m + n) left (omega (arith, x.1, y.1))) refl
  ]
  | inr x ↦ rw (x.0, lt-leb (m + n) left (omega (arith, x.1))) refl
]

-- ---- what the parts of an event cost

pub begins_paid : (program : FontProgram) (s : State) (t : Trail) (left : Option ℕ)
    → paid (length s.zones.twilight.points) (paid (length s.store.cvt) (paid (length s.store.storage) (paid 1 left)))
    ≡ paid (work_of t (Begins program s)) left
unfolding work_of
begins_paid program s t left =
    let st = length s.store.storage in
    let cv = length s.store.cvt in
    let tw = length s.zones.twilight.points in
    let e : 1 + st + cv + tw ≡ 1 + (st + cv + tw) = omega arith in
    rw (paid_both 1 st left, paid_both (1 + st) cv left, paid_both (1 + st + cv) tw left, e) refl

pub executed_paid : (program : FontProgram) (code : List ℕ) (address calls : ℕ) (s : State) (t : Trail) (left : Option ℕ)
    → paid (searched t.searched_from address)
    (paid (visited (opcode_at code address) s) (paid (apart t.depth (length s.store.stack)) (paid 1 left)))
    ≡ paid (work_of t (Executed program code address calls s)) left
unfolding work_of
executed_paid program code address calls s t left =
    let m = apart t.depth (length s.store.stack) in
    let v = visited (opcode_at code address) s in
    rw (paid_both 1 m left, paid_both (1 + m) v left, paid_both (1 + m + v) (searched t.searched_from address) left) refl

-- a budget that is not spent pays, and remembers
pub pays : (x : Event) (b : WorkBudget) (left : Option ℕ) → is_none left ≡ false → (l : Option ℕ) (t : Trail)
    → l ≡ paid (work_of b.trail x) b.left → t ≡ trail_after x → record { left = l; trail = t } ≡ budget_after x left b
pays x b None e l t i j = absurd cc
pays x b (Some n) e l t i j = rw (i, j) refl

-- ---- all events

pub paid_nothing : (left : Option ℕ) → left ≡ paid 0 left
paid_nothing None = refl
paid_nothing (Some left) = let e : left - 0 ≡ left = omega arith in rw (le-leb 0 left (omega arith), e) refl

abbrev Law : WorkBudget → Option ℕ → List Event → WorkBudget → Type 0
Law b left events now = now.left ≡ paid (work_from b.trail events) left

one_more : (b next now : WorkBudget) (left : Option ℕ) (x : Event) (xs : List Event) → b.left ≡ left
    → next ≡ budget_after x left b
    → now.left ≡ paid (work_from next.trail xs) next.left → Law b left (x ∷ xs) now
unfolding work_from
one_more b next now None x xs e s h = h ∙ ap (λ c. paid (work_from c.trail xs) c.left) s ∙ ap (paid (work_from b.trail xs)) e
one_more b next now (Some left) x xs e s h =
    h ∙ ap (λ c. paid (work_from c.trail xs) c.left) s
    ∙ ap (λ l. paid (work_from (trail_after x) xs) (paid (work_of b.trail x) l)) e
    ∙ paid_both (work_of b.trail x) (work_from (trail_after x) xs) (Some left)

pub is_paid : (b : WorkBudget) (events : List Event) (now : WorkBudget)
    → Budgets b events now → now.left ≡ paid (work_from b.trail events) b.left
unfolding work_from
is_paid b [] now h = ap (λ c. c.left) h ∙ paid_nothing b.left
is_paid b (x ∷ xs) now h = one_more b h.0 now b.left x xs refl h.1 (is_paid h.0 xs now h.2)

-- more events are no less work
pub more_work : (t : Trail) (xs ys : List Event) → work_from t xs ≤ work_from t (xs ++ ys)
unfolding work_from
more_work t [] ys = omega arith
more_work t (x ∷ xs) ys = let more = more_work (trail_after x) xs ys in omega (arith, more)

-- what some work spends, more spends
pub spent_more : (m n : ℕ) (left : Option ℕ) → m ≤ n → is_none (paid m left) ≡ true → is_none (paid n left) ≡ true
spent_more m n None le e = refl
spent_more m n (Some left) le e = elim (leb_tells m left) [
  | inl x ↦ absurd (let none = rw x.0 at e in cc)
  | inr x ↦ rw (lt-leb n left (omega (arith, le, x.1))) refl
]
