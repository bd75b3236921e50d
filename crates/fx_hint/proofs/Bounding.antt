-- A budget that watches the programs of a glyph pays for their events (`left_by_runs`). So it is spent only if all of them are more
-- work than it had (`spent`), and else what is made is due (`not_spent`).
-- It serves the outline whose programs have a budget.
use Rattle.std.proofs.Common.{◌≡◌, ℕ, List, [], ◌∷◌, ◌++◌, map, Option, Some, None, true, false, if◌then◌else◌, Result, Ok, Err}
use Rattle.std.proofs.Common.{refl, sym, ap, ◌∙◌, subst}
use Rattle.std.specs.Prelude.{is_none, option_map}
use Rattle.std.specs.List.{flat_map}
use Rattle.std.proofs.lemmas.List.{map-append}
use Rattle.std.proofs.lemmas.Grind.{flat_map-append}
use Rattle.fx_fixed.specs.Chain.{GivesUnless, map_ok}
use Rattle.fx_machine.specs.Events.{Event}
use Rattle.fx_machine.specs.Known.{Known}
use Rattle.fx_machine.specs.declared.work.WorkBudget.{WorkBudget}
use Rattle.fx_machine.specs.Work.{Budgets, budget_after, paid, work_from}
use Rattle.fx_machine.proofs.Working.{is_paid, more_work, spent_more}
use Rattle.fx_hint.specs.declared.component.ComponentOf.{ComponentOf}
use Rattle.fx_hint.specs.declared.fault.HintFault.{HintFault}
use Rattle.fx_hint.specs.declared.fault.HintFault.TheVariants.{OutOfMemory}
use Rattle.fx_hint.specs.Faults.{Fails}
use Rattle.fx_hint.specs.Programmed.{hinted_events}
use Rattle.fx_hint.specs.Runs.{ProgramRun, AreFirst, HasRun, StopsAfter}
use Rattle.fx_hint.specs.Watched.{RunEvent, WatchesAll, WatchesRuns, events_for, run_events}
use Rattle.fx_hint.specs.Bounded.{events_in, IfCaused}

only_events : (c : Option ComponentOf) (es : List Event) → map (λ (x : RunEvent). x.event) (events_for c es) ≡ es
only_events c [] = refl
only_events c (e ∷ es) = ap (λ (xs : List Event). e ∷ xs) (only_events c es)

events_are : (known : Known) (runs : List ProgramRun)
    → map (λ (x : RunEvent). x.event) (flat_map (run_events known) runs) ≡ events_in known runs
events_are known [] = refl
events_are known (r ∷ rs) =
    let f : RunEvent → Event = λ x. x.event in
    let one = only_events r.component (hinted_events known r.g r.code r.made) in
    let more = events_are known rs in
    map-append f (run_events known r) (flat_map (run_events known) rs)
    ∙ ap (λ (es : List Event). es ++ map f (flat_map (run_events known) rs)) one
    ∙ ap (λ (es : List Event). hinted_events known r.g r.code r.made ++ es) more

-- the first of some programs are no more work than all of them
spent_by_all : (known : Known) (b : WorkBudget) (some all : List ProgramRun) → AreFirst some all
    → is_none (paid (work_from b.trail (events_in known some)) b.left) ≡ true
    → is_none (paid (work_from b.trail (events_in known all)) b.left) ≡ true
spent_by_all known b some all f e =
    let plain : ProgramRun → List Event = λ run. hinted_events known run.g run.code run.made in
    let joined : events_in known some ++ events_in known f.0 ≡ events_in known all =
    sym (flat_map-append plain some f.0) ∙ ap (λ (runs : List ProgramRun). flat_map plain runs) f.1 in
    let P : List Event → Type 0 = λ es. is_none (paid (work_from b.trail es) b.left) ≡ true in
    subst P joined (spent_more _ _ b.left (more_work b.trail (events_in known some) (events_in known f.0)) e)

module _ {S V : Type 0} (known : S → Known) (part : S → V) (budget : V → WorkBudget) where
  abbrev Sees : V → RunEvent → V → Type 0
  Sees a x b = budget b ≡ budget_after x.event (budget a).left (budget a)

  abbrev Leads : S → List ProgramRun → S → Type 0
  Leads a runs b = WatchesRuns Sees (known a) (part a) runs (known b) (part b)

  pays_for : (was now : V) (xs : List RunEvent) → WatchesAll Sees was xs now
      → Budgets (budget was) (map (λ (x : RunEvent). x.event) xs) (budget now)
  pays_for was now [] h = ap budget h
  pays_for was now (x ∷ xs) h = (budget h.0, h.1, pays_for h.0 now xs h.2)

  module _ (x y : S) where
    abbrev left_by : List ProgramRun → Option ℕ
    left_by runs = paid (work_from (budget (part x)).trail (events_in (known x) runs)) (budget (part x)).left

    pub left_by_runs : (runs : List ProgramRun) → Leads x runs y → (budget (part y)).left ≡ left_by runs
    left_by_runs runs l =
        let P : List Event → Type 0 = λ es. Budgets (budget (part x)) es (budget (part y)) in
        is_paid _ _ _ (subst P (events_are (known x) runs) (pays_for (part x) (part y) _ l.1))

    -- also after a program that halted
    pub left_by_fault : (e : HintFault) (runs : List ProgramRun) → StopsAfter Leads x y e runs
        → IfCaused e ((budget (part y)).left ≡ left_by runs)
    left_by_fault OutOfMemory runs l = tt
    left_by_fault f runs l = left_by_runs runs l

    spent_here : (runs : List ProgramRun) → Leads x runs y → is_none (budget (part y)).left ≡ true → is_none (left_by runs) ≡ true
    spent_here runs l e = rw (left_by_runs runs l) at e

    -- if it is spent, all programs are more work than it had
    pub spent : {A : Type 0} (r : Result A HintFault) (runs : List ProgramRun) → HasRun Leads x y r runs
        → is_none (budget (part y)).left ≡ true → is_none (left_by runs) ≡ true
    spent (Ok a) runs l e = spent_here runs l e
    spent (Err OutOfMemory) runs l e = spent_by_all (known x) (budget (part x)) l.0 runs l.1 (spent_here l.0 l.2 e)
    spent (Err f) runs l e = spent_here runs l e

    not_spent_here : (runs : List ProgramRun) → Leads x runs y → is_none (budget (part y)).left ≡ false
        → is_none (left_by runs) ≡ false
    not_spent_here runs l e = rw (left_by_runs runs l) at e

    -- if it is not, what is made is due
    pub not_spent : {A B : Type 0} (view : A → B) (r : Result A HintFault) (due : Result B HintFault) (runs : List ProgramRun)
        → HasRun Leads x y r runs → is_none (budget (part y)).left ≡ false → GivesUnless Fails view r due
        → GivesUnless Fails (λ o. option_map view o) (map_ok Some r) (if is_none (left_by runs) then Ok None else map_ok Some due)
    not_spent view (Ok a) due runs l e h = rw (not_spent_here runs l e, h) refl
    not_spent view (Err OutOfMemory) due runs l e h = tt
    not_spent view (Err f) due runs l e h = rw (not_spent_here runs l e, h) refl

pub none_of : {A : Type 0} (a b : Option A) → is_none a ≡ true → is_none b ≡ true → a ≡ b
none_of None None e f = refl
none_of (Some x) b e f = absurd cc
none_of None (Some y) e f = absurd cc
