-- Where the walk over components stands, and its steps.
use Rattle.std.specs.Prelude.{◌≡◌, ℕ, ◌+◌, ◌-◌, ◌*◌, ◌≤◌, Bool, true, false, List, [], ◌∷◌, length, Result, Ok, Err, MatchResult}
use Rattle.fx_hint.specs.Shapes.{Shapes}
use Rattle.fx_scale.specs.declared.scale.Scale.{Scale}
use Rattle.fx_outline.specs.Limits.{max_points}
use Rattle.fx_hint.specs.declared.below.OpenComposite.{OpenComposite}
use Rattle.fx_hint.specs.declared.below.Waiting.{Waiting}
use Rattle.fx_hint.specs.declared.count.Count.{Count}
use Rattle.fx_hint.specs.declared.fault.HintFault.{HintFault}
use Rattle.fx_hint.specs.declared.made.Made.{Made}
use Rattle.fx_hint.specs.Hinting.{Hinting}
use Rattle.fx_hint.specs.Limits.{max_components, max_depth}
use Rattle.fx_hint.specs.Runs.{ProgramRun}
use Rattle.fx_hint.specs.inner.RunSteps.{LoggedOutcome, HasRunSome, Walks, logged_left, logged_rest_of}

-- the sum of a number over the composites that wait
abbrev pub over_waiting : (Waiting → ℕ) → List Waiting → ℕ
over_waiting n [] = 0
over_waiting n (w ∷ ws) = n w + over_waiting n ws

-- the points of the composites that wait
abbrev pub points_waiting : List Waiting → ℕ
points_waiting ws = over_waiting (λ w. length w.composite.base.zone.points) ws

-- their components that were begun
abbrev pub begun_waiting : List Waiting → ℕ
begun_waiting ws = over_waiting (λ w. w.composite.before) ws

-- the points of the composites that wait and of the open one were counted, and so were the components that they began
pub record IsCounted (below : List Waiting) (before : ℕ) (base : Made) (count : Count) : Type 0 where
  pub deep : length below ≤ max_depth
  pub few : count.records ≤ max_components
  pub numbered : begun_waiting below + before ≤ count.records
  pub counted : points_waiting below + length base.zone.points ≤ count.points
  pub points : count.points ≤ max_points

-- how many steps are left at most: a component takes a record, and each composite waits once
abbrev pub steps_left : List Waiting → Count → ℕ
steps_left below count = 2 * (max_components - count.records) + length below

module _ {S : Type 0} (Leads : S → List ProgramRun → S → Type 0) (h : Hinting) (font : Shapes) (s : Scale) (root : ℕ) where
  -- from `start` the walk has come to `now` by some programs, and what the root gives by the steps that are left is due
  abbrev pub Stands : S → S → List Waiting → OpenComposite → Count → LoggedOutcome → Type 0
  Stands start now below c count due = HasRunSome Leads start now
      (λ runs. logged_rest_of h font s root max_depth below
      (logged_left h font s root (max_depth - length below) c (count, runs)) ≡ due)

  -- the same, unless the root is assembled
  abbrev pub StandsUnless : Bool → S → S → List Waiting → OpenComposite → Count → LoggedOutcome → Type 0
  StandsUnless false start now below c count due = Stands start now below c count due
  StandsUnless true start now below c count due = Walks Leads start now c.base (Ok tt) count due

  -- from wherever the walk stood, for whatever is due: it stands at another place, or has failed as is due
  pub record StepsTo (was now : S) (below : List Waiting) (c : OpenComposite) (count : Count) {A : Type 0}
      (result : Result A HintFault) (Then : A → S → LoggedOutcome → Type 0) : Type 0 where
    pub by : (start : S) (due : LoggedOutcome) → Stands start was below c count due
        → MatchResult result (λ a. Then a start due)
        (λ e. (made : Made) (counted : Count) → Walks Leads start now made (Err e) counted due)
