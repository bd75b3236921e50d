-- What a watcher sees while outlines are made: programs of glyphs, each from its beginning, one after the other.
use Rattle.std.specs.Prelude.{◌≡◌, List, [], ◌∷◌, ◌++◌, map, Option, refl}
use Rattle.std.proofs.Common.{sym, ap, ◌∙◌, subst, append_assoc}
use Rattle.std.specs.List.{flat_map}
use Rattle.fx_machine.specs.Known.{Known}
use Rattle.fx_machine.specs.Events.{Event}
use Rattle.fx_hint.specs.declared.component.ComponentOf.{ComponentOf}
use Rattle.fx_hint.specs.Programmed.{hinted_events}
use Rattle.fx_hint.specs.Runs.{ProgramRun}

-- an event of a program that runs for a component of a composite, or for a root
pub record RunEvent : Type 0 where
  pub component : Option ComponentOf
  pub event : Event

abbrev pub event_for : Option ComponentOf → Event → RunEvent
event_for component event = record { component = component; event = event }

abbrev pub events_for : Option ComponentOf → List Event → List RunEvent
events_for component events = map (event_for component) events

-- what a watcher sees of a program
abbrev pub run_events : Known → ProgramRun → List RunEvent
run_events known run = events_for run.component (hinted_events known run.g run.code run.made)

-- what becomes of a watcher that sees these events in turn, by what becomes of it at each
abbrev pub WatchesAll : {W : Type 0} → (W → RunEvent → W → Type 0) → W → List RunEvent → W → Type 0
WatchesAll Sees was [] now = now ≡ was
WatchesAll {W} Sees was (x ∷ xs) now = (next : W) × Sees was x next × WatchesAll Sees next xs now

-- the watcher sees these programs in turn, each as it runs by the definition
abbrev pub WatchesRuns : {W : Type 0} → (W → RunEvent → W → Type 0) → Known → W → List ProgramRun → Known → W → Type 0
WatchesRuns Sees known was runs known' now = (known' ≡ known) × WatchesAll Sees was (flat_map (run_events known) runs) now

pub watched_none : {W : Type 0} (Sees : W → RunEvent → W → Type 0) (known : Known) (was : W)
    → WatchesRuns Sees known was [] known was
watched_none Sees known was = (refl, refl)

pub runs_joined : (f : ProgramRun → List RunEvent) (xs ys : List ProgramRun)
    → flat_map f (xs ++ ys) ≡ flat_map f xs ++ flat_map f ys
runs_joined f [] ys = refl
runs_joined f (x ∷ xs) ys =
    ap (λ (t : List RunEvent). f x ++ t) (runs_joined f xs ys) ∙ sym (append_assoc (f x) (flat_map f xs) (flat_map f ys))

-- some events, and then others
seen_both : {W : Type 0} (Sees : W → RunEvent → W → Type 0) (was mid now : W) (xs ys : List RunEvent) → WatchesAll Sees was xs mid
    → WatchesAll Sees mid ys now → WatchesAll Sees was (xs ++ ys) now
seen_both {W} Sees was mid now [] ys h k = let P : W → Type 0 = λ w. WatchesAll Sees w ys now in subst P h k
seen_both Sees was mid now (x ∷ xs) ys h k = (h.0, h.1, seen_both Sees h.0 mid now xs ys h.2 k)

pub watched_then : {W : Type 0} (Sees : W → RunEvent → W → Type 0) (a b c : Known) (was mid now : W) (some more : List ProgramRun)
    → WatchesRuns Sees a was some b mid → WatchesRuns Sees b mid more c now → WatchesRuns Sees a was (some ++ more) c now
watched_then Sees a b c was mid now some more h k =
    let P : Known → Type 0 = λ known. WatchesAll Sees mid (flat_map (run_events known) more) now in
    let rest = subst P h.0 k.1 in
    let Q : List RunEvent → Type 0 = λ es. WatchesAll Sees was es now in (
      k.0 ∙ h.0,
      subst Q (sym (runs_joined (run_events a) some more))
          (seen_both Sees was mid now (flat_map (run_events a) some) (flat_map (run_events a) more) h.1 rest),
    )
