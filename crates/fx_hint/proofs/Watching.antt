-- A watcher of one program's events sees them for its component: `seen_for`, `ran_once`.
-- It serves the machine whose programs are watched, and traces.
use Rattle.std.proofs.Common.{◌≡◌, List, [], ◌∷◌, Option, Result, Ok, Err, inl, inr, refl, ap, ◌∙◌, sym, append-nil, subst}
use Rattle.fx_machine.specs.Known.{Known}
use Rattle.fx_machine.specs.Events.{Event, Watches}
use Rattle.fx_hint.specs.declared.component.ComponentOf.{ComponentOf}
use Rattle.fx_hint.specs.declared.fault.HintFault.{HintFault}
use Rattle.fx_hint.specs.declared.fault.HintFault.TheVariants.{OutOfMemory}
use Rattle.fx_hint.specs.Programmed.{hinted_events, HasSeen}
use Rattle.fx_hint.specs.Watched.{RunEvent, event_for, events_for, run_events, WatchesAll, WatchesRuns}
use Rattle.fx_hint.specs.Runs.{ProgramRun, HasRun}

-- what a watcher sees by itself, it sees for its component
pub seen_for : {V W : Type 0} (Sees : W → RunEvent → W → Type 0) (watcher : V → W) (component : V → Option ComponentOf)
    (c : Option ComponentOf) (was now : V) (es : List Event) → component was ≡ c
    → Watches (λ a x b. Sees (watcher a) (event_for (component a) x) (watcher b) × (component b ≡ component a)) was es now
    → WatchesAll Sees (watcher was) (events_for c es) (watcher now)
seen_for Sees watcher component c was now [] e h = ap watcher h
seen_for Sees watcher component c was now (x ∷ xs) e h =
    let P : Option ComponentOf → Type 0 = λ d. Sees (watcher was) (event_for d x) (watcher h.0) in
    (watcher h.0, subst P e h.1.0, seen_for Sees watcher component c h.0 now xs (h.1.1 ∙ e) h.2)

-- one program, which a machine with a watcher runs
module _ {S V W : Type 0} (Sees : W → RunEvent → W → Type 0) (x y : S) (known : S → Known) (part : S → V) (watcher : V → W)
    (component : V → Option ComponentOf) (start : V) (run : ProgramRun)
    (c : component start ≡ run.component) (s : watcher start ≡ watcher (part x)) (k : known y ≡ known x)
  where
    abbrev Seen : V → Event → V → Type 0
    Seen a e b = Sees (watcher a) (event_for (component a) e) (watcher b) × (component b ≡ component a)

    abbrev Leads : S → List ProgramRun → S → Type 0
    Leads a runs b = WatchesRuns Sees (known a) (watcher (part a)) runs (known b) (watcher (part b))

    abbrev these : List Event
    these = hinted_events (known x) run.g run.code run.made

    leads_all : Watches Seen start these (part y) → Leads x (run ∷ []) y
    leads_all w =
        let seen = seen_for Sees watcher component run.component start (part y) these c w in
        let P : W → Type 0 = λ v. WatchesAll Sees v (events_for run.component these) (watcher (part y)) in
        let Q : List RunEvent → Type 0 = λ es. WatchesAll Sees (watcher (part x)) es (watcher (part y)) in
        (k, subst Q (sym (append-nil (run_events (known x) run))) (subst P s seen))

    pub ran_once : {Y : Type 0} (r : Result Y HintFault) → HasSeen Seen start (part y) r these → HasRun Leads x y r (run ∷ [])
    ran_once (Ok u) w = leads_all w
    ran_once (Err OutOfMemory) (inl none) = ([], (run ∷ [], refl), (k, ap watcher none ∙ s))
    ran_once (Err OutOfMemory) (inr w) = (run ∷ [], ([], refl), leads_all w)
    ran_once (Err e) w = leads_all w
