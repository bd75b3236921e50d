-- What a teller was told from its start to the end of a run is what the run says: `runs_known`.
-- Serves `run` of `Mkstrike`, `read_line_and_do`, `read_and_do`, `run_task` and `unread`.
use Rattle.std.proofs.Common.{arith, ◌≡◌, ◌∙◌, ◌⊎◌, refl, sym, ap, subst, inl, inr, ℕ, ◌+◌, Bool, true, false, List, [], ◌∷◌, ◌++◌, length}
use Rattle.std.proofs.Common.{Option, None, Result, Ok, Err}
use Rattle.std.specs.Prelude.{IsErrOf, IsErrAnd}
use Rattle.std.specs.List.{flat_map}
use Rattle.std.specs.Borrow.{GName}
use Rattle.std.specs.Io.KnownBytes.{Consumes, IsAtEnd}
use Rattle.clap.specs.Walk.{Text}
use Rattle.fx_fixed.specs.Changes.{Change}
use Rattle.fx_request.specs.declared.notice.Notice.{Notice}
use Rattle.fx_request.specs.Notices.{HearsAll}
use Rattle.fx_request.specs.declared.refusal.Refusal.{Refusal}
use Rattle.fx_request.specs.declared.refusal.Refusal.TheVariants.{BadHex, InputTooLarge, OutOfMemory, ReadFailed, WriteFailed}
use Rattle.fx_views.specs.Listings.{IsListedTo, IsNoFault, IsNotListed, Lists}
use Rattle.fx_arguments.specs.declared.done.Done.{Done}
use Rattle.fx_arguments.specs.declared.fault.Fault.{Fault}
use Rattle.fx_arguments.specs.declared.fault.Fault.TheVariants.{Usage, Early, Late}
use Rattle.fx_arguments.specs.Commands.{CommandView}
use Rattle.fx_arguments.specs.Input.{IsLineCause, IsReadCause}
use Rattle.fx_arguments.specs.Lines as lines
use Rattle.fx_arguments.specs.Lines.{notice_line, outcome_line, status_of}
use Rattle.fx_front.specs.Places.{IsStatus}
use Rattle.fx_arguments.specs.ReadAhead.{ReadAheadView}
use Rattle.fx_arguments.specs.Tellers.{TellerView, Tells, TellsBy, HearsLine, begun}
use Rattle.fx_arguments.proofs.Telling.{tells_change, tells_notices, tells_then}
use Rattle.fx_words.specs.Parts.{PartsView}
use Rattle.fx_front.specs.declared.facts.Facts.{Facts}
use Rattle.fx_cli.specs.Runs.{Ends, IsSpared, Runs, font_bytes, has_arguments}
use Rattle.fx_cli.specs.Seen.{unseen}
use Rattle.fx_cli.specs.Steps.{EndsAfter, IsReasonAfter, Telling}
use Rattle.fx_cli.specs.Watch.{Knows}
use Rattle.fx_cli.specs.declared.watch.Watch.{Watch}
use Rattle.fx_cli.proofs.FirstLines.{for_line}

-- what a teller was told from its start to the end of a run, and what is known of how it ended
pub runs_known : {parts : PartsView} {source sink : Change} {name : GName} {old new : Option (List ℕ)}
    {faults_before faults status : ℕ} {was now end : TellerView} {facts : Facts} (outcome : Result Done Fault)
    → was ≡ begun name old faults_before
    → Telling was now (λ told. Ends parts.words source sink told (record { font = facts.font; names_all = parts.names_all })
    outcome)
    → Tells now end (outcome_line outcome) → status ≡ status_of outcome → new ≡ end.held → faults ≡ end.faults
    → Knows outcome facts
    → Runs parts source sink (record { bytes_before = old; bytes = new; faults_before = faults_before; faults = faults }) status
    facts
runs_known {old = old} {end = end} outcome w t line s held count known =
    let P : TellerView → Type 0 = λ x. Tells x end (flat_map notice_line t.notices ++ outcome_line outcome) in record {
      outcome = outcome;
      notices = t.notices;
      ends = t.ends;
      told = s;
      lines = rw (held, count) (tells_change (subst P w (tells_then (flat_map notice_line t.notices) (outcome_line outcome)
          (tells_notices t.notices t.heard) line)));
      knows = known;
    }

-- the sink of a teller stays
tells_same_by : (b : Bool) (was now : TellerView) (text : List ℕ) → TellsBy b was now text → now.sink ≡ was.sink
tells_same_by true was now text h = ap (λ (x : TellerView). x.sink) h
tells_same_by false was now text h = h.0

pub tells_same : {was now : TellerView} {text : List ℕ} → Tells was now text → now.sink ≡ was.sink
tells_same {was} {now} {text} h = tells_same_by was.failed was now text h.outcome

pub heard_same : (notices : List Notice) (was now : TellerView) → HearsAll HearsLine was notices now → now.sink ≡ was.sink
heard_same [] was now h = ap (λ (x : TellerView). x.sink) h
heard_same (n ∷ ns) was now h = heard_same ns h.0 now h.2 ∙ tells_same h.1

-- the line of how a run ended, told to a new teller
pub begun_told : {name : GName} {old new : Option (List ℕ)} {faults_before faults : ℕ} {was end : TellerView}
    {outcome due : Result Done Fault} → was ≡ begun name old faults_before → outcome ≡ due → Tells was end (outcome_line outcome)
    → new ≡ end.held → faults ≡ end.faults → lines.Tells (outcome_line due)
    (record { bytes_before = old; bytes = new; faults_before = faults_before; faults = faults })
begun_told {end = end} {due = due} w e t held count =
    let P : TellerView → Type 0 = λ x. Tells x end (outcome_line due) in
    rw (held, count) (tells_change (subst P w (rw e at t)))

-- there is no first line
pub no_line : (given : List Text) (source sink : Change) (watch : Watch) (got : List ℕ) → has_arguments given ≡ false
    → Consumes source.bytes_before source.bytes got → IsSpared sink → watch.font ≡ unseen → (fault : Fault)
    → IsLineCause fault got source.faults_before source.faults → Ends given source sink [] watch (Err fault)
no_line given source sink watch got none read spared blank Usage h = record {
  got = got;
  read = read;
  spared = spared;
  silent = refl;
  unseen = blank;
  reason = (rw none (inl h.0), for_line given got source none h.1 h.2);
}
no_line given source sink watch got none read spared blank (Early ReadFailed) h =
    record { got = got; read = read; spared = spared; silent = refl; unseen = blank; reason = h }
no_line given source sink watch got none read spared blank _ h = absurd h

-- there was no memory for the arguments of a line
pub no_room : (given : List Text) (source sink : Change) (watch : Watch) (got : List ℕ)
    → Consumes source.bytes_before source.bytes got → IsSpared sink → watch.font ≡ unseen
    → (r : Result Done Fault) → IsErrAnd r (λ e. e ≡ Early OutOfMemory) → Ends given source sink [] watch r
no_room given source sink watch got read spared blank (Ok done) h = absurd h
no_room given source sink watch got read spared blank (Err e) h =
    let P : Fault → Type 0 = λ f. Ends given source sink [] watch (Err f) in
    subst P (sym h) (record { got = got; read = read; spared = spared; silent = refl; unseen = blank; reason = tt })

-- the input was not read to its end
pub no_text : (command : CommandView) (ahead : ReadAheadView) (source sink : Change) (watch : Watch) (more : List ℕ)
    → Consumes source.bytes_before source.bytes more → (ahead.ended ≡ true → (more ≡ []) × IsAtEnd source.bytes) → IsSpared sink
    → watch.font ≡ unseen → (refusal : Refusal)
    → IsReadCause refusal (ahead.line + length (ahead.text ++ more)) source.faults_before source.faults
    → EndsAfter command ahead source sink [] watch (Err (Early refusal))
no_text command ahead source sink watch more read rest spared blank ReadFailed h =
    record { more = more; read = read; rest = rest; spared = spared; silent = refl; unseen = blank; reason = h }
no_text command ahead source sink watch more read rest spared blank InputTooLarge h =
    record { more = more; read = read; rest = rest; spared = spared; silent = refl; unseen = blank; reason = h }
no_text command ahead source sink watch more read rest spared blank OutOfMemory h =
    record { more = more; read = read; rest = rest; spared = spared; silent = refl; unseen = blank; reason = tt }
no_text command ahead source sink watch more read rest spared blank _ h = absurd h

-- the text of the input is no font's
pub no_font : (command : CommandView) (ahead : ReadAheadView) (source sink : Change) (watch : Watch) (more text : List ℕ)
    → Consumes source.bytes_before source.bytes more → IsAtEnd source.bytes → (ahead.ended ≡ true → more ≡ [])
    → text ≡ ahead.text ++ more → IsSpared sink → watch.font ≡ unseen → (refusal : Refusal)
    → (refusal ≡ OutOfMemory) ⊎ ((refusal ≡ BadHex) × (font_bytes command.hex text ≡ None))
    → EndsAfter command ahead source sink [] watch (Err (Early refusal))
no_font command ahead source sink watch more text read whole rest same spared blank refusal cause = elim cause [
  | inl h ↦ by OutOfMemory h tt
  | inr h ↦ by BadHex h.0 (whole, ap (font_bytes command.hex) (sym same) ∙ h.1)
]
  where
    by : (due : Refusal) → refusal ≡ due → IsReasonAfter command ahead more source due
        → EndsAfter command ahead source sink [] watch (Err (Early refusal))
    by due e reason = subst (λ r. EndsAfter command ahead source sink [] watch (Err (Early r))) (sym e) (record {
      more = more;
      read = read;
      rest = λ h. (rest h, whole);
      spared = spared;
      silent = refl;
      unseen = blank;
      reason = reason;
    })

-- a listing was refused
pub unlisted : (program : Result (List ℕ) Refusal) (sink : Change) (r : Result (Unit {0}) Refusal) (d : Refusal) → r ≡ Err d
    → (IsNoFault d → IsNotListed program sink d) → ((n : ℕ) → IsErrOf r (WriteFailed n) → IsListedTo program sink n)
    → Lists program sink (Err d)
unlisted program sink r (WriteFailed n) e c w = w n e
unlisted program sink r d e c w = c tt

-- a run ends with a status of the three
pub status_is : (outcome : Result Done Fault) → IsStatus (status_of outcome)
status_is (Ok done) = omega arith
status_is (Err Usage) = omega arith
status_is (Err (Early refusal)) = omega arith
status_is (Err (Late refusal)) = omega arith
