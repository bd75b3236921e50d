-- A task that was done, or was refused late, ends the run: `task_ends`.
-- Serves the steps of a run that tells of characters.
use Rattle.std.proofs.Common.{◌≡◌, ℕ, inl, inr, refl, subst, List, [], Result, Ok, Err}
use Rattle.fx_fixed.specs.Chain.{map_fault}
use Rattle.fx_request.specs.declared.refusal.Refusal.{Refusal}
use Rattle.fx_request.specs.declared.refusal.Refusal.TheVariants.{OutOfMemory, WriteFailed}
use Rattle.fx_request.specs.declared.request.Report.{Report}
use Rattle.fx_request.specs.declared.request.Request.{Request}
use Rattle.fx_request.specs.Notices.{Told}
use Rattle.fx_strike.specs.Headline.{Leaves, Makes, notices_of, opening_of, strike_of}
use Rattle.fx_strike.specs.Strike.{Plan}
use Rattle.fx_sfnt.specs.Collections.{FontFileView}
use Rattle.fx_fixed.specs.Changes.{Change}
use Rattle.fx_arguments.specs.declared.done.Done.{Done}
use Rattle.clap.specs.Walk.{Text}
use Rattle.fx_arguments.specs.CommandLine.{command_of}
use Rattle.fx_arguments.specs.declared.fault.Fault.{Fault}
use Rattle.fx_arguments.specs.declared.fault.Fault.TheVariants.{Late}
use Rattle.fx_arguments.specs.Commands.{CharacterChoiceView, CommandView, MakeView, listed, mapped, seen_request}
use Rattle.fx_arguments.specs.ReadAhead.{ReadAheadView}
use Rattle.fx_request.specs.declared.notice.Notice.{Notice}
use Rattle.fx_arguments.specs.Tellers.{HearsLine, TellerView}
use Rattle.fx_cli.specs.Mapped.{all_mapped, chosen_of}
use Rattle.fx_cli.specs.Runs.{IsSpared, LeavesBy, StrikeLeaves}
use Rattle.fx_cli.specs.Steps.{CompletesAfter, EndsAfter, EndsFrom, Telling}
use Rattle.fx_cli.specs.declared.watch.Watch.{Watch}

-- a task that was done, or was refused late, ends the run
pub task_ends : {command : CommandView} {ahead : ReadAheadView} {source sink : Change} {told : List Notice} {watch : Watch}
    → (answer : Result Done Refusal) → CompletesAfter command ahead source sink told watch answer
    → EndsAfter command ahead source sink told watch (map_fault Late answer)
task_ends (Ok done) h = h
task_ends (Err refusal) h = h

-- ---- what was told

-- nothing
pub untold : {teller : TellerView} {EndsBy : List Notice → Type 0} → EndsBy [] → Telling teller teller EndsBy
untold h = record { notices = []; heard = refl; ends = h }

-- nothing, since the run of a command stopped before its task
pub untold_after : {teller : TellerView} {arguments : List Text} {command : CommandView} (ahead : ReadAheadView)
    {source sink : Change} {watch : Watch} {outcome : Result Done Fault} → command_of arguments ≡ Ok command
    → EndsAfter command ahead source sink [] watch outcome
    → Telling teller teller (λ told. EndsFrom arguments ahead source sink told watch outcome)
untold_after {command = command} ahead asks ends = untold (inr (command, asks, ends))

-- what was told in a step that ends another one
pub told_as : {was now : TellerView} {EndsBy ThenBy : List Notice → Type 0} → Telling was now EndsBy
    → ((told : List Notice) → EndsBy told → ThenBy told) → Telling was now ThenBy
told_as t h = record { notices = t.notices; heard = t.heard; ends = h t.notices t.ends }

-- there was no memory for all characters of a map
pub no_codes : (chars : CharacterChoiceView) (make : MakeView) (font : FontFileView) (sink : Change) → chars ≡ mapped
    → IsSpared sink → LeavesBy chars make font sink [] (Err OutOfMemory)
no_codes (listed chars) make font sink e spared = absurd (cc)
no_codes mapped make font sink e spared = inr (refl, spared, refl)

-- ---- a strike that was refused

leaves_refused : {Y : Type 0} (checks : Result Y Refusal) (strike : Result Plan Refusal) (change : Change) (refusal : Refusal)
    → Makes checks strike change (Err refusal) → Leaves checks strike change (Err refusal)
leaves_refused checks strike change OutOfMemory m = (m.late refl, m.memory refl)
leaves_refused checks strike change (WriteFailed n) m = m.writer n refl
leaves_refused checks strike change _ m = m.cause tt

-- of the characters of a list, or of all of a map
by_choice : (choice : CharacterChoiceView) (all : List ℕ) (make : MakeView) (font : FontFileView) (sink : Change)
    (told : List Notice) (answer : Result Report Refusal) → all ≡ all_mapped choice font
    → StrikeLeaves make (chosen_of choice all) font sink told answer → LeavesBy choice make font sink told answer
by_choice (listed chars) all make font sink told answer e h = h
by_choice mapped all make font sink told answer e h =
    let P : List ℕ → Type 0 = λ codes. StrikeLeaves make codes font sink told answer in inl (subst P e h)

-- the request is for these characters as the words ask for them
pub strike_refused : (request : Request) (make : MakeView) (all : List ℕ) (font : FontFileView) (sink : Change)
    (was now : TellerView) (refusal : Refusal) → seen_request make.chars request ≡ make
    → request.chars.now ≡ chosen_of make.chars all → all ≡ all_mapped make.chars font
    → Makes (opening_of font request) (strike_of font request) sink (Err refusal)
    → Told {Y = Report} HearsLine was now (notices_of (strike_of font request)) (Err refusal)
    → Telling was now (λ told. LeavesBy make.chars make font sink told (Err refusal))
strike_refused request make all font sink was now refusal asked chars codes m t =
    let P : MakeView → List ℕ → Type 0 = λ view codes. StrikeLeaves view codes font sink t.told (Err refusal) in
    let made : P (seen_request make.chars request) request.chars.now =
    (leaves_refused (opening_of font request) (strike_of font request) sink refusal m, t.are) in
    record {
      notices = t.told;
      heard = t.heard;
      ends = by_choice make.chars all make font sink t.told (Err refusal) codes
          (subst (λ (cs : List ℕ). P make cs) chars (subst (λ (view : MakeView). P view request.chars.now) asked made));
    }
