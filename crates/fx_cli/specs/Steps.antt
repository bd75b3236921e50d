-- The steps of a run after its arguments.
use Rattle.std.specs.Prelude.{◌≡◌, ◌⊎◌, ◌+◌, ◌<◌, ◌≤◌, ◌++◌, ℕ, true, List, [], length, Some, None, Result, Ok, Err}
use Rattle.std.specs.Io.KnownBytes.{Consumes, IsAtEnd}
use Rattle.fx_sfnt.specs.Collections.{face_in}
use Rattle.fx_request.specs.declared.refusal.Refusal.{Refusal}
use Rattle.fx_request.specs.declared.refusal.Refusal.TheVariants.{BadHex, InputTooLarge, OutOfMemory, ReadFailed}
use Rattle.fx_arguments.specs.Limits.{max_input}
use Rattle.fx_arguments.specs.declared.done.Done.{Done}
use Rattle.fx_arguments.specs.declared.fault.Fault.{Fault}
use Rattle.fx_arguments.specs.declared.fault.Fault.TheVariants.{Usage, Early, Late}
use Rattle.clap.specs.Walk.{Text}
use Rattle.fx_arguments.specs.CommandLine.{command_of}
use Rattle.fx_arguments.specs.Commands.{CommandView, Refuses}
use Rattle.fx_arguments.specs.ReadAhead.{ReadAheadView}
use Rattle.fx_fixed.specs.Changes.{Change}
use Rattle.fx_request.specs.declared.notice.Notice.{Notice}
use Rattle.fx_request.specs.Notices.{HearsAll}
use Rattle.fx_arguments.specs.Tellers.{TellerView, HearsLine}
use Rattle.fx_cli.specs.Runs.{IsSpared, IsUnread, TaskLeaves, font_bytes}
use Rattle.fx_cli.specs.Seen.{Sees, unseen}
use Rattle.fx_cli.specs.declared.watch.Watch.{Watch}

-- the source was read to its end after what was read ahead, without a fault, its text was decoded if the command says so, the
-- sink has what the command's task leaves with that font, and the watch saw that font
pub record CompletesAfter (command : CommandView) (ahead : ReadAheadView) (source sink : Change) (told : List Notice)
    (watch : Watch) (answer : Result Done Refusal) : Type 0 where
  pub more : List ℕ
  pub read : Consumes source.bytes_before source.bytes more
  pub whole : IsAtEnd source.bytes
  pub quiet : source.faults ≡ source.faults_before
  pub rest : ahead.ended ≡ true → more ≡ []
  pub fits : ahead.line + length (ahead.text ++ more) ≤ max_input
  pub font : List ℕ
  pub decoded : font_bytes command.hex (ahead.text ++ more) ≡ Some font
  pub leaves : TaskLeaves command.task (face_in font command.face) sink told answer
  pub seen : Sees command (face_in font command.face) answer watch.names_all watch.font

-- a refusal before the task is true: the reader failed, the text is no hexadecimal text, the input is too large, or memory ran out
abbrev pub IsReasonAfter : CommandView → ReadAheadView → List ℕ → Change → Refusal → Type 0
IsReasonAfter command ahead more source ReadFailed = source.faults ≡ source.faults_before + 1
IsReasonAfter command ahead more source BadHex = IsAtEnd source.bytes × (font_bytes command.hex (ahead.text ++ more) ≡ None)
IsReasonAfter command ahead more source InputTooLarge = max_input < ahead.line + length (ahead.text ++ more)
IsReasonAfter command ahead more source OutOfMemory = Unit {0}
IsReasonAfter command ahead more source _ = ⊥

-- the run stopped before the task, for a true reason: the sink is as it was, nothing was told of characters, and no font was seen
pub record StopsAfter (command : CommandView) (ahead : ReadAheadView) (source sink : Change) (told : List Notice) (watch : Watch)
    (refusal : Refusal) : Type 0 where
  pub more : List ℕ
  pub read : Consumes source.bytes_before source.bytes more
  pub rest : ahead.ended ≡ true → (more ≡ []) × IsAtEnd source.bytes
  pub spared : IsSpared sink
  pub silent : told ≡ []
  pub unseen : watch.font ≡ unseen
  pub reason : IsReasonAfter command ahead more source refusal

-- how a run ends once its command is known: it did the task, which may refuse late, or it stopped early
abbrev pub EndsAfter : CommandView → ReadAheadView → Change → Change → List Notice → Watch → Result Done Fault → Type 0
EndsAfter command ahead source sink told watch (Ok done) = CompletesAfter command ahead source sink told watch (Ok done)
EndsAfter command ahead source sink told watch (Err (Late refusal)) =
    CompletesAfter command ahead source sink told watch (Err refusal)
EndsAfter command ahead source sink told watch (Err (Early refusal)) = StopsAfter command ahead source sink told watch refusal
EndsAfter command ahead source sink told watch (Err Usage) = ⊥

-- arguments are refused, and nothing was read, written, told or seen
pub record RefusesGiven (arguments : List Text) (source sink : Change) (told : List Notice) (watch : Watch) (fault : Fault)
    : Type 0 where
  pub why : Refuses fault (command_of arguments)
  pub unread : IsUnread source
  pub untouched : IsUnread sink
  pub silent : told ≡ []
  pub unseen : watch.font ≡ unseen

-- how a run on these arguments ends: they are refused; or it is known how their command ends
abbrev pub EndsFrom : List Text → ReadAheadView → Change → Change → List Notice → Watch → Result Done Fault → Type 0
EndsFrom arguments ahead source sink told watch outcome =
    ((fault : Fault) × (outcome ≡ Err fault) × RefusesGiven arguments source sink told watch fault)
    ⊎ ((command : CommandView) × (command_of arguments ≡ Ok command) × EndsAfter command ahead source sink told watch outcome)

-- ---- what was told

-- a teller of lines before and after a step that ended with these notices, and it heard them
pub record Telling (was now : TellerView) (EndsBy : List Notice → Type 0) : Type 0 where
  pub notices : List Notice
  pub heard : HearsAll HearsLine was notices now
  pub ends : EndsBy notices
