-- What a call wrote to a sink.
use Rattle.std.specs.Prelude.{◌≡◌, ℕ, ◌+◌, ◌<◌, List, length, take, Result, Ok, Err}
use Rattle.std.specs.Io.KnownBytes.{Appends}
use Rattle.fx_fixed.specs.Changes.{Change}
use Rattle.fx_fixed.specs.declared.sink.WriteFailed.{WriteFailed}

-- all of a text, and no fault; or exactly its first n bytes, and one fault more
abbrev pub WroteBy : Change → List ℕ → Result (Unit {0}) WriteFailed → Type 0
WroteBy sink text (Ok _) = Appends sink.bytes_before sink.bytes text × (sink.faults ≡ sink.faults_before)
WroteBy sink text (Err e) =
    (e.0 < length text) × Appends sink.bytes_before sink.bytes (take e.0 text) × (sink.faults ≡ sink.faults_before + 1)

-- the same as a record, so that a proof finds its arguments
pub record Wrote (sink : Change) (text : List ℕ) (result : Result (Unit {0}) WriteFailed) : Type 0 where
  pub outcome : WroteBy sink text result
