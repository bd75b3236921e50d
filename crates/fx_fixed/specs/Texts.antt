-- A text on its way to a sink: the sink took a beginning of it, and what follows waits.
use Rattle.std.specs.Prelude.{◌≡◌, ℕ, ◌+◌, ◌-◌, ◌^◌, ◌<◌, min, List, [], ◌++◌, length, take, Option, Result, Ok, Err}
use Rattle.std.specs.Borrow.{GName}
use Rattle.std.specs.Io.KnownBytes.{Appends}
use Rattle.fx_fixed.specs.declared.sink.WriteFailed.{WriteFailed}

-- a count of bytes after k more; it stays at the greatest u64
abbrev pub after : ℕ → ℕ → ℕ
after count k = count + min k (2 ^ 64 - 1 - count)

-- a writer: the name of its borrow of the sink, what the sink holds, if that is known, and the sink's faults; how many bytes of
-- the text the sink took, and those that wait
pub record TextView : Type 0 where
  pub sink : GName
  pub held : Option (List ℕ)
  pub faults : ℕ
  pub taken : ℕ
  pub waiting : List ℕ

-- an empty text for a sink
abbrev pub begun : GName → Option (List ℕ) → ℕ → TextView
begun sink held faults = record { sink = sink; held = held; faults = faults; taken = 0; waiting = [] }

-- with these bytes waiting after the others
abbrev pub with_more : TextView → List ℕ → TextView
with_more text bytes = record text { waiting = text.waiting ++ bytes }

-- the sink failed after n bytes of a text, and counted one fault
abbrev pub Fails : WriteFailed → ℕ → ℕ → ℕ → Type 0
Fails fault n faults_before faults = (fault.0 ≡ n) × (faults ≡ faults_before + 1)

-- bytes were added to a text: the sink took a beginning of what waited and of the bytes, and the rest waits; or the text stopped,
-- as `Stops` says by the fault, the count and the sink's faults, once the sink had taken some of them, and not all
abbrev pub AddsBy : {E : Type 0} → (E → ℕ → ℕ → ℕ → Type 0) → TextView → TextView → List ℕ → Result (Unit {0}) E → Type 0
AddsBy Stops was now bytes (Ok _) =
    (sent : List ℕ) × (was.waiting ++ bytes ≡ sent ++ now.waiting) × (now.taken ≡ after was.taken (length sent))
    × Appends was.held now.held sent × (now.faults ≡ was.faults)
AddsBy Stops was now bytes (Err fault) =
    (k : ℕ) × (k < length (was.waiting ++ bytes)) × Appends was.held now.held (take k (was.waiting ++ bytes))
    × Stops fault (after was.taken k) was.faults now.faults

-- the same as a record, so that a proof finds its arguments; the sink is the same
pub record Adds {E : Type 0} (Stops : E → ℕ → ℕ → ℕ → Type 0) (was now : TextView) (bytes : List ℕ)
    (result : Result (Unit {0}) E) : Type 0 where
  pub same : now.sink ≡ was.sink
  pub outcome : AddsBy Stops was now bytes result

-- how many bytes of the text there are
abbrev pub length_of : TextView → ℕ
length_of text = text.taken + length text.waiting
