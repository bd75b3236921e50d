-- A sink that gets lines in turn, until it fails.
use Rattle.std.specs.Prelude.{◌≡◌, ◌⊎◌, ℕ, ◌+◌, ◌<◌, Bool, true, false, List, length, take, Option}
use Rattle.std.specs.Borrow.{GName}
use Rattle.std.specs.Io.KnownBytes.{Appends}
use Rattle.fx_request.specs.declared.notice.Notice.{Notice}
use Rattle.fx_arguments.specs.Lines.{notice_line}

-- the name of the borrow of the sink, what the sink holds if that is known, its faults, and whether it failed
pub record TellerView : Type 0 where
  pub sink : GName
  pub held : Option (List ℕ)
  pub faults : ℕ
  pub failed : Bool

-- nothing was told yet
abbrev pub begun : GName → Option (List ℕ) → ℕ → TellerView
begun sink held faults = record { sink = sink; held = held; faults = faults; failed = false }

-- all of a text was written
pub record TellsAll (was now : TellerView) (text : List ℕ) : Type 0 where
  pub written : Appends was.held now.held text
  pub quiet : now.faults ≡ was.faults
  pub sound : now.failed ≡ false

-- exactly its first n bytes were written, and the sink counted one fault
pub record TellsSome (was now : TellerView) (text : List ℕ) : Type 0 where
  pub count : ℕ
  pub short : count < length text
  pub written : Appends was.held now.held (take count text)
  pub fault : now.faults ≡ was.faults + 1
  pub failed : now.failed ≡ true

-- once it failed it writes nothing more
abbrev pub TellsBy : Bool → TellerView → TellerView → List ℕ → Type 0
TellsBy true was now text = now ≡ was
TellsBy false was now text = (now.sink ≡ was.sink) × (TellsAll was now text ⊎ TellsSome was now text)

-- it was told a text
pub record Tells (was now : TellerView) (text : List ℕ) : Type 0 where
  pub outcome : TellsBy was.failed was now text

-- it was told the line of a notice
abbrev pub HearsLine : TellerView → Notice → TellerView → Type 0
HearsLine was notice now = Tells was now (notice_line notice)
