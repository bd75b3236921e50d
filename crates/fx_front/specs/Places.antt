-- A run whose output is a file that is made late, and gets its name at the end.
use Rattle.std.specs.Prelude.{◌≡◌, ◌⊎◌, ◌≤◌, ◌==◌, ◌&&◌, ◌%◌, not, ℕ, nat_lt, Bool, true, false, List, [], ◌∷◌, codes, Option, Some, None, is_some}
use Rattle.std.specs.Prelude.{if◌then◌else◌}
use Rattle.std.specs.Str.{bytes_eq}
use Rattle.fx_fixed.specs.Changes.{Change}
use Rattle.fx_words.specs.Parts.{Text}
use Rattle.fx_front.specs.declared.disk.Access.{Access}
use Rattle.fx_front.specs.declared.facts.Facts.{Facts}
use Rattle.fx_front.specs.declared.facts.RefusalFacts.{RefusalFacts}
use Rattle.fx_front.specs.declared.run.Ended.{Ended}

-- what the file holds; before it is made, what a new one would hold
abbrev pub held_by : {New : Type 0} → (New → Option (List ℕ)) → Option (List ℕ) → Option New → Option (List ℕ)
held_by held fresh None = fresh
held_by held fresh (Some new) = held new

-- the status of a run: 0 it is done, 1 it is refused or failed, 2 its command line is wrong
abbrev pub IsStatus : ℕ → Type 0
IsStatus status = status ≤ 2

-- whether a command, if there is one, has this name
abbrev pub is_named : Option Text → Text → Bool
is_named None name = false
is_named (Some command) name = bytes_eq command name

-- a program of the font halted
abbrev pub has_halted : Option RefusalFacts → Bool
has_halted None = false
has_halted (Some refused) = refused.is_halted

-- a trace that halted keeps the lines before the halt
abbrev pub keeps : Bool → ℕ → Facts → Bool
keeps is_trace status facts = is_trace && (status == 1 && has_halted facts.refused)

-- a file gets its name if its run is done, or if it is a trace that halted
abbrev pub IsKept : Bool → Facts → ℕ → Type 0
IsKept is_trace facts status = (status ≡ 0) ⊎ (keeps is_trace status facts ≡ true)

-- a program ran with a sink that held at first what a new file holds, and at the end what `new` does, if that file was made. What
-- is said of its end is true: its status; whether the file was to be made, and was not; and whether it got its name. If it did, the
-- status is 0 or a trace halted, and these are its bytes; if not, the place is as it was. At a place that works for certain it gets
-- its name after status 0
pub record RunsTo {Place New : Type 0} (Ran : Change → ℕ → Type 0) (Names : Place → Option (List ℕ) → Place → Type 0)
    (works : Place → Bool) (fresh : Option (List ℕ)) (contents : New → Option (List ℕ)) (was now : Place) (is_trace : Bool)
    (facts : Facts) (ended : Ended)
    : Type 0 where
  pub new : Option New
  pub faults : ℕ
  pub ran : Ran (record { bytes_before = fresh; bytes = held_by contents fresh new; faults_before = 0; faults = faults })
      ended.status
  pub unmade : ended.is_unmade ≡ (nat_lt 0 faults && not (is_some new))
  pub named : ended.is_named ≡ true → IsKept is_trace facts ended.status × Names was (held_by contents fresh new) now
  pub spared : ended.is_named ≡ false → now ≡ was
  pub sure : ended.status ≡ 0 → works was ≡ true → ended.is_named ≡ true

-- the status that the user gets: 1 if the run was done and its file did not get the name, else the program's own
abbrev pub ended_status : ℕ → Bool → ℕ
ended_status status is_named = if status == 0 && not is_named then 1 else status

-- the bits of a mode that say who may read, write and run a file: all but those by which a program runs as its owner or group, and
-- the one that keeps others' files in a folder
abbrev pub kept_mode : ℕ → ℕ
kept_mode mode = mode % 512

-- the mode that a new file is made with: before it takes over an older one's, only its owner may read and write it (0600); if it
-- replaces none, all that the user's mask lets read and write (0666)
abbrev pub new_mode : Option Access → ℕ
new_mode None = 438
new_mode (Some older) = 384

-- the names of standard output
abbrev pub standard : List Text
standard = codes "-" ∷ codes "/dev/stdout" ∷ codes "/dev/fd/1" ∷ codes "/proc/self/fd/1" ∷ []
