-- The bytes of an input.
use Rattle.std.specs.Prelude.{ℕ, ◌==◌, ◌||◌, Bool, not, List, filter, length, Option, ◌≡◌, ◌<◌, ◌≤◌, ◌+◌}
use Rattle.std.specs.List.{before_first, after_first}
use Rattle.std.specs.Result.{result_ok}
use Rattle.hex.specs.Hex.{decode_of}
use Rattle.fx_request.specs.declared.refusal.Refusal.{Refusal}
use Rattle.fx_request.specs.declared.refusal.Refusal.TheVariants.{InputTooLarge, OutOfMemory, ReadFailed}
use Rattle.fx_arguments.specs.Limits.{max_input, max_line}
use Rattle.fx_arguments.specs.declared.fault.Fault.{Fault}
use Rattle.fx_arguments.specs.declared.fault.Fault.TheVariants.{Usage, Early}
use Rattle.fx_arguments.specs.Parts.{parts_of}

-- a space, a tab, CR or LF
abbrev pub is_blank : ℕ → Bool
is_blank b = b == 32 || b == 9 || b == 13 || b == 10

-- the bytes that hexadecimal text writes, its blanks left out
unfoldable pub bytes_of_hex : List ℕ → Option (List ℕ)
bytes_of_hex text = result_ok (decode_of (filter (λ b. not (is_blank b)) text))

-- the first line, and what follows it
abbrev pub line_of : List ℕ → List ℕ
line_of input = before_first (λ b. b == 10) input

abbrev pub rest_of : List ℕ → List ℕ
rest_of input = after_first (λ b. b == 10) input

abbrev pub has_bytes : List ℕ → Bool
has_bytes argument = not (length argument == 0)

-- the arguments of a line, separated by spaces
unfoldable pub arguments_of_line : List ℕ → List (List ℕ)
arguments_of_line line = filter has_bytes (parts_of 32 line)

-- why reading stopped before the end: more than max_input bytes, a fault of the reader, or out of memory
abbrev pub IsReadCause : Refusal → ℕ → ℕ → ℕ → Type 0
IsReadCause InputTooLarge size faults_before faults_after = max_input < size
IsReadCause ReadFailed size faults_before faults_after = faults_after ≡ faults_before + 1
IsReadCause OutOfMemory size faults_before faults_after = Unit {0}
IsReadCause _ size faults_before faults_after = ⊥

-- why there is no first line: it has more than max_line bytes, or a fault of the reader
abbrev pub IsLineCause : Fault → List ℕ → ℕ → ℕ → Type 0
IsLineCause Usage got faults_before faults_after =
    (max_line < length (line_of got)) × (length got ≤ max_line + 1) × (faults_after ≡ faults_before)
IsLineCause (Early ReadFailed) got faults_before faults_after = faults_after ≡ faults_before + 1
IsLineCause _ got faults_before faults_after = ⊥
