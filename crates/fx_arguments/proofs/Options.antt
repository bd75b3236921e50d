-- The options of a command are those that clap takes (`rows_taken`), or it refuses the words (`rows_refused`).
-- Serves the arguments of the commands: `read_values`, `matches`, `size_of`, `face_of`.
use Rattle.std.proofs.Common.{◌≡◌, ◌∙◌, ℕ, ◌<◌, ◌^◌, List, [], ◌∷◌, length, refl, sym, ap, ap₂, Option, Some, None, Bool, true, false}
use Rattle.std.proofs.Common.{Result, Ok, Err, ◌&&◌, ◌||◌, ◌⊎◌, inl, inr}
use Rattle.std.specs.Prelude.{nat_lt, if◌then◌else◌}
use Rattle.std.specs.List.{list_all, list_any}
use Rattle.std.specs.Result.{result_ok}
use Rattle.std.specs.Char.{digit_value}
use Rattle.std.specs.Str.Parse.{AllDigits, IsNumeral, ParsesUnsigned, digits_value, without_leading_plus}
use Rattle.std.proofs.lemmas.Bool.{ltb-true, lt-ltb}
use Rattle.std.proofs.lemmas.Result.{err_from_is_err_and}
use Rattle.clap.proofs.OnLiterals.{clap_on_literals}
use Rattle.clap.proofs.WalkLemmas.{both}
use Rattle.clap.specs.Words.{App, IsAmong, Kinds, Row, Text, fault_of, is_simple, is_simple_and_free, matches_of}
use Rattle.clap.specs.declared.error.kind.ErrorKind.{ErrorKind}
use Rattle.clap.specs.declared.error.kind.ErrorKind.TheVariants as memory
use Rattle.fx_request.specs.declared.refusal.Refusal.{Refusal}
use Rattle.fx_request.specs.declared.refusal.Refusal.TheVariants.{BadChars, OutOfMemory}
use Rattle.fx_arguments.specs.declared.fault.Fault.{Fault}
use Rattle.fx_arguments.specs.declared.fault.Fault.TheVariants.{Usage, Early}
use Rattle.fx_arguments.specs.declared.verb.Verb.{Verb}
use Rattle.fx_arguments.specs.declared.verb.Verb.TheVariants.{Make, Show, Outline, Dump, Trace, Faces}
use Rattle.fx_arguments.specs.Arguments.{app_for, asked_for, dump_app, faces_app, is_bare, is_some_kind, make_app, outline_app, rows_by}
use Rattle.fx_arguments.specs.Arguments.{show_app, trace_app, unsigned_of}
use Rattle.fx_arguments.specs.CommandLine.{command_by}
use Rattle.fx_arguments.specs.Commands.{CommandView, Refuses}
use Rattle.fx_arguments.specs.Mistakes.{asked_by}
use Rattle.fx_arguments.specs.Wrong.{malformed, wrong}

-- clap reads these commands as its definitions say
free_for : (verb : Verb) → is_simple_and_free (app_for verb) ≡ true
unfolding make_app show_app outline_app dump_app trace_app faces_app clap_on_literals
free_for Make = refl
free_for Show = refl
free_for Outline = refl
free_for Dump = refl
free_for Trace = refl
free_for Faces = refl

simple_for : (verb : Verb) → is_simple (app_for verb) ≡ true
unfolding make_app show_app outline_app dump_app trace_app faces_app clap_on_literals
simple_for Make = refl
simple_for Show = refl
simple_for Outline = refl
simple_for Dump = refl
simple_for Trace = refl
simple_for Faces = refl

-- decimal digits, as a test
pub tests_digits : (ds : List ℕ) → AllDigits 10 ds → list_all (λ d. nat_lt (digit_value d) 10) ds ≡ true
tests_digits [] h = refl
tests_digits (d ∷ ds) h = ap₂ ◌&&◌ (lt-ltb _ _ h.0) (tests_digits ds h.1)

pub digits_tested : (ds : List ℕ) → list_all (λ d. nat_lt (digit_value d) 10) ds ≡ true → AllDigits 10 ds
digits_tested [] h = tt
digits_tested (d ∷ ds) h = let p = both _ _ h in (ltb-true _ _ p.0, digits_tested ds p.1)

-- a text that parses as a number is one
number_passes : (limit : ℕ) (ds : List ℕ) → IsNumeral 10 ds → digits_value 10 ds < limit
    → nat_lt 0 (length ds) && (list_all (λ d. nat_lt (digit_value d) 10) ds && nat_lt (digits_value 10 ds) limit) ≡ true
number_passes limit ds h g = ap₂ ◌&&◌ (lt-ltb _ _ h.0) (ap₂ ◌&&◌ (tests_digits ds h.1) (lt-ltb _ _ g))

passed_number : (limit : ℕ) (ds : List ℕ) → nat_lt 0 (length ds) &&
    (list_all (λ d. nat_lt (digit_value d) 10) ds && nat_lt (digits_value 10 ds) limit) ≡ true
    → IsNumeral 10 ds × (digits_value 10 ds < limit)
passed_number limit ds e =
    let p = both _ _ e in
    let q = both _ _ p.1 in
    ((ltb-true _ _ p.0, digits_tested ds q.0), ltb-true _ _ q.1)

abbrev numbered : Bool → ℕ → Option ℕ
numbered b n = if b then Some n else None

unsigned_is : (bits : ℕ) (text : List ℕ) → unsigned_of bits text ≡
    numbered (nat_lt 0 (length (without_leading_plus text)) &&
    (list_all (λ d. nat_lt (digit_value d) 10) (without_leading_plus text) && nat_lt (digits_value 10 (without_leading_plus text))
    (2 ^ bits))) (digits_value 10 (without_leading_plus text))
unfolding unsigned_of
unsigned_is bits text = refl

none_numbered : (b : Bool) (n : ℕ) → (b ≡ true → ⊥) → numbered b n ≡ None
none_numbered true n h = absurd (h refl)
none_numbered false n h = refl

pub unsigned_parsed : {E : Type 0} (bits : ℕ) (text : List ℕ) (r : Result ℕ E) → ParsesUnsigned bits 10 text r
    → result_ok r ≡ unsigned_of bits text
unsigned_parsed bits text (Ok n) h = ap (λ (k : ℕ). Some k) h.1 ∙
    sym (unsigned_is bits text ∙ ap (λ (b : Bool). numbered b (digits_value 10 (without_leading_plus text)))
    (number_passes (2 ^ bits) (without_leading_plus text) h.0.0 h.0.1))
unsigned_parsed bits text (Err e) h =
    sym (unsigned_is bits text ∙ none_numbered _ _ (λ passed. h (passed_number (2 ^ bits) (without_leading_plus text) passed)))

-- ---- the values that arguments give a command's options

among_some : (kind : ErrorKind) (kinds : Kinds) → IsAmong kind kinds → is_some_kind kinds ≡ true
among_some kind [] h = absurd h
among_some kind (first ∷ kinds) h = refl

or_true : (b : Bool) → b || true ≡ true
or_true true = refl
or_true false = refl

pub rows_of_bare : (verb : Verb) (words : List Text) → list_any is_bare words ≡ true → rows_by verb words ≡ None
unfolding rows_by
rows_of_bare verb words bare = rw bare

-- clap takes the words
pub rows_taken : {S : Type 0} (verb : Verb) (app : App) (words : List Text) (rows : List Row) → app ≡ app_for verb
    → list_any is_bare words ≡ false → (is_simple app ≡ true → (rows ≡ matches_of app words) × S)
    → (is_simple_and_free app ≡ true → fault_of app words ≡ []) → rows_by verb words ≡ Some rows
unfolding rows_by
rows_taken verb app words rows e bare found none =
    let no_fault = none (ap is_simple_and_free e ∙ free_for verb) in
    let are = found (ap is_simple e ∙ simple_for verb) in
    rw (are.0, e, bare, sym (ap (λ (a : App). fault_of a words) e) ∙ no_fault)

-- it refuses them
pub rows_refused : (verb : Verb) (app : App) (words : List Text) (kind : ErrorKind) (fault : Fault) → app ≡ app_for verb
    → (is_simple_and_free app ≡ true → (kind ≡ memory.OutOfMemory) ⊎ IsAmong kind (fault_of app words))
    → (kind ≡ memory.OutOfMemory → fault ≡ Early OutOfMemory) → (fault ≡ Early OutOfMemory) ⊎ (fault ≡ Usage)
    → (fault ≡ Early OutOfMemory) ⊎ ((fault ≡ Usage) × (rows_by verb words ≡ None))
unfolding rows_by
rows_refused verb app words kind fault e fails out cases =
    elim (fails (ap is_simple_and_free e ∙ free_for verb)) [
      | inl memory ↦ inl (out memory)
      | inr among ↦ elim cases [
        | inl early ↦ inl early
        | inr usage ↦
            let some = among_some kind (fault_of app words) among in
            let same : is_some_kind (fault_of (app_for verb) words) ≡ true = rw e at some in
            inr (usage, rw (same, or_true (list_any is_bare words)))
      ]
    ]

-- ---- what they ask for

-- clap refuses the words
pub not_read : (verb : Verb) (words : List Text) (fault : Fault)
    → (fault ≡ Early OutOfMemory) ⊎ ((fault ≡ Usage) × (rows_by verb words ≡ None)) → Refuses fault (command_by (Some verb) words)
unfolding asked_by
not_read verb words fault (inl memory) = rw memory tt
not_read verb words fault (inr (usage, none)) = rw (usage, none)

-- it takes them
pub read_ok : (verb : Verb) (words : List Text) (rows : List Row) (command : CommandView) → rows_by verb words ≡ Some rows
    → asked_for verb rows ≡ Ok command → command_by (Some verb) words ≡ Ok command
unfolding asked_by
read_ok verb words rows command e d = rw (e, d)

pub read_wrong : (verb : Verb) (words : List Text) (rows : List Row) (text : Text) → rows_by verb words ≡ Some rows
    → asked_for verb rows ≡ Err (wrong text) → command_by (Some verb) words ≡ Err Usage
unfolding asked_by
read_wrong verb words rows text e d = rw (e, d)

pub read_refused : (verb : Verb) (words : List Text) (rows : List Row) (refusal : Refusal) → rows_by verb words ≡ Some rows
    → (refusal ≡ OutOfMemory) ⊎ ((refusal ≡ BadChars) × (asked_for verb rows ≡ Err malformed))
    → Refuses (Early refusal) (command_by (Some verb) words)
unfolding asked_by
read_refused verb words rows refusal e (inl memory) = rw memory tt
read_refused verb words rows refusal e (inr (bad, d)) = rw (bad, e, d)

pub ruleset read_steps = (err_from_is_err_and, not_read, read_ok, read_wrong, read_refused)
