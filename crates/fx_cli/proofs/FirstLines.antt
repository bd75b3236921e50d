-- The line of the input that has the arguments ends where its end was found: `length-line_of`.
-- Serves `read_line_and_do`, and `run` of `Mkstrike`.
use Rattle.std.proofs.Common.{◌≡◌, ◌∙◌, ◌==◌, ◌⊎◌, inl, inr, ℕ, ◌+◌, ◌<◌, ◌≤◌, List, [], ◌∷◌, ◌++◌, length, take, drop}
use Rattle.std.proofs.Common.{not, refl, sym, ap, arith, Option, Bool, true, false, cond, Result, Ok, Err}
use Rattle.std.proofs.Common.{append-nil, length-append, Bor}
use Rattle.std.proofs.lemmas.List.Sums.{prefix_len-le-length}
use Rattle.std.specs.Str.{IsUtf8}
use Rattle.std.specs.List.{position_or_len, prefix_len}
use Rattle.std.specs.Io.KnownBytes.{Consumes, IsAtEnd}
use Rattle.std.proofs.KnownBytes.{Consumes-nil, Consumes-trans, Keeps-refl}
use Rattle.std.proofs.lemmas.List.{take-append-le, drop-append-le}
use Rattle.std.proofs.lemmas.List.Folds.{prefix_len-append}
use Rattle.std.proofs.lemmas.List.{length-take-le, length-drop}
use Rattle.std.proofs.lemmas.Bool.{ne_eqb, eqb-false, lt-ltb}
use Rattle.fx_request.specs.declared.notice.Notice.{Notice}
use Rattle.fx_request.specs.declared.refusal.Refusal.{Refusal}
use Rattle.fx_request.specs.declared.refusal.Refusal.TheVariants.{BadChars, BadHex, InputTooLarge, OutOfMemory, ReadFailed}
use Rattle.fx_fixed.specs.Changes.{Change}
use Rattle.fx_arguments.specs.Limits.{max_line}
use Rattle.fx_arguments.specs.declared.done.Done.{Done}
use Rattle.fx_arguments.specs.declared.fault.Fault.{Fault}
use Rattle.fx_arguments.specs.declared.fault.Fault.TheVariants.{Usage, Early, Late}
use Rattle.fx_arguments.specs.Arguments.{texts}
use Rattle.fx_arguments.specs.CommandLine.{command_of}
use Rattle.fx_arguments.specs.Commands.{CommandView, Refuses}
use Rattle.fx_arguments.specs.ReadAhead.{ahead_of, nothing_ahead}
use Rattle.fx_arguments.specs.Input.{line_of, rest_of, arguments_of_line}
use Rattle.fx_cli.specs.Runs.{AreArguments, Ends, HasLine, IsReadForArguments, IsReason, IsSpared}
use Rattle.fx_cli.specs.Runs.{Completes, Stops, font_bytes, has_arguments, called, text_of}
use Rattle.clap.specs.Walk.{Text}
use Rattle.fx_cli.specs.Seen.{unseen}
use Rattle.fx_cli.specs.Steps.{EndsAfter, EndsFrom, IsReasonAfter, CompletesAfter, RefusesGiven, StopsAfter}
use Rattle.fx_cli.specs.declared.watch.Watch.{Watch}

abbrev is_end : ℕ → Bool
is_end b = b == 10

-- the line is found, or nothing follows what was read with it
same_place : (first more : List ℕ) → position_or_len is_end first < length first
    → position_or_len is_end (first ++ more) ≡ position_or_len is_end first
same_place first more h =
    prefix_len-append (λ b. not (is_end b)) first more
    ∙ ap (λ (t : Bool). cond t (length first + prefix_len (λ b. not (is_end b)) more) (position_or_len is_end first))
    (ne_eqb (position_or_len is_end first) (length first) (omega arith))

same_line : (first more : List ℕ) → (position_or_len is_end first < length first) ⊎ (more ≡ [])
    → line_of (first ++ more) ≡ line_of first
same_line first more (inl h) = ap (λ (k : ℕ). take k (first ++ more)) (same_place first more h) ∙
    take-append-le (position_or_len is_end first) first more (omega arith)
same_line first more (inr e) = ap line_of (ap (λ (xs : List ℕ). first ++ xs) e ∙ append-nil first)

same_rest : (first more : List ℕ) → (position_or_len is_end first < length first) ⊎ (more ≡ [])
    → rest_of (first ++ more) ≡ rest_of first ++ more
same_rest first more (inl h) = ap (λ (k : ℕ). drop (k + 1) (first ++ more)) (same_place first more h) ∙
    drop-append-le (position_or_len is_end first + 1) first more (omega arith)
same_rest first more (inr e) =
    ap rest_of (ap (λ (xs : List ℕ). first ++ xs) e ∙ append-nil first)
    ∙ sym (append-nil (rest_of first))
    ∙ ap (λ (xs : List ℕ). rest_of first ++ xs) (sym e)

size_at_most : (first : List ℕ) → position_or_len is_end first ≤ length first
size_at_most first = prefix_len-le-length (λ b. not (is_end b)) first

-- the line of what was read ends where it was found
pub length-line_of : (first : List ℕ) → length (line_of first) ≡ position_or_len is_end first
length-line_of first = length-take-le (position_or_len is_end first) first (size_at_most first)

found_before_end : (first : List ℕ) → (ahead_of first).ended ≡ false → position_or_len is_end first < length first
found_before_end first e =
    let apart = eqb-false (position_or_len is_end first) (length first) e in
    omega (arith, size_at_most first, apart)

ahead_size : (first : List ℕ) → (ahead_of first).line + length (ahead_of first).text ≡ length first
ahead_size first = omega (arith, length-drop (position_or_len is_end first + 1) first)

-- what is known when the first line was read and its arguments ask for something
pub record IsFirst (given : List Text) (first : List ℕ) (before mid : Option (List ℕ)) (arguments : List Text) : Type 0 where
  pub none : has_arguments given ≡ false
  pub read : Consumes before mid first
  pub few : length first ≤ max_line + 1
  pub utf8 : IsUtf8 (line_of first)
  pub short : length (line_of first) ≤ max_line
  pub arguments_are : arguments ≡ called given ∷ arguments_of_line (line_of first)

either : {P Q : Type 0} (ended : Bool) → (ended ≡ false → P) → (ended ≡ true → Q) → P ⊎ Q
either true p q = inr (q refl)
either false p q = inl (p refl)

has_line : (first more : List ℕ) (left : Option (List ℕ)) → ((ahead_of first).ended ≡ true → (more ≡ []) × IsAtEnd left)
    → HasLine (first ++ more) left
has_line first more left rest = either (ahead_of first).ended
    (λ e.
    let line = ap length (same_line first more (inl (found_before_end first e))) in
    let found = found_before_end first e in omega (arith, line, found, length-line_of first, length-append first more))
    (λ e. (rest e).1)

are_arguments : {given : List Text} {first : List ℕ} {before mid : Option (List ℕ)} {arguments : List Text}
    (more : List ℕ) (left : Option (List ℕ)) → IsFirst given first before mid arguments
    → ((ahead_of first).ended ≡ true → (more ≡ []) × IsAtEnd left) → AreArguments given (first ++ more) left arguments
are_arguments {first = first} more left f rest =
    let line = same_line first more (either (ahead_of first).ended (found_before_end first) (λ e. (rest e).0)) in
    rw f.none (has_line first more left rest, rw line f.utf8, rw line f.short, rw line f.arguments_are)

text_is : {given : List Text} {first : List ℕ} {before mid : Option (List ℕ)} {arguments : List Text}
    (more : List ℕ) → IsFirst given first before mid arguments → ((ahead_of first).ended ≡ true → more ≡ [])
    → text_of given (first ++ more) ≡ rest_of first ++ more
text_is {first = first} more f rest =
    rw f.none (same_rest first more (either (ahead_of first).ended (found_before_end first) rest))

-- no more than a line was read for the arguments
pub for_line : (given : List Text) (got : List ℕ) (source : Change) → has_arguments given ≡ false → length got ≤ max_line + 1
    → source.faults ≡ source.faults_before → IsReadForArguments (has_arguments given) got source
for_line given got source none few same = rw none (few, same)

-- the same change of the source, from before the line was read
abbrev pub from_start : Option (List ℕ) → ℕ → Change → Change
from_start before faults_before source = record source { bytes_before = before; faults_before = faults_before }

does : {given : List Text} {first : List ℕ} {before : Option (List ℕ)} {arguments : List Text}
    (faults_before : ℕ) (command : CommandView) (source sink : Change) (told : List Notice) (watch : Watch)
    (answer : Result Done Refusal)
    → faults_before ≡ source.faults_before
    → IsFirst given first before source.bytes_before arguments → command_of arguments ≡ Ok command
    → CompletesAfter command (ahead_of first) source sink told watch answer
    → Completes given (from_start before faults_before source) sink told watch answer
does {given} {first} {before} {arguments} faults_before command source sink told watch answer same f asks m = record {
  input = first ++ m.more;
  read = Consumes-trans before source.bytes_before source.bytes first m.more f.read m.read;
  whole = m.whole;
  quiet = m.quiet ∙ sym same;
  fits = omega (arith, m.fits, ahead_size first, length-append first m.more, length-append (rest_of first) m.more);
  arguments = arguments;
  are = are_arguments m.more source.bytes f (λ e. (m.rest e, m.whole));
  command = command;
  asks = asks;
  font = m.font;
  decoded = ap (font_bytes command.hex) (text_is m.more f m.rest) ∙ m.decoded;
  leaves = m.leaves;
  seen = m.seen;
}

reasons : {given : List Text} {first : List ℕ} {before : Option (List ℕ)} {arguments : List Text}
    (faults_before : ℕ) (command : CommandView) (source : Change) (more : List ℕ) → faults_before ≡ source.faults_before
    → IsFirst given first before source.bytes_before arguments → command_of arguments ≡ Ok command
    → ((ahead_of first).ended ≡ true → (more ≡ []) × IsAtEnd source.bytes) → (refusal : Refusal)
    → IsReasonAfter command (ahead_of first) more source refusal
    → IsReason given (first ++ more) (from_start before faults_before source) (Early refusal)
reasons faults_before command source more same f asks rest ReadFailed h = h ∙ ap (λ (n : ℕ). n + 1) (sym same)
reasons {arguments = arguments} faults_before command source more same f asks rest BadHex h = (
  h.0,
  (
    arguments,
    are_arguments more source.bytes f rest,
    (command, asks, ap (font_bytes command.hex) (text_is more f (λ e. (rest e).0)) ∙ h.1),
  ),
)
reasons {first = first} faults_before command source more same f asks rest InputTooLarge h =
    omega (arith, h, ahead_size first, length-append first more, length-append (rest_of first) more)
reasons faults_before command source more same f asks rest OutOfMemory h = tt
reasons faults_before command source more same f asks rest _ h = absurd h

stops : {given : List Text} {first : List ℕ} {before : Option (List ℕ)} {arguments : List Text}
    (faults_before : ℕ) (command : CommandView) (source sink : Change) (told : List Notice) (watch : Watch) (refusal : Refusal)
    → faults_before ≡ source.faults_before
    → IsFirst given first before source.bytes_before arguments → command_of arguments ≡ Ok command
    → StopsAfter command (ahead_of first) source sink told watch refusal
    → Stops given (from_start before faults_before source) sink told watch (Early refusal)
stops {given} {first} {before} {arguments} faults_before command source sink told watch refusal same f asks s = record {
  got = first ++ s.more;
  read = Consumes-trans before source.bytes_before source.bytes first s.more f.read s.read;
  spared = s.spared;
  silent = s.silent;
  unseen = s.unseen;
  reason = reasons faults_before command source s.more same f asks s.rest refusal s.reason;
}

-- the run after the line ends the run
line_ends : {given : List Text} {first : List ℕ} {before : Option (List ℕ)} {arguments : List Text}
    (faults_before : ℕ) (command : CommandView) (source sink : Change) (told : List Notice) (watch : Watch)
    → faults_before ≡ source.faults_before
    → IsFirst given first before source.bytes_before arguments → command_of arguments ≡ Ok command
    → (outcome : Result Done Fault) → EndsAfter command (ahead_of first) source sink told watch outcome
    → Ends given (from_start before faults_before source) sink told watch outcome
line_ends faults_before command source sink told watch same f asks (Ok done) m =
    does faults_before command source sink told watch (Ok done) same f asks m
line_ends faults_before command source sink told watch same f asks (Err (Late refusal)) m =
    does faults_before command source sink told watch (Err refusal) same f asks m
line_ends faults_before command source sink told watch same f asks (Err (Early refusal)) s =
    stops faults_before command source sink told watch refusal same f asks s
line_ends faults_before command source sink told watch same f asks (Err Usage) s = absurd s

pub few_arguments : (arguments : List (Bor Text)) → length arguments ≤ 1 → has_arguments (texts arguments) ≡ false
few_arguments [] h = refl
few_arguments (argument ∷ []) h = refl
few_arguments (argument ∷ more ∷ arguments) h = absurd (omega arith)

-- the first line was read if its end was found, or the input ended
pub line_read : (buffer : List ℕ) (filled end : ℕ) (left : Option (List ℕ)) → filled ≤ length buffer
    → end ≡ position_or_len is_end (take filled buffer) → (end < filled) ⊎ IsAtEnd left → HasLine (take filled buffer) left
line_read buffer filled end left h found (inl e) =
    inl (omega (arith, e, found, length-take-le filled buffer h, length-line_of (take filled buffer)))
line_read buffer filled end left h found (inr e) = inr e

-- the arguments of a line are refused
unread : (given : List Text) (source sink : Change) (told : List Notice) (watch : Watch) (got : List ℕ)
    → has_arguments given ≡ false
    → length got ≤ max_line + 1 → source.faults ≡ source.faults_before → Consumes source.bytes_before source.bytes got
    → IsSpared sink → told ≡ [] → watch.font ≡ unseen → HasLine got source.bytes → IsUtf8 (line_of got)
    → length (line_of got) ≤ max_line
    → (fault : Fault) → Refuses fault (command_of (called given ∷ arguments_of_line (line_of got)))
    → Ends given source sink told watch (Err fault)
unread given source sink told watch got none few quiet read spared silent blank line utf8 short (Early OutOfMemory) h =
    record { got = got; read = read; spared = spared; silent = silent; unseen = blank; reason = tt }
unread given source sink told watch got none few quiet read spared silent blank line utf8 short (Early BadChars) h =
    let arguments = called given ∷ arguments_of_line (line_of got) in
    record {
      got = got;
      read = read;
      spared = spared;
      silent = silent;
      unseen = blank;
      reason = ((arguments, rw none (line, utf8, short, refl), h), for_line given got source none few quiet);
    }
unread given source sink told watch got none few quiet read spared silent blank line utf8 short Usage h = record {
  got = got;
  read = read;
  spared = spared;
  silent = silent;
  unseen = blank;
  reason = (rw none (inr (line, inr h)), for_line given got source none few quiet);
}
unread given source sink told watch got none few quiet read spared silent blank line utf8 short _ h = absurd h

-- the arguments of the line end the run
pub first_ends : {given : List Text} {first : List ℕ} {before : Option (List ℕ)} {arguments : List Text}
    (faults_before : ℕ) (source sink : Change) (told : List Notice) (watch : Watch) → faults_before ≡ source.faults_before
    → IsFirst given first before source.bytes_before arguments → HasLine first source.bytes_before
    → (outcome : Result Done Fault) → EndsFrom arguments (ahead_of first) source sink told watch outcome
    → Ends given (from_start before faults_before source) sink told watch outcome
first_ends {given} {first} {before} faults_before source sink told watch same f line outcome (inl (fault, e, r)) =
    rw e (unread given (from_start before faults_before source) sink told watch first f.none f.few (r.unread.1 ∙ sym same)
    (rw r.unread.0 f.read) (rw r.untouched.0 (Keeps-refl sink.bytes_before), r.untouched.1) r.silent r.unseen (rw r.unread.0 line)
    f.utf8 f.short fault (rw f.arguments_are at r.why))
first_ends faults_before source sink told watch same f line outcome (inr (command, asks, ends)) =
    line_ends faults_before command source sink told watch same f asks outcome ends

-- ---- arguments that were given

pub many_arguments : (arguments : List (Bor Text)) → 1 < length arguments → has_arguments (texts arguments) ≡ true
many_arguments [] h = absurd (omega arith)
many_arguments (argument ∷ []) h = absurd (omega arith)
many_arguments (argument ∷ more ∷ arguments) h = lt-ltb 1 _ (omega arith)

-- they are refused
unasked : (given : List Text) (source sink : Change) (told : List Notice) (watch : Watch) (fault : Fault)
    → has_arguments given ≡ true → RefusesGiven given source sink told watch fault → Ends given source sink told watch (Err fault)
unasked given source sink told watch fault some r =
    by (rw r.unread.0 (Consumes-nil source.bytes_before)) (rw r.untouched.0 (Keeps-refl sink.bytes_before), r.untouched.1) fault
    r.why
  where
    by : Consumes source.bytes_before source.bytes [] → IsSpared sink → (fault : Fault) → Refuses fault (command_of given)
        → Ends given source sink told watch (Err fault)
    by read spared (Early OutOfMemory) h =
        record { got = []; read = read; spared = spared; silent = r.silent; unseen = r.unseen; reason = tt }
    by read spared (Early BadChars) h = record {
      got = [];
      read = read;
      spared = spared;
      silent = r.silent;
      unseen = r.unseen;
      reason = ((given, rw some refl, h), rw some r.unread);
    }
    by read spared Usage h = record {
      got = [];
      read = read;
      spared = spared;
      silent = r.silent;
      unseen = r.unseen;
      reason = (rw some h, rw some r.unread);
    }
    by read spared _ h = absurd h

-- what was asked for ends the run
given_does : (given : List Text) (command : CommandView) (source sink : Change) (told : List Notice) (watch : Watch)
    (answer : Result Done Refusal) → has_arguments given ≡ true → command_of given ≡ Ok command
    → CompletesAfter command nothing_ahead source sink told watch answer → Completes given source sink told watch answer
given_does given command source sink told watch answer some asks m = record {
  input = m.more;
  read = m.read;
  whole = m.whole;
  quiet = m.quiet;
  fits = omega (arith, m.fits);
  arguments = given;
  are = rw some refl;
  command = command;
  asks = asks;
  font = m.font;
  decoded = rw some m.decoded;
  leaves = m.leaves;
  seen = m.seen;
}

given_reasons : (given : List Text) (command : CommandView) (source : Change) (more : List ℕ) → has_arguments given ≡ true
    → command_of given ≡ Ok command → (refusal : Refusal) → IsReasonAfter command nothing_ahead more source refusal
    → IsReason given more source (Early refusal)
given_reasons given command source more some asks ReadFailed h = h
given_reasons given command source more some asks BadHex h = (h.0, (given, rw some refl, (command, asks, rw some h.1)))
given_reasons given command source more some asks InputTooLarge h = omega (arith, h)
given_reasons given command source more some asks OutOfMemory h = tt
given_reasons given command source more some asks _ h = absurd h

given_ends : (given : List Text) (command : CommandView) (source sink : Change) (told : List Notice) (watch : Watch)
    → has_arguments given ≡ true → command_of given ≡ Ok command
    → (outcome : Result Done Fault) → EndsAfter command nothing_ahead source sink told watch outcome
    → Ends given source sink told watch outcome
given_ends given command source sink told watch some asks (Ok done) m =
    given_does given command source sink told watch (Ok done) some asks m
given_ends given command source sink told watch some asks (Err (Late refusal)) m =
    given_does given command source sink told watch (Err refusal) some asks m
given_ends given command source sink told watch some asks (Err (Early refusal)) s = record {
  got = s.more;
  read = s.read;
  spared = s.spared;
  silent = s.silent;
  unseen = s.unseen;
  reason = given_reasons given command source s.more some asks refusal s.reason;
}
given_ends given command source sink told watch some asks (Err Usage) s = absurd s

-- arguments that were given end the run
pub all_ends : (given : List Text) (source sink : Change) (told : List Notice) (watch : Watch) → has_arguments given ≡ true
    → (outcome : Result Done Fault) → EndsFrom given nothing_ahead source sink told watch outcome
    → Ends given source sink told watch outcome
all_ends given source sink told watch some outcome (inl (fault, e, r)) = rw e (unasked given source sink told watch fault some r)
all_ends given source sink told watch some outcome (inr (command, asks, ends)) =
    given_ends given command source sink told watch some asks outcome ends
