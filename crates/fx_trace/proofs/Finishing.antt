-- A trace whose text ended returns and leaves what is due: `traced`.
-- Serves `Programs`.
use Rattle.std.proofs.Common.{◌≡◌, ℕ, ◌<◌, ◌≤◌, List, [], ◌++◌, length, take, Option, Result, Ok, Err, OnOk}
use Rattle.std.proofs.Common.{subst, sym, ap, ◌∙◌, arith, append-nil, length-append}
use Rattle.std.specs.Borrow.{GName}
use Rattle.std.specs.Io.KnownBytes.{Appends}
use Rattle.std.proofs.lemmas.List.{take-append-le, take_all}
use Rattle.fx_fixed.specs.Changes.{Change}
use Rattle.fx_fixed.specs.Texts.{TextView, Adds, begun}
use Rattle.fx_hint.specs.declared.fault.HintFault.{HintFault}
use Rattle.fx_hint.specs.declared.fault.HintFault.TheVariants as hint
use Rattle.fx_trace.specs.declared.fault.Stop.{Stop}
use Rattle.fx_trace.specs.declared.fault.Stop.TheVariants as stop
use Rattle.fx_trace.specs.Traces.{Trace, IsTracedSome, Traces}
use Rattle.fx_trace.specs.inner.Ending.{result_of}
use Rattle.fx_trace.specs.inner.Telling.{Halts}

appends_text : (old new : Option (List ℕ)) (a b : List ℕ) → a ≡ b → Appends old new a → Appends old new b
appends_text old new a b e h = let P : List ℕ → Type 0 = λ t. Appends old new t in subst P e h

module _ (trace : Trace) (sink : GName) (held : Option (List ℕ)) (faults : ℕ) (now : TextView) (some rest : List ℕ)
    (first : some ++ rest ≡ trace.text) where
  abbrev change : Change
  change = record { bytes_before = held; bytes = now.held; faults_before = faults; faults = now.faults }

  abbrev Added : Result (Unit {0}) Stop → Type 0
  Added told = Adds Halts (begun sink held faults) now some told × OnOk told (now.waiting ≡ [])

  -- some of the text was written
  some_written : Added (Ok tt) → Appends held now.held some
  some_written a =
      let o = a.0.outcome in
      appends_text held now.held o.0 some
      (sym (append-nil o.0) ∙ ap (λ (t : List ℕ). o.0 ++ t) (sym a.1) ∙ sym o.1) o.3

  -- the first bytes of some of the text are those of the text
  first_bytes : (k : ℕ) → k ≤ length some → take k some ≡ take k trace.text
  first_bytes k low = sym (take-append-le k some rest low) ∙ ap (take k) first

  below : (k : ℕ) → k < length some → k < length trace.text
  below k low = omega (arith, low, length-append some rest, ap length first)

  memory_ended : Added (Ok tt) → IsTracedSome trace change
  memory_ended a = record {
    count = length some;
    written = appends_text held now.held some (take (length some) trace.text)
        (sym (take_all (length some) some (omega arith)) ∙ first_bytes (length some) (omega arith)) (some_written a);
    quiet = a.0.outcome.4;
  }

  -- unless memory ran out, the text is whole, and the programs ended so
  abbrev pub IsWhole : Result (Unit {0}) HintFault → Type 0
  IsWhole (Err hint.OutOfMemory) = Unit {0}
  IsWhole end = (rest ≡ []) × (trace.end ≡ end)

  all_written : rest ≡ [] → Added (Ok tt) → Appends held now.held trace.text
  all_written none a =
      appends_text held now.held some trace.text
      (sym (append-nil some) ∙ ap (λ (t : List ℕ). some ++ t) (sym none) ∙ first) (some_written a)

  pub traced : (told : Result (Unit {0}) Stop) (end : Result (Unit {0}) HintFault) → Added told → IsWhole end
      → Traces trace change (result_of told end)
  traced (Ok u) (Ok v) a w = record { end = w.1; written = all_written w.0 a; quiet = a.0.outcome.4 }
  traced (Ok u) (Err hint.OutOfMemory) a w = memory_ended a
  traced (Ok u) (Err fault) a w = record { end = w.1; written = all_written w.0 a; quiet = a.0.outcome.4 }
  traced (Err (stop.WriterFailed n)) end a w =
      let o = a.0.outcome in
      record {
        count = o.0;
        short = below o.0 o.1;
        told = o.3.0;
        written = appends_text held now.held (take o.0 some) (take o.0 trace.text) (first_bytes o.0 (omega (arith, o.1))) o.2;
        fault = o.3.1;
      }
  traced (Err stop.OutOfMemory) end a w =
      let o = a.0.outcome in
      record {
        count = o.0;
        written = appends_text held now.held (take o.0 some) (take o.0 trace.text) (first_bytes o.0 (omega (arith, o.1))) o.2;
        quiet = o.3;
      }
