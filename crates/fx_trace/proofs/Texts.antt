-- What is added to the text of a trace, one after another, is added as one: `says_then`.
-- It serves all that adds to it.
use Rattle.std.proofs.Common.{◌≡◌, List, ℕ, ◌+◌, ◌<◌, ◌≤◌, [], ◌++◌, length, take, get_or, Result, Ok, Err}
use Rattle.std.proofs.Common.{Bool, true, false, if◌then◌else◌, refl, sym, ap, subst, ◌∙◌}
use Rattle.std.specs.List.{flat_map}
use Rattle.std.proofs.lemmas.List.{take_all}
use Rattle.fx_fixed.proofs.Writing.{parts_more}
use Rattle.fx_fixed.specs.declared.sink.WriteFailed.{WriteFailed}
use Rattle.fx_fixed.specs.Texts.{TextView, Adds, Fails}
use Rattle.fx_fixed.proofs.Texts.{adds_nothing, adds_then, adds_stopped}
use Rattle.fx_trace.specs.declared.fault.Stop.{Stop}
use Rattle.fx_trace.specs.inner.Telling.{Halts, TraceTextView, Says, SaysBy, stop_of}

-- a writer's fault stops it
adds_or_stops : {was now : TextView} {bytes : List ℕ} (r : Result (Unit {0}) WriteFailed) → Adds Fails was now bytes r
    → Adds Halts was now bytes (stop_of r)
adds_or_stops (Ok u) h = record { same = h.same; outcome = h.outcome }
adds_or_stops (Err f) h = record { same = h.same; outcome = h.outcome }

pub says_nothing : {was : TraceTextView} → Says was was []
says_nothing {was} = record { by = by was.outcome refl }
  where
    by : (r : Result (Unit {0}) Stop) → was.outcome ≡ r → SaysBy r was was []
    by (Ok u) e = subst (λ q. Adds Halts was.text was.text [] q) (sym e) adds_nothing
    by (Err stop) e = refl

pub says_then : {was mid now : TraceTextView} {a b : List ℕ} → Says was mid a → Says mid now b → Says was now (a ++ b)
says_then {was} {mid} {now} {a} {b} h g = record { by = by was.outcome mid.outcome refl refl h.by g.by }
  where
    by : (r s : Result (Unit {0}) Stop) → was.outcome ≡ r → mid.outcome ≡ s → SaysBy r was mid a → SaysBy s mid now b
        → SaysBy r was now (a ++ b)
    by (Ok u) (Ok v) d e h g = adds_then (subst (λ q. Adds Halts was.text mid.text a q) e h) g
    by (Ok u) (Err stop) d e h g =
        subst (λ (t : TraceTextView). Adds Halts was.text t.text (a ++ b) t.outcome) (sym g)
        (subst (λ q. Adds Halts was.text mid.text (a ++ b) q) (sym e)
        (adds_stopped b (subst (λ q. Adds Halts was.text mid.text a q) e h)))
    by (Err stop) s d e h g =
        subst (λ (q : Result (Unit {0}) Stop). SaysBy q mid now b)
        (sym e ∙ ap (λ (t : TraceTextView). t.outcome) h ∙ d) g ∙ h

pub says_text : {was now : TraceTextView} {a b : List ℕ} → a ≡ b → Says was now a → Says was now b
says_text {was} {now} e h = subst (λ (t : List ℕ). Says was now t) e h

-- bytes were added to one that had not stopped, or its writer failed
pub said : {was now : TraceTextView} {bytes : List ℕ} (r : Result (Unit {0}) WriteFailed) → was.outcome ≡ Ok tt
    → Adds Fails was.text now.text bytes r → now.outcome ≡ stop_of r → Says was now bytes
said {was} {now} {bytes} r e h o = record {
  by = subst (λ q. SaysBy q was now bytes) (sym e)
      (subst (λ q. Adds Halts was.text now.text bytes q) (sym o) (adds_or_stops r h));
}

-- what follows does not matter once it stopped
pub says_any : {was now : TraceTextView} {a : List ℕ} (b : List ℕ) (stop : Stop) → was.outcome ≡ Err stop → Says was now a
    → Says was now b
says_any {was} {now} {a} b stop e h =
    record { by = subst (λ q. SaysBy q was now b) (sym e) (subst (λ q. SaysBy q was now a) e h.by) }

-- ---- what is said of the entries of a list, one after another

module _ {X : Type 0} (f : X → List ℕ) {was : TraceTextView} (xs : List X) (i : ℕ) where
  pub one_more : {mid now : TraceTextView} (x : X) → Says was mid (flat_map f (take i xs)) → x ≡ get_or xs i x → i < length xs
      → Says mid now (f x) → Says was now (flat_map f (take (i + 1) xs))
  one_more {mid} {now} x s e h t =
      says_text (parts_more f xs i x h) (says_then s (subst (λ (y : X). Says mid now (f y)) e t))

  pub no_more : {now : TraceTextView} → Says was now (flat_map f (take i xs)) → length xs ≤ i → Says was now (flat_map f xs)
  no_more s h = says_text (ap (λ (ys : List X). flat_map f ys) (take_all i xs h)) s

-- ---- what is said unless something holds

pub says_none : {was : TraceTextView} {b : Bool} (bytes : List ℕ) → b ≡ true → Says was was (if b then [] else bytes)
says_none {was} {b} bytes e = subst (λ (t : Bool). Says was was (if t then [] else bytes)) (sym e) says_nothing

pub says_some : {was now : TraceTextView} {b : Bool} {bytes : List ℕ} → b ≡ false → Says was now bytes
    → Says was now (if b then [] else bytes)
says_some {was} {now} {b} {bytes} e h = subst (λ (t : Bool). Says was now (if t then [] else bytes)) (sym e) h
