-- Bytes that were added to a text, one part after another, are added as one: `sent`, `pushed`.
-- Serves `TextWriter`, and all that write through one.
use Rattle.std.proofs.Common.{◌≡◌, ℕ, ◌+◌, ◌<◌, ◌≤◌, List, [], ◌++◌, length, take, Option, Result, Ok, Err}
use Rattle.std.proofs.Common.{sym, refl, ap, ◌∙◌, subst, append_assoc, append-nil, length-append, arith, IfErr}
use Rattle.std.specs.Borrow.{GName}
use Rattle.std.specs.Io.KnownBytes.{Appends}
use Rattle.std.proofs.KnownBytes.{Appends-trans, Appends-nil}
use Rattle.std.proofs.Math.Seq.{take-append-add}
use Rattle.std.proofs.lemmas.List.{take-append-le, length-take-le}
use Rattle.fx_fixed.specs.declared.sink.WriteFailed.{WriteFailed}
use Rattle.fx_fixed.specs.Wrote.{Wrote}
use Rattle.fx_fixed.specs.Texts.{TextView, Adds, AddsBy, Fails, after, with_more, length_of}

appends_text : (old new : Option (List ℕ)) (a b : List ℕ) → a ≡ b → Appends old new a → Appends old new b
appends_text old new a b e h = let P : List ℕ → Type 0 = λ t. Appends old new t in subst P e h

-- what waited and both parts
joined : (was now : TextView) (a b sent : List ℕ) → was.waiting ++ a ≡ sent ++ now.waiting
    → was.waiting ++ (a ++ b) ≡ sent ++ (now.waiting ++ b)
joined was now a b sent e =
    sym (append_assoc was.waiting a b) ∙ ap (λ (t : List ℕ). t ++ b) e ∙ append_assoc sent now.waiting b

-- ---- sent at once

-- all that waited was put, and a piece after it
pub sent : {old new : Option (List ℕ)} {faults_before faults taken count : ℕ} {waiting rest piece bytes : List ℕ} {sink : GName}
    {was : TextView}
    → record { sink = sink; held = old; faults = faults_before; taken = taken; waiting = waiting } ≡ was
    → Wrote (record { bytes_before = old; bytes = new; faults_before = faults_before; faults = faults }) piece (Ok tt)
    → piece ≡ was.waiting ++ bytes → rest ≡ [] → count ≡ after taken (length piece)
    → Adds Fails was (record { sink = sink; held = new; faults = faults; taken = count; waiting = rest }) bytes (Ok tt)
sent {old} {new} {faults_before} {faults} {taken} {count} {waiting} {rest} {piece} {bytes} {sink} {was} e h whole none c =
    let now : TextView = record { sink = sink; held = new; faults = faults; taken = count; waiting = rest } in
    let P : TextView → Type 0 = λ v. (v.waiting ++ bytes ≡ piece) → Adds Fails v now bytes (Ok tt) in
    let here : P (record { sink = sink; held = old; faults = faults_before; taken = taken; waiting = waiting }) = λ w. record {
      same = refl;
      outcome = (
        piece,
        w ∙ sym (append-nil piece) ∙ ap (λ (t : List ℕ). piece ++ t) (sym none),
        c,
        h.outcome.0,
        h.outcome.1,
      );
    } in
    subst P e here (sym whole)

-- ---- one part after another

then_by : {E : Type 0} (Stops : E → ℕ → ℕ → ℕ → Type 0) (was now next : TextView) (a b : List ℕ) (r : Result (Unit {0}) E)
    → AddsBy Stops was now a (Ok tt) → AddsBy Stops now next b r → AddsBy Stops was next (a ++ b) r
then_by Stops was now next a b (Ok u) h g =
    let both : length (h.0 ++ g.0) ≡ length h.0 + length g.0 = length-append h.0 g.0 in (
      h.0 ++ g.0,
      joined was now a b h.0 h.1 ∙ ap (λ (t : List ℕ). h.0 ++ t) g.1 ∙ sym (append_assoc h.0 g.0 next.waiting),
      omega (arith, h.2, g.2, both),
      Appends-trans was.held now.held next.held h.0 g.0 h.3 g.3,
      g.4 ∙ h.4,
    )
then_by {E} Stops was now next a b (Err e) h g =
    let all = joined was now a b h.0 h.1 in
    let low : length h.0 + g.0 < length (was.waiting ++ (a ++ b)) =
    omega (arith, ap length all, length-append h.0 (now.waiting ++ b), g.1) in
    let count : after now.taken g.0 ≡ after was.taken (length h.0 + g.0) = omega (arith, h.2) in
    let P : ℕ → Type 0 = λ n. Stops e n now.faults next.faults in
    let Q : ℕ → Type 0 = λ n. Stops e (after was.taken (length h.0 + g.0)) n next.faults in (
      length h.0 + g.0,
      low,
      appends_text was.held next.held (h.0 ++ take g.0 (now.waiting ++ b)) (take (length h.0 + g.0) (was.waiting ++ (a ++ b)))
          (sym (take-append-add h.0 (now.waiting ++ b) g.0) ∙ ap (take (length h.0 + g.0)) (sym all))
          (Appends-trans was.held now.held next.held h.0 (take g.0 (now.waiting ++ b)) h.3 g.2),
      subst Q h.4 (subst P count g.3),
    )

-- the first bytes of a piece that was written over those of a buffer wait after the others
pub pushed : (piece rest buffer new : List ℕ) {held : Option (List ℕ)} {faults taken used count : ℕ} {sink : GName} {was : TextView}
    → record { sink = sink; held = held; faults = faults; taken = taken; waiting = take used buffer } ≡ was
    → used ≤ length buffer → count ≤ length piece → new ≡ take used buffer ++ (piece ++ rest)
    → record { sink = sink; held = held; faults = faults; taken = taken; waiting = take (used + count) new }
    ≡ with_more was (take count piece)
pushed piece rest buffer new {held} {faults} {taken} {used} {count} {sink} {was} e inside few n =
    let start : used ≡ length (take used buffer) = sym (length-take-le used buffer inside) in
    let text : take (used + count) new ≡ take used buffer ++ take count piece =
    (λ i. take (start i + count) (n i))
    ∙ take-append-add (take used buffer) (piece ++ rest) count
    ∙ ap (λ (t : List ℕ). take used buffer ++ t) (take-append-le count piece rest few) in
    ap (λ (t : List ℕ). record { sink = sink; held = held; faults = faults; taken = taken; waiting = t }) text
    ∙ ap (λ (v : TextView). with_more v (take count piece)) e

module _ {E : Type 0} {Stops : E → ℕ → ℕ → ℕ → Type 0} where
  -- ---- nothing, or what waits

  -- bytes wait after the others
  pub adds_more : {was now : TextView} {bytes : List ℕ} → now ≡ with_more was bytes → Adds Stops was now bytes (Ok tt)
  adds_more {was} {now} {bytes} e =
      let here : Adds Stops was (with_more was bytes) bytes (Ok tt) = record {
        same = refl;
        outcome = ([], refl, omega arith, Appends-nil was.held, refl);
      } in
      let P : TextView → Type 0 = λ v. Adds Stops was v bytes (Ok tt) in subst P (sym e) here

  -- nothing was added
  pub adds_nothing : {was : TextView} → Adds Stops was was [] (Ok tt)
  adds_nothing {was} =
      record { same = refl; outcome = ([], append-nil was.waiting, omega arith, Appends-nil was.held, refl) }

  pub adds_text : {was now : TextView} {a b : List ℕ} {r : Result (Unit {0}) E} → a ≡ b → Adds Stops was now a r
      → Adds Stops was now b r
  adds_text {was} {now} {a} {b} {r} e h = let P : List ℕ → Type 0 = λ t. Adds Stops was now t r in subst P e h

  -- a first part stopped, so all of it did
  pub adds_stopped : {was now : TextView} {a : List ℕ} (b : List ℕ) {e : E} → Adds Stops was now a (Err e)
      → Adds Stops was now (a ++ b) (Err e)
  adds_stopped {was} {now} {a} b {e} h =
      let o = h.outcome in
      let longer : (was.waiting ++ a) ++ b ≡ was.waiting ++ (a ++ b) = append_assoc was.waiting a b in
      let low : o.0 < length (was.waiting ++ (a ++ b)) =
      omega (arith, ap length longer, length-append (was.waiting ++ a) b, o.1) in
      record {
        same = h.same;
        outcome = (
          o.0,
          low,
          appends_text was.held now.held (take o.0 (was.waiting ++ a)) (take o.0 (was.waiting ++ (a ++ b)))
              (sym (take-append-le o.0 (was.waiting ++ a) b (omega (arith, o.1))) ∙ ap (take o.0) longer) o.2,
          o.3,
        );
      }

  -- a first part was added, and then a second was or stopped
  pub adds_then : {was now next : TextView} {a b : List ℕ} {r : Result (Unit {0}) E} → Adds Stops was now a (Ok tt)
      → Adds Stops now next b r → Adds Stops was next (a ++ b) r
  adds_then {was} {now} {next} {a} {b} {r} h g =
      record { same = g.same ∙ h.same; outcome = then_by Stops was now next a b r h.outcome g.outcome }

  -- a text was added, and then ended
  pub adds_ended : {was now next : TextView} {text : List ℕ} {r : Result (Unit {0}) E} → Adds Stops was now text (Ok tt)
      → Adds Stops now next [] r → Adds Stops was next text r
  adds_ended {text = text} h g = adds_text (append-nil text) (adds_then h g)

  -- one piece was added
  pub adds_piece : {was now : TextView} {bytes text : List ℕ} {r : Result (Unit {0}) E} → bytes ≡ text
      → Adds Stops was now (bytes ++ []) r → Adds Stops was now text r
  adds_piece {bytes = bytes} e h = adds_text (append-nil bytes ∙ e) h

  -- at the exit of a `?`
  pub adds_out : {was now : TextView} {bytes : List ℕ} {d e : E} {r : Result (Unit {0}) E} → Adds Stops was now bytes (Err d)
      → r ≡ Err e → e ≡ d → Adds Stops was now bytes r
  adds_out {was} {now} {bytes} {d} {e} {r} h p q =
      let P : Result (Unit {0}) E → Type 0 = λ s. Adds Stops was now bytes s in subst P (sym (p ∙ ap Err q)) h

  -- no fault so far
  pub adds_quiet : {was now : TextView} {bytes : List ℕ} → Adds Stops was now bytes (Ok tt) → now.faults ≡ was.faults
  adds_quiet h = h.outcome.4

  -- no more bytes of the text than these
  pub adds_count : {was now : TextView} {bytes : List ℕ} → Adds Stops was now bytes (Ok tt)
      → length_of now ≤ length_of was + length bytes
  adds_count {was} {now} {bytes} h =
      let o = h.outcome in
      omega (arith, ap length o.1, length-append o.0 now.waiting, length-append was.waiting bytes, o.2)

-- ---- a whole text

-- the number of a fault lies within the text
short_by : (was now : TextView) (bytes : List ℕ) (r : Result (Unit {0}) WriteFailed) (m : ℕ) → Adds Fails was now bytes r
    → length_of was + length bytes ≤ m → IfErr r (λ e. e.0 ≤ m)
short_by was now bytes (Ok u) m h low = tt
short_by was now bytes (Err e) m h low =
    let o = h.outcome in omega (arith, o.1, o.3.0, length-append was.waiting bytes, low)

pub adds_short : {was now : TextView} {bytes : List ℕ} {r : Result (Unit {0}) WriteFailed} (m : ℕ) → Adds Fails was now bytes r
    → length_of was + length bytes ≤ m → IfErr r (λ e. e.0 ≤ m)
adds_short {was} {now} {bytes} {r} m h low = short_by was now bytes r m h low
