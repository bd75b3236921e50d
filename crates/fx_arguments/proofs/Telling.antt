-- Texts that a teller is told in turn are told as one: `tells_then`, `tells_notices`.
-- Serves `add_refusal`, `add_code`, `tell`, `tell_done`, and a run of the program.
use Rattle.std.proofs.Common.{◌≡◌, ◌∙◌, refl, sym, ap, subst, inl, inr, ◌⊎◌, ◌≤◌, ℕ, ◌+◌, Bool, true, false, List, [], ◌∷◌, ◌++◌}
use Rattle.std.proofs.Common.{Option, length, take, arith, append_assoc, append-nil, length-append, Ok, Err}
use Rattle.std.specs.Prelude.{codes}
use Rattle.std.specs.List.{flat_map}
use Rattle.std.specs.Borrow.{GName}
use Rattle.std.proofs.KnownBytes.{Appends-nil, Appends-trans}
use Rattle.std.proofs.Math.Seq.{take-append-add}
use Rattle.std.proofs.lemmas.List.{take-append-le}
use Rattle.fx_machine.specs.Causes.{name_of as cause_name}
use Rattle.fx_machine.specs.declared.halt.Cause.{Cause}
use Rattle.fx_machine.specs.declared.halt.Cause.TheVariants as cause
use Rattle.fx_request.specs.Notices.{HearsAll}
use Rattle.fx_request.specs.Refusals.{name_of}
use Rattle.fx_request.specs.declared.notice.Notice.{Notice}
use Rattle.fx_request.specs.declared.refusal.Refusal.{Refusal}
use Rattle.fx_request.specs.declared.refusal.Refusal.TheVariants as refusal
use Rattle.fx_arguments.specs.Lines as lines
use Rattle.fx_arguments.specs.Lines.{notice_line, spaced}
use Rattle.fx_arguments.specs.Tellers.{TellerView, Tells, TellsAll, TellsSome, TellsBy, HearsLine, begun}

cause_short : (c : Cause) → length (cause_name c) ≤ 20
cause_short cause.StackUnder = omega arith
cause_short _ = omega arith

-- a refusal's name has at most 20 bytes
pub name_short : (r : Refusal) → length (name_of r) ≤ 20
name_short (refusal.Halted halt) = cause_short halt.cause
name_short _ = omega arith

-- ---- a teller

-- it was told nothing
pub tells_nothing : (teller : TellerView) → Tells teller teller []
tells_nothing teller = record { outcome = by_failed teller.failed refl }
  where
    by_failed : (b : Bool) → teller.failed ≡ b → TellsBy b teller teller []
    by_failed true e = refl
    by_failed false e = (refl, inl (record { written = Appends-nil teller.held; quiet = refl; sound = e }))

-- two texts in turn
pub tells_then : {was now next : TellerView} (s t : List ℕ) → Tells was now s → Tells now next t → Tells was next (s ++ t)
tells_then {was} {now} {next} s t h g = record { outcome = by_failed was.failed refl h.outcome }
  where
    after_all : TellsAll was now s → TellsBy false now next t
        → (next.sink ≡ now.sink) × (TellsAll was next (s ++ t) ⊎ TellsSome was next (s ++ t))
    after_all a (e, inl b) = (
      e,
      inl (record {
        written = Appends-trans was.held now.held next.held s t a.written b.written;
        quiet = b.quiet ∙ a.quiet;
        sound = b.sound;
      }),
    )
    after_all a (e, inr b) = (
      e,
      inr (record {
        count = length s + b.count;
        short = omega (arith, b.short, length-append s t);
        written = rw (take-append-add s t b.count)
            (Appends-trans was.held now.held next.held s (take b.count t) a.written b.written);
        fault = b.fault ∙ ap (λ (n : ℕ). n + 1) a.quiet;
        failed = b.failed;
      }),
    )

    after_some : TellsSome was now s → next ≡ now → TellsSome was next (s ++ t)
    after_some a e = let P : TellerView → Type 0 = λ x. TellsSome was x (s ++ t) in subst P (sym e) (record {
      count = a.count;
      short = omega (arith, a.short, length-append s t);
      written = rw (take-append-le a.count s t (omega (arith, a.short))) a.written;
      fault = a.fault;
      failed = a.failed;
    })

    then_by : (next.sink ≡ now.sink) × (TellsAll was next (s ++ t) ⊎ TellsSome was next (s ++ t)) → now.sink ≡ was.sink
        → TellsBy false was next (s ++ t)
    then_by (e, x) same = (e ∙ same, x)

    next_by : (b : Bool) → now.failed ≡ b → TellsBy b now next t
    next_by b e = let P : Bool → Type 0 = λ x. TellsBy x now next t in subst P e g.outcome

    by_failed : (b : Bool) → was.failed ≡ b → TellsBy b was now s → TellsBy b was next (s ++ t)
    by_failed true e h = next_by true (ap (λ (x : TellerView). x.failed) h ∙ e) ∙ h
    by_failed false e (same, inl a) = then_by (after_all a (next_by false a.sound)) same
    by_failed false e (same, inr a) =
        let still = next_by true a.failed in (ap (λ (x : TellerView). x.sink) still ∙ same, inr (after_some a still))

-- the lines of notices
pub tells_notices : {was now : TellerView} (notices : List Notice) → HearsAll HearsLine was notices now
    → Tells was now (flat_map notice_line notices)
tells_notices {was} [] h =
    let P : TellerView → Type 0 = λ x. Tells was x [] in subst P (sym h) (tells_nothing was)
tells_notices {was = was} {now = now} (n ∷ ns) h =
    tells_then (notice_line n) (flat_map notice_line ns) h.1 (tells_notices {was = h.0} {now = now} ns h.2)

-- what it was told from its start on
pub tells_change : {sink : GName} {held : Option (List ℕ)} {faults : ℕ} {now : TellerView} {text : List ℕ}
    → Tells (begun sink held faults) now text
    → lines.Tells text (record { bytes_before = held; bytes = now.held; faults_before = faults; faults = now.faults })
tells_change {text = text} h = elim h.outcome.1 [
  | inl a ↦ (Ok tt, record { outcome = (a.written, a.quiet) })
  | inr a ↦ (Err (record { 0 = a.count }), record { outcome = (a.short, a.written, a.fault) })
]

-- ---- a code point

-- the pieces of a word after the pieces of a line
pub in_pieces : (old digits : List ℕ) → ((old ++ spaced (codes "U+" ∷ [])) ++ digits) ++ codes ":"
    ≡ old ++ spaced ((codes "U+" ++ (digits ++ codes ":")) ∷ [])
in_pieces old digits =
    append_assoc (old ++ spaced (codes "U+" ∷ [])) digits (codes ":")
    ∙ append_assoc old (spaced (codes "U+" ∷ [])) (digits ++ codes ":")
    ∙ ap (λ (t : List ℕ). old ++ (32 ∷ 85 ∷ 43 ∷ t)) (sym (append-nil (digits ++ codes ":")))
