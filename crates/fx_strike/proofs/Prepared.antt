-- What is due once a font opened, its programs ran and the checks passed is what is due before: `due_ok`, `gives_ok`.
-- Serves the calls that make a strike, its survey or one glyph, and those of `Striker`.
use Rattle.std.proofs.Common.{◌≡◌, refl, sym, ap, ◌∙◌, ℕ, List, Result, Ok, Err}
use Rattle.std.specs.Prelude.{IsOk, IfOk, IfErr, IsErrOf, OnOk}
use Rattle.fx_fixed.specs.Chain.{◌>>=◌, GivesUnless}
use Rattle.fx_fixed.proofs.Chain.{bind_ok}
use Rattle.fx_request.specs.declared.refusal.Refusal.TheVariants.{OutOfMemory}
use Rattle.fx_strike.specs.Strike.{Opening, Setting, opened_at, opened_of, setting_in, setting_of, plan_with, plan_in, plan_of}
use Rattle.fx_strike.specs.Strike.{FontFileView, Mode, OnRefused, Refusal, Opened, Fails, Title}
use Rattle.fx_strike.specs.inner.Drawing.{IfDue}
use Rattle.fx_strike.specs.Strike.{setting_after}
use Rattle.fx_strike.proofs.Sketching.{fails_on}

-- what passed
pub is_ok : {A : Type 0} (a : Result A Refusal) (x : A) → Ok x ≡ a → IsOk a
is_ok a x h = rw (sym h) refl

-- clause by clause
pub due_ok : {A B : Type 0} (Is : A → Type 0) (due : Result B Refusal) (r : Result A Refusal) → IfDue Is due r → IfOk r Is
due_ok Is due (Ok x) h = h
due_ok Is due (Err d) h = tt

pub due_cause : {A B : Type 0} (Is : A → Type 0) (due : Result B Refusal) (r : Result A Refusal) → IfDue Is due r
    → IfErr r (λ d. Fails d due)
due_cause Is due (Ok x) h = tt
due_cause Is due (Err d) h = h

pub gives_ok : {A B : Type 0} (view : A → B) (due : Result B Refusal) (r : Result A Refusal) → GivesUnless Fails view r due
    → IfOk r (λ x. due ≡ Ok (view x))
gives_ok view due (Ok x) h = h
gives_ok view due (Err d) h = tt

pub gives_cause : {A B : Type 0} (view : A → B) (due : Result B Refusal) (r : Result A Refusal) → GivesUnless Fails view r due
    → IfErr r (λ d. Fails d due)
gives_cause view due (Ok x) h = tt
gives_cause view due (Err d) h = h

pub opened_set : (file : FontFileView) (ppem : ℕ) (mode : Mode) (s : Setting) → setting_of file ppem mode ≡ Ok s
    → IsOk (opened_at file ppem)
unfolding setting_of
opened_set file ppem mode s h =
    let o = bind_ok (opened_at file ppem) (λ o. setting_in o mode) s h in is_ok (opened_at file ppem) o.0 (sym o.1)

-- ---- a font that was opened

pub record IsPrepared (due : Opening) (mode : Mode) (s : Setting) : Type 0 where
  pub opened : Opened
  pub is : due ≡ Ok opened
  pub setting : setting_in opened mode ≡ Ok s

-- there is a setting
pub prepared : {opening due : Opening} {mode : Mode} {s : Setting} → opening ≡ due → setting_after opening mode ≡ Ok s
    → IsPrepared due mode s
unfolding setting_after
prepared {opening} {due} {mode} {s} e h =
    let o = bind_ok opening (λ o. setting_in o mode) s h in record { opened = o.0; is = sym e ∙ o.1; setting = o.2 }

pub prepared_late : {opening due : Opening} (mode : Mode) {s : Setting} → opening ≡ due → setting_after opening mode ≡ Ok s
    → IsOk due
prepared_late mode e h = let x = prepared e h in is_ok _ x.opened (sym x.is)

-- or there is none, and nothing that is due of it
pub unprepared : {Y : Type 0} {opening due : Opening} (mode : Mode) (f : Setting → Result Y Refusal) (d : Refusal) → opening ≡ due
    → Fails d (setting_after opening mode) → Fails d (due >>= λ o. setting_in o mode >>= f)
unfolding setting_after
unprepared {Y} {opening} {due} mode f d e h =
    fails_on d (due >>= λ o. setting_in o mode) (due >>= λ o. setting_in o mode >>= f) (by due) (rw e at h)
  where
    by : (due : Opening) (e : Refusal) → (due >>= λ o. setting_in o mode) ≡ Err e → (due >>= λ o. setting_in o mode >>= f) ≡ Err e
    by (Ok o) e k = rw k
    by (Err c) e k = cc

-- what holds if it was opened holds if there is a setting
pub opened_then : (P : Type 0) (opening : Opening) (mode : Mode) {s : Setting} → setting_after opening mode ≡ Ok s → OnOk opening P
    → P
unfolding setting_after
opened_then P (Ok o) mode h p = p
opened_then P (Err d) mode h p = absurd (cc (h))

pub gives_on : (P : Type 0) (opening : Opening) (mode : Mode) (r : Result Setting Refusal)
    → GivesUnless Fails (λ s. s) r (setting_after opening mode) → OnOk opening P → OnOk r P
gives_on P opening mode (Ok s) h p = opened_then P opening mode h p
gives_on P opening mode (Err d) h p = tt

-- memory is taken late, whatever is made
pub late_on : (X Y : Type 0) (d : Refusal) {opening due : Opening} → opening ≡ due
    → (IsErrOf {T = X} (Err d) OutOfMemory → IsOk opening) → IsErrOf {T = Y} (Err d) OutOfMemory → IsOk due
late_on X Y d e h m =
    let same : d ≡ OutOfMemory = cc (m) in
    let p : ◌≡◌ {A = Result X Refusal} (Err d) (Err OutOfMemory) = ap Err same in rw e at (h p)

-- ---- a strike

module _ (file : FontFileView) (ppem : ℕ) (title : Title) (chars : List ℕ) (mode : Mode) (refused : OnRefused) where
  pub plan_unset : {opening : Opening} (d : Refusal) → opening ≡ opened_of file ppem title chars
      → Fails d (setting_after opening mode) → Fails d (plan_of file ppem title chars mode refused)
  unfolding plan_in plan_of
  plan_unset d e f = unprepared mode _ d e f

  pub plan_set : {opening : Opening} {s : Setting} → opening ≡ opened_of file ppem title chars
      → setting_after opening mode ≡ Ok s → plan_of file ppem title chars mode refused ≡ plan_with s title chars refused
  unfolding plan_in plan_of
  plan_set e h = let x = prepared e h in rw (x.is, x.setting) refl
