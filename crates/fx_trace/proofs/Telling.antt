-- The lines of events, one after another, are those of all events: `lines_joined`, `told`.
-- It serves the traces of programs.
use Rattle.std.proofs.Common.{◌≡◌, ℕ, List, [], ◌∷◌, ◌++◌, Option, Result, Ok, Err, OnOk, refl, subst, sym, ap, ◌∙◌, append_assoc}
use Rattle.fx_hint.specs.Watched.{RunEvent, WatchesAll}
use Rattle.fx_trace.specs.declared.fault.Stop.{Stop}
use Rattle.fx_trace.specs.Snapshots.{SnapshotView}
use Rattle.fx_trace.specs.declared.wanted.TracedPrograms.{TracedPrograms}
use Rattle.fx_trace.specs.Traces.{told_of, kept_after, lines_after}
use Rattle.fx_trace.specs.inner.Telling.{TraceTextView, Says, Sees}
use Rattle.fx_trace.proofs.Texts.{says_nothing, says_then, says_any}

-- what is kept after events
abbrev pub kept_after_all : TracedPrograms → Option SnapshotView → List RunEvent → Option SnapshotView
kept_after_all w t [] = t
kept_after_all w t (x ∷ xs) = kept_after_all w (kept_after w t x) xs

-- the lines of some events, and of others after them
pub lines_joined : (w : TracedPrograms) (t : Option SnapshotView) (xs ys : List RunEvent)
    → lines_after w t xs ++ lines_after w (kept_after_all w t xs) ys ≡ lines_after w t (xs ++ ys)
lines_joined w t [] ys = refl
lines_joined w t (x ∷ xs) ys =
    append_assoc (told_of w t x) (lines_after w (kept_after w t x) xs) (lines_after w (kept_after_all w t (x ∷ xs)) ys)
    ∙ ap (λ (l : List ℕ). told_of w t x ++ l) (lines_joined w (kept_after w t x) xs ys)

module _ {W : Type 0} (wanted : W → TracedPrograms) (text : W → TraceTextView) (before : W → Option SnapshotView) where
  -- what follows an event begins with what is kept then, unless the text stopped
  rest : (was mid now : W) (x : RunEvent) (xs : List RunEvent) (r : Result (Unit {0}) Stop) → (text mid).outcome ≡ r
      → Sees wanted text before was x mid → Says (text mid) (text now) (lines_after (wanted mid) (before mid) xs)
      → Says (text mid) (text now) (lines_after (wanted was) (kept_after (wanted was) (before was) x) xs)
  rest was mid now x xs (Ok u) m s h =
      let kept = kept_after (wanted was) (before was) x in
      let O : Result (Unit {0}) Stop → Type 0 = λ q. OnOk q (before mid ≡ kept) in
      let same : before mid ≡ kept = subst O m s.0.1 in
      let R : TracedPrograms → Option SnapshotView → Type 0 = λ v t. Says (text mid) (text now) (lines_after v t xs) in
      let first : R (wanted was) (before mid) = subst (λ (v : TracedPrograms). R v (before mid)) s.1 h in
      subst (λ (t : Option SnapshotView). R (wanted was) t) same first
  rest was mid now x xs (Err stop) m s h = says_any _ stop m h

  pub told : (was now : W) (xs : List RunEvent) → WatchesAll (Sees wanted text before) was xs now
      → Says (text was) (text now) (lines_after (wanted was) (before was) xs)
  told was now [] h = subst (λ (w : W). Says (text was) (text w) []) (sym h) says_nothing
  told was now (x ∷ xs) h =
      says_then h.1.0.0 (rest was h.0 now x xs (text h.0).outcome refl h.1 (told h.0 now xs h.2))
