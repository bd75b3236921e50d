-- The first named point of a list, and the run before it: `run_first`. For `unnamed_run` and `last_named`.
use Rattle.std.proofs.Common.{◌≡◌, refl, sym, ap, ◌∙◌, arith, ℕ, suc, ◌+◌, ◌-◌, ◌<◌, ◌≤◌, Bool, true, false}
use Rattle.std.proofs.Common.{List, [], ◌∷◌, ◌++◌, length, get_or, take, drop, reverse, pos, Option, Some, None}
use Rattle.std.proofs.Math.Seq.{take-suc, drop-cons}
use Rattle.std.proofs.lemmas.List.{append_assoc, reverse-append, drop_all}
use Rattle.std.proofs.lemmas.Int.{ints, by_lt_z}
use Rattle.fx_between.specs.Contours.{first_named}
use Rattle.fx_between.specs.inner.Runs.{unnamed_run}

pub some_or_none : {P C : Type 0} (p : P) → Some p ≡ None → C
some_or_none p h = absurd (grind (arith, h))

pub or_else : {P : Type 0} → Option P → Option P → Option P
or_else (Some p) q = Some p
or_else None q = q

abbrev pub or_point : {P : Type 0} → Option P → P → P
or_point (Some p) q = p
or_point None q = q

pub or_none : {P : Type 0} (p : Option P) → or_else p None ≡ p
unfolding or_else
or_none (Some p) = refl
or_none None = refl

pub other_way : {P : Type 0} (a b : Option P) (first : P) → or_else b a ≡ Some first → or_else a b ≡ Some (or_point a first)
unfolding or_else
other_way (Some x) b first h = refl
other_way None b first h = sym (or_none b) ∙ h

pub by_name : {C : Type 0} (b : Bool) → (b ≡ true → C) → (b ≡ false → C) → C
by_name true t f = t refl
by_name false t f = f refl

pub reverse_cons : {P : Type 0} (p : P) (ps : List P) → reverse (p ∷ ps) ≡ reverse ps ++ (p ∷ [])
reverse_cons p ps = reverse-append (p ∷ []) ps

module _ {P : Type 0} (is_named : P → Bool) where
  -- ---- the first named point

  pub hit : (p : P) (ps : List P) → is_named p ≡ true → first_named is_named (p ∷ ps) ≡ Some p
  unfolding first_named
  hit p ps h = rw h refl

  pub missed : (p : P) (ps : List P) → is_named p ≡ false → first_named is_named (p ∷ ps) ≡ first_named is_named ps
  unfolding first_named
  missed p ps h = rw h refl

  pub none_in_nothing : first_named is_named [] ≡ None
  unfolding first_named
  none_in_nothing = refl

  pub first_of_both : (xs ys : List P)
      → first_named is_named (xs ++ ys) ≡ or_else (first_named is_named xs) (first_named is_named ys)
  unfolding or_else
  first_of_both [] ys = rw none_in_nothing refl
  first_of_both (x ∷ xs) ys = by_name (is_named x)
      (λ h. rw (hit x (xs ++ ys) h, hit x xs h) refl)
      (λ h. rw (missed x (xs ++ ys) h, missed x xs h) (first_of_both xs ys))

  -- an unnamed point at the end changes nothing
  missed_last : (xs : List P) (p : P) → is_named p ≡ false → first_named is_named (xs ++ (p ∷ [])) ≡ first_named is_named xs
  missed_last xs p h = first_of_both xs (p ∷ [])
      ∙ ap (or_else (first_named is_named xs)) (missed p [] h ∙ none_in_nothing) ∙ or_none (first_named is_named xs)

  pub missed_behind : (behind : List P) (p : P) (ps : List P) → is_named p ≡ false
      → first_named is_named (behind ++ reverse (p ∷ ps)) ≡ first_named is_named (behind ++ reverse ps)
  missed_behind behind p ps h =
      ap (λ l. first_named is_named (behind ++ l)) (reverse_cons p ps)
      ∙ ap (first_named is_named) (sym (append_assoc behind (reverse ps) (p ∷ [])))
      ∙ missed_last (behind ++ reverse ps) p h

  pub none_backward : (xs : List P) → first_named is_named xs ≡ None → first_named is_named (reverse xs) ≡ None
  none_backward [] h = h
  none_backward (x ∷ xs) h = by_name (is_named x)
      (λ t. some_or_none x (sym (hit x xs t) ∙ h))
      (λ t. ap (first_named is_named) (reverse_cons x xs) ∙ missed_last (reverse xs) x t
      ∙ none_backward xs (sym (missed x xs t) ∙ h))

  -- ---- runs

  pub run_first : (xs : List P) (d : P) → unnamed_run is_named xs < length xs
      → first_named is_named xs ≡ Some (get_or xs (unnamed_run is_named xs) d)
  unfolding unnamed_run first_named
  run_first [] d h = absurd (omega (arith, h))
  run_first (x ∷ xs) d h =
      by_name (is_named x) (λ t. rw t refl) (λ t. rw t (run_first xs d (omega (arith, rw t at h))))

  run_none : (xs : List P) → length xs ≤ unnamed_run is_named xs → first_named is_named xs ≡ None
  unfolding unnamed_run first_named
  run_none [] h = refl
  run_none (x ∷ xs) h = by_name (is_named x) (λ t. absurd (omega (arith, rw t at h)))
      (λ t. rw t (run_none xs (omega (arith, rw t at h))))

  -- where some point is named, the first run ends
  pub run_ends : (xs : List P) (last : P) → Some last ≡ first_named is_named (reverse xs) → unnamed_run is_named xs < length xs
  run_ends xs last h = by_lt_z (pos (unnamed_run is_named xs)) (pos (length xs))
      (λ l. omega (arith, ints, l))
      (λ l. let k : length xs ≤ unnamed_run is_named xs = omega (arith, ints, l) in
      some_or_none last (h ∙ none_backward xs (run_none xs k)))

  pub run_fits : (xs : List P) → unnamed_run is_named xs ≤ length xs
  unfolding unnamed_run
  run_fits [] = omega arith
  run_fits (x ∷ xs) =
      by_name (is_named x) (λ t. rw t (omega arith)) (λ t. rw t (omega (arith, run_fits xs)))

  -- the run of unnamed points from a number on: at a named point, at another one, and past the last one
  pub run_zero : (xs : List P) (k : ℕ) (d p : P) → k < length xs → p ≡ get_or xs k d → is_named p ≡ true
      → unnamed_run is_named (drop k xs) ≡ 0
  unfolding unnamed_run
  run_zero xs k d p h g t = rw (drop-cons xs k d h, ← g, t) refl

  pub run_next : (xs : List P) (k : ℕ) (d p : P) → k < length xs → p ≡ get_or xs k d → is_named p ≡ false
      → unnamed_run is_named (drop k xs) ≡ suc (unnamed_run is_named (drop (k + 1) xs))
  unfolding unnamed_run
  run_next xs k d p h g t = let s : k + 1 ≡ suc k = omega arith in rw (s, drop-cons xs k d h, ← g, t) refl

  pub run_over : (xs : List P) (k : ℕ) → length xs ≤ k → unnamed_run is_named (drop k xs) ≡ 0
  unfolding unnamed_run
  run_over xs k h = rw (drop_all k xs h) refl

  -- ---- the points before a number, with the last of them first

  last_at : (xs : List P) (left : ℕ) (p : P) → left ≤ length xs → 0 < left
      → first_named is_named (reverse xs) ≡ first_named is_named (reverse (take left xs)) → p ≡ get_or xs (left - 1) p
      → first_named is_named (reverse xs) ≡ first_named is_named (p ∷ reverse (take (left - 1) xs))
  last_at xs left p w n s g =
      let e : left ≡ suc (left - 1) = omega (arith, n) in
      s ∙ ap (λ n. first_named is_named (reverse (take n xs))) e
      ∙ ap (λ l. first_named is_named (reverse l)) (take-suc xs (left - 1) p (omega (arith, w, n)))
      ∙ ap (first_named is_named) (reverse-append (take (left - 1) xs) (get_or xs (left - 1) p ∷ [])
      ∙ ap (λ q. q ∷ reverse (take (left - 1) xs)) (sym g))

  pub last_here : (xs : List P) (left : ℕ) (p : P) → left ≤ length xs → 0 < left
      → first_named is_named (reverse xs) ≡ first_named is_named (reverse (take left xs)) → p ≡ get_or xs (left - 1) p
      → is_named p ≡ true → Some p ≡ first_named is_named (reverse xs)
  last_here xs left p w n s g t = sym (last_at xs left p w n s g ∙ hit p (reverse (take (left - 1) xs)) t)

  pub last_before : (xs : List P) (left : ℕ) (p : P) → left ≤ length xs → 0 < left
      → first_named is_named (reverse xs) ≡ first_named is_named (reverse (take left xs)) → p ≡ get_or xs (left - 1) p
      → is_named p ≡ false → first_named is_named (reverse xs) ≡ first_named is_named (reverse (take (left - 1) xs))
  last_before xs left p w n s g t = last_at xs left p w n s g ∙ missed p (reverse (take (left - 1) xs)) t

  pub last_none : (xs : List P) (left : ℕ) → left ≡ 0
      → first_named is_named (reverse xs) ≡ first_named is_named (reverse (take left xs)) → None ≡ first_named is_named (reverse xs)
  last_none xs left z s = sym (rw z at s ∙ none_in_nothing)

pub ruleset run_steps = (run_zero, run_next, run_over)

pub ruleset last_steps = (last_here, last_before, last_none)
