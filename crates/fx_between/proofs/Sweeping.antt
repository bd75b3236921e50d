-- The sweep over a contour does to each point what the rule for one point says: `contour_swept`. For `fill_contour`.
use Rattle.std.proofs.Common.{◌≡◌, refl, sym, ap, ◌∙◌, arith, ℕ, suc, ◌+◌, ◌-◌, ◌<◌, ◌≤◌, Bool, true, false, if◌then◌else◌}
use Rattle.std.proofs.Common.{List, [], ◌∷◌, ◌++◌, length, get_or, take, drop, map, reverse, Some, None}
use Rattle.std.proofs.Math.Seq.{take-suc, drop-cons, take-append_seam, drop-append_seam}
use Rattle.std.proofs.lemmas.List.{append_assoc, append-nil, reverse-append, length-append, length-take-le, length-drop}
use Rattle.std.proofs.lemmas.List.{length-map, reverse-reverse, drop_all, take_all, get_or-drop, get_or_default}
use borrow.Rule.Slice.PartMut.{put_mid}
use Rattle.fx_between.specs.Contours.{between_any, first_named, filled, each_filled, contour_filled}
use Rattle.fx_between.specs.inner.Runs.{unnamed_run, point_before}
use Rattle.fx_between.proofs.Named.{some_or_none, or_else, or_point, or_none, other_way, by_name, reverse_cons, hit, missed}
use Rattle.fx_between.proofs.Named.{none_in_nothing, first_of_both, missed_behind, none_backward, run_first, run_fits}

passed : {P : Type 0} (behind : List P) (p : P) (ps : List P) → reverse (p ∷ behind) ++ ps ≡ reverse behind ++ (p ∷ ps)
passed behind p ps = ap (λ l. l ++ ps) (reverse_cons p behind) ∙ append_assoc (reverse behind) (p ∷ []) ps

pub passed_long : {P : Type 0} (f : P → P) (pts ys : List P) (start end m : ℕ) → start ≤ end → end ≤ length pts
    → m ≡ end - start → ys ≡ map f (take m (drop start pts)) → length (put_mid start m pts ys) ≡ length pts
passed_long f pts ys start end m w h e y =
    let xs = drop start pts in
    let rest : length xs ≡ length pts - start = length-drop start pts in
    let long : length ys ≡ m = ap length y ∙ length-map (take m xs) f ∙ length-take-le m xs (omega (arith, e, w, h, rest)) in
    omega (
      arith,
      length-append (take start pts) (ys ++ drop m xs),
      length-append ys (drop m xs),
      length-drop m xs,
      rest,
      long,
      length-take-le start pts (omega (arith, w, h)),
      e,
      w,
      h,
    )

ahead_is : {P : Type 0} (is_named : P → Bool) (first p : P) (ps behind : List P) → is_named p ≡ false
    → first_named is_named (reverse behind ++ (p ∷ ps)) ≡ Some first
    → first_named is_named (ps ++ reverse behind) ≡ Some (or_point (first_named is_named ps) first)
ahead_is is_named first p ps behind t h =
    first_of_both is_named ps (reverse behind)
    ∙ other_way (first_named is_named ps) (first_named is_named (reverse behind)) first
    (ap (or_else (first_named is_named (reverse behind))) (sym (missed is_named p ps t))
    ∙ sym (first_of_both is_named (reverse behind) (p ∷ ps)) ∙ h)

-- a point's run, between it and the next named one
next_is : {P : Type 0} (is_named : P → Bool) (first : P) (xs : List P)
    → or_point (first_named is_named xs) first ≡ get_or xs (unnamed_run is_named xs) first
unfolding first_named unnamed_run
next_is is_named first [] = refl
next_is is_named first (x ∷ xs) = by_name (is_named x) (λ t. rw t refl) (λ t. rw t (next_is is_named first xs))

module _ {P : Type 0} (is_named : P → Bool) (between : P → P → P → P) where
  -- the sweep, with the contour's first named point, and the last one so far
  pub swept : P → P → List P → List P
  swept first before [] = []
  swept first before (p ∷ ps) =
      if is_named p then p ∷ swept first p ps
      else between before (or_point (first_named is_named ps) first) p ∷ swept first before ps

  swept_at : (first before p : P) (ps : List P) → is_named p ≡ true → swept first before (p ∷ ps) ≡ p ∷ swept first p ps
  unfolding swept
  swept_at first before p ps h = rw h refl

  -- the definition, with the points before each one the nearest first
  zipped : List P → List P → List P
  zipped behind [] = []
  zipped behind (p ∷ ahead) =
      (if is_named p then p else between_any between (first_named is_named (behind ++ reverse ahead))
      (first_named is_named (ahead ++ reverse behind)) p)
      ∷ zipped (p ∷ behind) ahead

  each_zipped : (before ahead : List P) → each_filled is_named between before ahead ≡ zipped (reverse before) ahead
  unfolding each_filled zipped
  each_zipped before [] = refl
  each_zipped before (p ∷ ps) =
      let r : reverse (before ++ (p ∷ [])) ≡ p ∷ reverse before = reverse-append before (p ∷ []) in
      rw (reverse-reverse before)
      (ap (λ l. filled is_named between before p ps ∷ l) (each_zipped (before ++ (p ∷ [])) ps ∙ ap (λ l. zipped l ps) r))

  each_swept : (first before : P) (behind ahead : List P)
      → first_named is_named (behind ++ reverse ahead) ≡ Some before
      → first_named is_named (reverse behind ++ ahead) ≡ Some first → zipped behind ahead ≡ swept first before ahead
  unfolding swept zipped
  each_swept first before behind [] h g = refl
  each_swept first before behind (p ∷ ps) h g =
      let first_is : first_named is_named (reverse (p ∷ behind) ++ ps) ≡ Some first =
      ap (first_named is_named) (passed behind p ps) ∙ g in
      by_name (is_named p)
      (λ t. rw t (ap (λ l. p ∷ l) (each_swept first p (p ∷ behind) ps (hit is_named p (behind ++ reverse ps) t) first_is)))
      (λ t. let e = sym (missed_behind is_named behind p ps t) ∙ h in
      rw (t, e, ahead_is is_named first p ps behind t g)
      (ap (λ l. between before (or_point (first_named is_named ps) first) p ∷ l)
      (each_swept first before (p ∷ behind) ps (missed is_named p (behind ++ reverse ps) t ∙ e) first_is)))

  -- a contour with named points is swept
  pub contour_swept : (xs : List P) (last first : P) (n : ℕ) → Some last ≡ first_named is_named (reverse xs)
      → unnamed_run is_named xs < length xs → n ≡ unnamed_run is_named xs → first ≡ get_or xs n first
      → contour_filled is_named between xs ≡ swept first last xs
  unfolding contour_filled
  contour_swept xs last first n h k r g =
      each_zipped [] xs
      ∙ each_swept (get_or xs (unnamed_run is_named xs) first) last [] xs (sym h) (run_first is_named xs first k)
      ∙ ap (λ p. swept p last xs) (ap (λ n. get_or xs n first) (sym r) ∙ sym g)

  -- one without stays
  none_zipped : (behind ahead : List P) → first_named is_named behind ≡ None → first_named is_named ahead ≡ None
      → zipped behind ahead ≡ ahead
  unfolding zipped
  none_zipped behind [] h g = refl
  none_zipped behind (p ∷ ps) h g = by_name (is_named p)
      (λ t. some_or_none p (sym (hit is_named p ps t) ∙ g))
      (λ t. let e = sym (missed is_named p ps t) ∙ g in
      let b : first_named is_named (behind ++ reverse ps) ≡ None = first_of_both is_named behind (reverse ps)
      ∙ rw (h, none_backward is_named ps e) (or_none None) in
      rw (t, b) (ap (λ l. p ∷ l) (none_zipped (p ∷ behind) ps (missed is_named p behind t ∙ h) e)))

  pub contour_stays : (xs : List P) → None ≡ first_named is_named (reverse xs) → contour_filled is_named between xs ≡ xs
  unfolding contour_filled
  contour_stays xs h = each_zipped [] xs ∙ none_zipped [] xs (none_in_nothing is_named)
      (ap (first_named is_named) (sym (reverse-reverse xs)) ∙ none_backward is_named (reverse xs) (sym h))

  run_swept : (first before : P) (xs : List P) → swept first before xs
      ≡ map (between before (get_or xs (unnamed_run is_named xs) first)) (take (unnamed_run is_named xs) xs)
      ++ swept first before (drop (unnamed_run is_named xs) xs)
  unfolding swept unnamed_run
  run_swept first before [] = refl
  run_swept first before (x ∷ xs) = by_name (is_named x) (λ t. rw t (rw t refl))
      (λ t. rw (t, next_is is_named first xs)
      (ap (λ l. between before (get_or xs (unnamed_run is_named xs) first) x ∷ l) (run_swept first before xs)))

  -- after a run the point before it is of no use
  swept_after_run : (first b c : P) (xs : List P)
      → swept first b (drop (unnamed_run is_named xs) xs) ≡ swept first c (drop (unnamed_run is_named xs) xs)
  unfolding swept unnamed_run
  swept_after_run first b c [] = refl
  swept_after_run first b c (x ∷ xs) =
      by_name (is_named x) (λ t. rw t (rw t refl)) (λ t. rw t (swept_after_run first b c xs))

  -- the points before a number done, and the sweep from there on
  abbrev pub swept_from : P → P → List P → ℕ → List P
  swept_from first last pts n = take n pts ++ swept first (point_before last n pts) (drop n pts)

  -- what the whole contour becomes stays the same: as a named point is passed
  pub named_passed : (whole : List P) (first last p d : P) (pts : List P) (n : ℕ) → n < length pts → p ≡ get_or pts n d
      → is_named p ≡ true → whole ≡ swept_from first last pts n → whole ≡ swept_from first last pts (n + 1)
  named_passed whole first last p d pts n h g t so =
      let s : n + 1 ≡ suc n = omega arith in
      let q : (e : P) → get_or pts n e ≡ p = λ e. get_or_default pts n e d h ∙ sym g in
      let rest = drop (suc n) pts in
      let split : drop n pts ≡ p ∷ rest = drop-cons pts n p h ∙ ap (λ r. r ∷ rest) (q p) in
      so ∙ sym (rw (s, q last) (ap (λ l. l ++ swept first p rest) (take-suc pts n p h)
      ∙ append_assoc (take n pts) (get_or pts n p ∷ []) (swept first p rest)
      ∙ ap (λ l. take n pts ++ l) (ap (λ r. r ∷ swept first p rest) (q p)
      ∙ sym (ap (swept first (point_before last n pts)) split ∙ swept_at first (point_before last n pts) p rest t))))

  -- as a run is filled
  pub run_passed : (whole : List P) (first last before after : P) (pts ys : List P) (start end m : ℕ)
      → start ≤ length pts → end ≡ start + unnamed_run is_named (drop start pts) → m ≡ end - start
      → before ≡ point_before last start pts → after ≡ get_or pts end first
      → ys ≡ map (between before after) (take m (drop start pts))
      → whole ≡ swept_from first last pts start → whole ≡ swept_from first last (put_mid start m pts ys) end
  run_passed whole first last before after pts ys start end m w e n b g y so =
      let xs = drop start pts in
      let k = unnamed_run is_named xs in
      let done = take start pts ++ ys in
      let passed = point_before last end (put_mid start m pts ys) in
      let is : m ≡ k = omega (arith, e, n) in
      let long : length ys ≡ k = ap length y ∙ length-map (take m xs) (between before after)
      ∙ length-take-le m xs (omega (arith, is, run_fits is_named xs)) ∙ is in
      let next : after ≡ get_or xs k first = g ∙ ap (λ j. get_or pts j first) e ∙ sym (get_or-drop start pts k first) in
      let run : ys ≡ map (between before (get_or xs k first)) (take k xs) =
      y ∙ (λ i. map (between before (next i)) (take (is i) xs)) in
      let split : put_mid start m pts ys ≡ done ++ drop k xs = sym (append_assoc (take start pts) ys (drop m xs))
      ∙ ap (λ j. done ++ drop j xs) is in
      let at : end ≡ length done = omega (arith, e, long, length-append (take start pts) ys, length-take-le start pts w) in
      let front : take end (done ++ drop k xs) ≡ done = rw at (take-append_seam done (drop k xs)) in
      let back : drop end (done ++ drop k xs) ≡ drop k xs = rw at (drop-append_seam done (drop k xs)) in
      so ∙ sym (ap (λ l. take end l ++ swept first passed (drop end l)) split
      ∙ (λ i. (front i) ++ swept first passed (back i))
      ∙ ap (λ l. done ++ l) (swept_after_run first passed before xs)
      ∙ append_assoc (take start pts) ys (swept first before (drop k xs))
      ∙ ap (λ l. take start pts ++ l)
      (ap (λ l. l ++ swept first before (drop k xs)) run ∙ sym (run_swept first before xs))
      ∙ ap (λ p. take start pts ++ swept first p xs) b)

  -- and at the end, when all points are passed
  pub all_passed : (whole : List P) (first last : P) (pts : List P) (n : ℕ) → length pts ≤ n
      → whole ≡ swept_from first last pts n → pts ≡ whole
  unfolding swept
  all_passed whole first last pts n h so = sym (so ∙ rw (take_all n pts h, drop_all n pts h) (append-nil pts))
