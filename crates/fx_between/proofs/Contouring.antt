-- Contours are filled one after the other, and keep what the rule keeps of each point: `contours_kept`. For `fill_contours`.
use Rattle.std.proofs.Common.{◌≡◌, refl, sym, ap, ◌∙◌, arith, ℕ, zero, suc, ◌+◌, ◌-◌, ◌<◌, ◌≤◌, Bool, true, false, if◌then◌else◌}
use Rattle.std.proofs.Common.{List, [], ◌∷◌, ◌++◌, length, get_or, take, drop, map, reverse, Option, Some, None, take-append-drop}
use Rattle.std.proofs.lemmas.List.{length-map, map-append}
use Rattle.std.proofs.lemmas.Option.{slice_get-get_or}
use Rattle.std.specs.Prelude.{option_map}
use borrow.Rule.Slice.PartMut.{put_mid}
use Rattle.fx_between.specs.Contours.{first_of, contour_of, between_any, first_named, each_filled, contour_filled}
use Rattle.fx_between.specs.Contours.{part_filled, contours_filled}

-- where the next contour begins
pub next_first : (ends : List ℕ) (k first : ℕ) → first ≡ get_or ends k 0 + 1 → first ≡ first_of ends (k + 1)
next_first ends k first e =
    let n : k + 1 ≡ suc k = omega arith in
    let m : get_or ends k 0 + 1 ≡ suc (get_or ends k 0) = omega arith in
    e ∙ m ∙ sym (ap (first_of ends) n)

module _ {P : Type 0} (is_named : P → Bool) (between : P → P → P → P) where
  contours_next : (ends : List ℕ) (points : List P) (k d : ℕ) → k < length ends
      → contours_filled is_named between ends (k + 1) points
      ≡ part_filled is_named between (Some (first_of ends k, suc (get_or ends k d)))
      (contours_filled is_named between ends k points)
  unfolding contours_filled
  contours_next ends points k d h =
      let e : k + 1 ≡ suc k = omega arith in
      ap (λ n. contours_filled is_named between ends n points) e
      ∙ ap (λ end. part_filled is_named between (option_map (λ last. (first_of ends k, suc last)) end)
      (contours_filled is_named between ends k points)) (slice_get-get_or ends k d h)

  empty_contour : contour_filled is_named between [] ≡ []
  unfolding contour_filled each_filled
  empty_contour = refl

  -- an empty contour changes nothing
  pub contour_empty : (ends : List ℕ) (initial points : List P) (first k d : ℕ) → k < length ends
      → first ≡ first_of ends k → get_or ends k d + 1 ≤ first → points ≡ contours_filled is_named between ends k initial
      → points ≡ contours_filled is_named between ends (k + 1) initial
  contour_empty ends initial points first k d h f l e =
      let z : suc (get_or ends k d) - first ≡ 0 = omega (arith, l) in
      sym (contours_next ends initial k d h ∙ rw (← f, ← e, z, empty_contour) (take-append-drop first points))

  -- any other is put in its place
  pub contour_put : (ends : List ℕ) (initial points ys : List P) (first k d : ℕ) → k < length ends
      → first ≡ first_of ends k → points ≡ contours_filled is_named between ends k initial
      → ys ≡ contour_filled is_named between (take (get_or ends k d + 1 - first) (drop first points))
      → put_mid first (get_or ends k d + 1 - first) points ys ≡ contours_filled is_named between ends (k + 1) initial
  contour_put ends initial points ys first k d h f e y =
      let s : suc (get_or ends k d) ≡ get_or ends k d + 1 = omega arith in
      sym (contours_next ends initial k d h ∙ rw (← f, ← e, s, ← y) refl)

-- ---- what the rule keeps of each point

module _ {P A : Type 0} (is_named : P → Bool) (between : P → P → P → P) (f : P → A)
    (keeps : (a b p : P) → f (between a b p) ≡ f p) where
  any_kept : (b : Bool) (o q : Option P) (p : P) → f (if b then p else between_any between o q p) ≡ f p
  any_kept true o q p = refl
  any_kept false None q p = refl
  any_kept false (Some a) None p = refl
  any_kept false (Some a) (Some b) p = keeps a b p

  each_kept : (before ps : List P) → map f (each_filled is_named between before ps) ≡ map f ps
  unfolding each_filled
  each_kept before [] = refl
  each_kept before (p ∷ after) =
      ap (λ (x : A). x ∷ map f (each_filled is_named between (before ++ p ∷ []) after))
      (any_kept (is_named p) (first_named is_named (reverse before ++ reverse after)) (first_named is_named (after ++ before)) p)
      ∙ ap (λ (l : List A). f p ∷ l) (each_kept (before ++ p ∷ []) after)

  contour_kept : (ps : List P) → map f (contour_filled is_named between ps) ≡ map f ps
  unfolding contour_filled
  contour_kept ps = each_kept [] ps

  halves : (m : ℕ) (ps : List P) → map f (take m ps) ++ map f (drop m ps) ≡ map f ps
  halves m ps = sym (map-append f (take m ps) (drop m ps)) ∙ ap (map f) (take-append-drop m ps)

  part_kept : (c : Option (ℕ × ℕ)) (ps : List P) → map f (part_filled is_named between c ps) ≡ map f ps
  part_kept None ps = refl
  part_kept (Some c) ps =
      let rest = drop c.0 ps in
      let m = c.1 - c.0 in
      map-append f (take c.0 ps) (contour_filled is_named between (take m rest) ++ drop m rest)
      ∙ ap (λ (l : List A). map f (take c.0 ps) ++ l)
      (map-append f (contour_filled is_named between (take m rest)) (drop m rest)
      ∙ ap (λ (l : List A). l ++ map f (drop m rest)) (contour_kept (take m rest)) ∙ halves m rest)
      ∙ halves c.0 ps

  pub contours_kept : (ends : List ℕ) (n : ℕ) (ps : List P) → map f (contours_filled is_named between ends n ps) ≡ map f ps
  unfolding contours_filled
  contours_kept ends zero ps = refl
  contours_kept ends (suc n) ps = part_kept (contour_of ends n) (contours_filled is_named between ends n ps)
      ∙ contours_kept ends n ps

-- their number among it
pub contours_long : {P : Type 0} (is_named : P → Bool) (between : P → P → P → P) (ends : List ℕ) (n : ℕ) (points : List P)
    → length (contours_filled is_named between ends n points) ≡ length points
contours_long {P} is_named between ends n points =
    let one : P → ℕ = λ p. 1 in
    sym (length-map (contours_filled is_named between ends n points) one)
    ∙ ap length (contours_kept is_named between one (λ a b p. refl) ends n points) ∙ length-map points one
