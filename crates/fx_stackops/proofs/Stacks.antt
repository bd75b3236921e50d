-- The top of the stack is the last used cell of a table: `top_at`, `dropped_at`, `pushed_at`, `replaced_at`, `moved_at`.
-- Serves the calls of Store that read or move numbers below the top.
use Rattle.std.proofs.Common.{◌≡◌, ◌≢◌, ◌∙◌, subst, sym, ap, refl, ℕ, ◌+◌, ◌-◌, ◌<◌, ◌≤◌, ℤ, pos, List, [], ◌∷◌, ◌++◌, length, take, drop}
use Rattle.std.proofs.Common.{reverse, slice_index_or, slice_set, arith, length-append, add-one}
use Rattle.std.specs.List.{slice_range}
use Rattle.std.proofs.lemmas.List.{reverse-append, reverse-reverse, length-reverse, length-take-le, length-drop, take-append-drop}
use Rattle.std.proofs.lemmas.List.{take-take, drop-take, take_at, drop_at, get_or_at, drop_more, append_assoc}
use Rattle.std.proofs.lemmas.List.{take_more, take_more_set, length-set}
use Rattle.std.proofs.lemmas.List.Elements.{All-take, All-drop, All-append, All-same}
use Rattle.std.proofs.Common.{FitsSigned}
use Rattle.std.specs.Int.{w32}
use borrow.Rule.Slice.PartMut.{post_of}
use Rattle.fx_stackops.specs.Table.{AreNumbers, rotated_of}
use Rattle.fx_stackops.specs.Store.{StoreView, view_of, on_top, moved_up}
use Rattle.fx_stackops.specs.inner.Tops.{below_top}

-- ---- cells in two parts

cells_parted : (xs : List ℤ) (a n : ℕ) → take (a + n) xs ≡ take a xs ++ take n (drop a xs)
cells_parted xs a n = sym (rw (take-take a (a + n) xs (omega arith), drop-take a n xs) at (take-append-drop a (take (a + n) xs)))

stack_parted : (xs : List ℤ) (a n : ℕ) → reverse (take (a + n) xs) ≡ reverse (take n (drop a xs)) ++ reverse (take a xs)
stack_parted xs a n = ap reverse (cells_parted xs a n) ∙ reverse-append (take a xs) (take n (drop a xs))

length_top : (xs : List ℤ) (a n : ℕ) → a + n ≤ length xs → length (reverse (take n (drop a xs))) ≡ n
length_top xs a n h = length-reverse (take n (drop a xs)) ∙ length-take-le n (drop a xs) (omega (arith, length-drop a xs))

dropped : (xs : List ℤ) (a n : ℕ) → a + n ≤ length xs → drop n (reverse (take (a + n) xs)) ≡ reverse (take a xs)
dropped xs a n h = ap (drop n) (stack_parted xs a n) ∙ drop_at _ _ n (length_top xs a n h)

taken : (xs : List ℤ) (a n : ℕ) → a + n ≤ length xs → take n (reverse (take (a + n) xs)) ≡ reverse (take n (drop a xs))
taken xs a n h = ap (take n) (stack_parted xs a n) ∙ take_at _ _ n (length_top xs a n h)

-- ---- what the calls read and leave

length_used : (xs : List ℤ) (d : ℕ) → d ≤ length xs → length (reverse (take d xs)) ≡ d
length_used xs d h = length-reverse (take d xs) ∙ length-take-le d xs h

-- n numbers fewer
pub dropped_at : (xs : List ℤ) (d n : ℕ) → n ≤ length (reverse (take d xs)) → d ≤ length xs
    → reverse (take (d - n) xs) ≡ drop n (reverse (take d xs))
dropped_at xs d n h k =
    let l = length_used xs d k in
    let e : d - n + n ≡ d = omega arith in sym (rw e at (dropped xs (d - n) n (omega arith)))

-- the top n numbers, the deepest first
pub top_at : (xs : List ℤ) (d n : ℕ) → n ≤ length (reverse (take d xs)) → d ≤ length xs
    → slice_range xs (d - n) d ≡ reverse (take n (reverse (take d xs)))
top_at xs d n h k =
    let l = length_used xs d k in
    let e : d - n + n ≡ d = omega arith in
    let f : d - (d - n) ≡ n = omega arith in
    rw f (sym (ap reverse (rw e at (taken xs (d - n) n (omega arith))) ∙ reverse-reverse (take n (drop (d - n) xs))))

-- ---- numbers put on it

-- the next number is written after those before it
pub written_next : (xs ys ns : List ℤ) (from i : ℕ) (x : ℤ) → from + i < length xs → i < length ns
    → x ≡ slice_index_or ns i (pos 0) → take (from + i) xs ≡ take from ys ++ take i ns
    → take (from + (i + 1)) (slice_set xs (from + i) x) ≡ take from ys ++ take (i + 1) ns
written_next xs ys ns from i x h g e before =
    let next : from + (i + 1) ≡ from + i + 1 = omega arith in
    ap (λ (n : ℕ). take n (slice_set xs (from + i) x)) next ∙ take_more_set xs (from + i) x h
    ∙ ap (λ (l : List ℤ). l ++ x ∷ []) before ∙ append_assoc (take from ys) (take i ns) (x ∷ [])
    ∙ ap (λ (l : List ℤ). take from ys ++ l) (ap (λ (y : ℤ). take i ns ++ y ∷ []) e ∙ sym (take_more ns i (pos 0) g))

-- the stack with all of them
pub pushed_at : (new cells ns : List ℤ) (d n : ℕ) → take (d + n) new ≡ take d cells ++ ns
    → reverse (take (d + n) new) ≡ reverse ns ++ reverse (take d cells)
pushed_at new cells ns d n e = ap reverse e ∙ reverse-append (take d cells) ns

-- ---- the number on top

-- it stays there
pub last_at : (xs : List ℤ) (d : ℕ) → d ≢ 0 → d ≤ length xs
    → slice_index_or xs (d - 1) (pos 0) ∷ drop 1 (reverse (take d xs)) ≡ reverse (take d xs)
last_at xs d n m =
    let l = length_used xs d m in
    let e : d ≡ d - 1 + 1 = omega arith in
    ap (λ (l : List ℤ). slice_index_or xs (d - 1) (pos 0) ∷ l) (sym (dropped_at xs d 1 (omega arith) m))
    ∙ sym (reverse-append (take (d - 1) xs) (slice_index_or xs (d - 1) (pos 0) ∷ []))
    ∙ ap reverse (sym (take_more xs (d - 1) (pos 0) (omega arith))) ∙ ap (λ (n : ℕ). reverse (take n xs)) (sym e)

-- another one takes its place
pub replaced_at : (new xs : List ℤ) (d : ℕ) (x : ℤ) → new ≡ slice_set xs (d - 1) x → 1 ≤ length (reverse (take d xs))
    → d ≤ length xs → reverse (take d new) ≡ x ∷ drop 1 (reverse (take d xs))
replaced_at new xs d x w h m =
    let l = length_used xs d m in
    let e : d ≡ d - 1 + 1 = omega arith in
    ap (λ (l : List ℤ). reverse (take d l)) w ∙ ap (λ (n : ℕ). reverse (take n (slice_set xs (d - 1) x))) e
    ∙ ap reverse (take_more_set xs (d - 1) x (omega arith)) ∙ reverse-append (take (d - 1) xs) (x ∷ [])
    ∙ ap (λ (l : List ℤ). x ∷ l) (dropped_at xs d 1 h m)

-- and this is seen
replaced_view : (new xs storage cvt : List ℤ) (d strays : ℕ) (x : ℤ) → new ≡ slice_set xs (d - 1) x
    → 1 ≤ length (reverse (take d xs)) → d ≤ length xs
    → view_of d new storage cvt strays ≡ on_top x (below_top (view_of d xs storage cvt strays))
replaced_view new xs storage cvt d strays x w h m =
    let n : length new ≡ length xs = ap length w ∙ length-set xs (d - 1) x in
    rw (replaced_at new xs d x w h m, n) refl

pub replaced_seen : (new xs storage cvt : List ℤ) (d strays : ℕ) (x : ℤ) (s : StoreView) → new ≡ slice_set xs (d - 1) x
    → view_of d xs storage cvt strays ≡ s → 1 ≤ length s.stack → d ≤ length xs
    → view_of d new storage cvt strays ≡ on_top x (below_top s)
replaced_seen new xs storage cvt d strays x s w v h m =
    let i : 1 ≤ length (view_of d xs storage cvt strays).stack = subst (λ (t : StoreView). 1 ≤ length t.stack) (sym v) h in
    subst (λ (t : StoreView). view_of d new storage cvt strays ≡ on_top x (below_top t)) v
    (replaced_view new xs storage cvt d strays x w i m)

-- ---- a number moved to the top

module _ (A B : List ℤ) (x : ℤ) where
  below_is : reverse (A ++ x ∷ B) ≡ reverse B ++ x ∷ reverse A
  below_is =
      reverse-append A (x ∷ B) ∙ ap (λ (l : List ℤ). l ++ reverse A) (reverse-append (x ∷ []) B)
      ∙ append_assoc (reverse B) (x ∷ []) (reverse A)

  above_is : reverse (A ++ (B ++ x ∷ [])) ≡ x ∷ (reverse B ++ reverse A)
  above_is = reverse-append A (B ++ x ∷ []) ∙ ap (λ (l : List ℤ). l ++ reverse A) (reverse-append B (x ∷ []))

  rest_is : drop (length B + 1) (reverse B ++ x ∷ reverse A) ≡ reverse A
  rest_is =
      ap (drop (length B + 1)) (sym (append_assoc (reverse B) (x ∷ []) (reverse A)))
      ∙ drop_at (reverse B ++ x ∷ []) (reverse A) (length B + 1)
      (length-append (reverse B) (x ∷ []) ∙ ap (λ (n : ℕ). n + 1) (length-reverse B))

  moved_parts : moved_up (length B) (reverse (A ++ x ∷ B)) ≡ reverse (A ++ (B ++ x ∷ []))
  moved_parts =
      let n = length-reverse B in
      rw (
        below_is,
        above_is,
        get_or_at (reverse B) x (reverse A) (pos 0) (length B) n,
        take_at (reverse B) (x ∷ reverse A)
            (length B) n,
        rest_is,
      ) refl

-- the first d cells, of which k are above the cell a
module _ (xs : List ℤ) (a k d : ℕ) (e : a + (k + 1) ≡ d) (m : d ≤ length xs) where
  above : List ℤ
  above = take k (drop (a + 1) xs)

  length_above : length above ≡ k
  unfolding above
  length_above = length-take-le k (drop (a + 1) xs) (omega (arith, length-drop (a + 1) xs))

  from_here : take (k + 1) (drop a xs) ≡ slice_index_or xs a (pos 0) ∷ above
  unfolding above
  from_here = rw (drop_more xs a (pos 0) (omega arith), add-one k) refl

  cells_are : take d xs ≡ take a xs ++ slice_index_or xs a (pos 0) ∷ above
  cells_are = ap (λ (n : ℕ). take n xs) (sym e) ∙ cells_parted xs a (k + 1) ∙ ap (λ (l : List ℤ). take a xs ++ l) from_here

  range_is : slice_range xs (a + 1) d ≡ above
  unfolding above
  range_is = let f : d - (a + 1) ≡ k = omega arith in ap (λ (n : ℕ). take n (drop (a + 1) xs)) f

  rotated_are : take d (rotated_of a d xs) ≡ take a xs ++ (above ++ slice_index_or xs a (pos 0) ∷ [])
  rotated_are =
      let x = slice_index_or xs a (pos 0) in
      let regrouped =
      append_assoc (take a xs) (above ++ x ∷ []) (drop d xs)
      ∙ ap (λ (l : List ℤ). take a xs ++ l) (append_assoc above (x ∷ []) (drop d xs))
      in
      let long : length (take a xs ++ (above ++ x ∷ [])) ≡ d =
      omega (
        arith,
        length-append (take a xs) (above ++ x ∷ []),
        length-append above (x ∷ []),
        length-take-le a xs (omega arith),
        length_above,
      )
      in
      ap (λ (l : List ℤ). take d (take a xs ++ (l ++ x ∷ drop d xs))) range_is ∙ ap (take d) (sym regrouped)
      ∙ take_at (take a xs ++ (above ++ x ∷ [])) (drop d xs) d long

  moved_from : reverse (take d (rotated_of a d xs)) ≡ moved_up k (reverse (take d xs))
  moved_from =
      let x = slice_index_or xs a (pos 0) in
      ap reverse rotated_are ∙ sym (moved_parts (take a xs) above x)
      ∙ ap (λ (n : ℕ). moved_up n (reverse (take a xs ++ x ∷ above))) length_above
      ∙ ap (λ (l : List ℤ). moved_up k (reverse l)) (sym cells_are)

pub moved_at : (xs : List ℤ) (d k : ℕ) → k < length (reverse (take d xs)) → d ≤ length xs
    → reverse (take d (rotated_of (d - 1 - k) d xs)) ≡ moved_up k (reverse (take d xs))
moved_at xs d k h m = let l = length_used xs d m in moved_from xs (d - 1 - k) k d (omega arith) m

-- ---- numbers of a table

-- a part written over keeps all numbers in range
pub written_fit : (xs zs ys : List ℤ) (from k len m : ℕ) → AreNumbers xs → AreNumbers zs → AreNumbers ys
    → AreNumbers (take len ((take from zs ++ (ys ++ post_of from k zs)) ++ drop m xs))
written_fit xs zs ys from k len m h i j =
    let P = FitsSigned w32 in
    All-take P len _ (All-append P _ (drop m xs)
    (All-append P (take from zs) _ (All-take P from zs i) (All-append P ys _ j (All-drop P k _ (All-drop P from zs i))))
    (All-drop P m xs h))

-- and so does a part rotated
pub rotated_fit : (xs zs ys : List ℤ) (from k len m : ℕ) → AreNumbers xs → AreNumbers zs
    → ys ≡ drop 1 (take k (drop from zs)) ++ take 1 (take k (drop from zs))
    → AreNumbers (take len ((take from zs ++ (ys ++ post_of from k zs)) ++ drop m xs))
rotated_fit xs zs ys from k len m h i e =
    let P = FitsSigned w32 in
    let part = All-take P k _ (All-drop P from zs i) in
    written_fit xs zs ys from k len m h i (All-same P ys _ e (All-append P _ _ (All-drop P 1 _ part) (All-take P 1 _ part)))
