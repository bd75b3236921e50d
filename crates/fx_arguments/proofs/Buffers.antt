-- What is read into the rest of a buffer follows what it had: `filled_more`, in a vector `text_on`.
-- Serves `read_line`, `line_len` and `read_on`.
use Rattle.std.proofs.Common.{◌≡◌, ◌∙◌, ℕ, ◌+◌, ◌-◌, ◌≤◌, List, ◌++◌, length, take, drop, refl, sym, ap, subst, arith, Option, Some, None}
use Rattle.std.proofs.Common.{Bool, true, false, cond, length-append, append_assoc}
use Rattle.std.specs.Prelude.{position, unwrap_or, nat_lt}
use Rattle.std.specs.List.{position_or_len}
use Rattle.std.specs.Io.KnownBytes.{Consumes}
use Rattle.std.proofs.KnownBytes.{Consumes-trans}
use Rattle.std.proofs.Math.Seq.{take-append-add}
use Rattle.std.proofs.lemmas.List.{take-append-le, take-take}
use Rattle.std.proofs.lemmas.Grind.{common_steps}
use Rattle.std.proofs.lemmas.Bool.{ltb-false}
use borrow.Rule.Slice.PartMut.{put_mid, post_of}

-- the front of a buffer that was filled further
take_filled : (buffer ys : List ℕ) (at n : ℕ) → at ≤ length buffer → n ≤ length ys
    → take (at + n) (put_mid at (length buffer - at) buffer ys) ≡ take at buffer ++ take n ys
take_filled buffer ys at n h g =
    let size : length (take at buffer) ≡ at = grind (arith, common_steps) in
    let post = post_of at (length buffer - at) buffer in
    ap (λ (k : ℕ). take (k + n) (take at buffer ++ (ys ++ post))) (sym size)
    ∙ (take-append-add (take at buffer) (ys ++ post) n)
    ∙ ap (λ (xs : List ℕ). take at buffer ++ xs) (take-append-le n ys post g)

pub filled_more : (old now new : Option (List ℕ)) (buffer ys : List ℕ) (at n : ℕ) → at ≤ length buffer → n ≤ length ys
    → Consumes old now (take at buffer) → Consumes now new (take n ys)
    → Consumes old new (take (at + n) (put_mid at (length buffer - at) buffer ys))
filled_more old now new buffer ys at n h g before after =
    let P : List ℕ → Type 0 = λ xs. Consumes old new xs in
    subst P (sym (take_filled buffer ys at n h g)) (Consumes-trans old now new (take at buffer) (take n ys) before after)

pub filled_within : (buffer ys : List ℕ) (at n : ℕ) → at ≤ length buffer → n ≤ length ys
    → at + n ≤ length (put_mid at (length buffer - at) buffer ys)
filled_within buffer ys at n h g =
    let size : length (take at buffer) ≡ at = grind (arith, common_steps) in
    omega (
      arith,
      length-append (take at buffer) (ys ++ post_of at (length buffer - at) buffer),
      length-append ys
          (post_of at (length buffer - at) buffer),
    )

-- a text whose bytes after the first `at` were read into
text_more : (text ys front more : List ℕ) (at n : ℕ) → at ≤ length text → n ≤ length ys → take at text ≡ front ++ more
    → take (at + n) (put_mid at (length text - at) text ys) ≡ front ++ (more ++ take n ys)
text_more text ys front more at n h g e =
    take_filled text ys at n h g ∙ ap (λ (xs : List ℕ). xs ++ take n ys) e ∙ append_assoc front more (take n ys)

-- the same in a vector, whose bytes were lent
pub text_on : (text lent ys front more : List ℕ) (len at n : ℕ) → lent ≡ text → len ≡ length text → at ≤ len
    → length ys ≡ len - at → n ≤ length ys → take at text ≡ front ++ more
    → take (at + n) (take len (put_mid at (length lent - at) lent ys
    ++ drop (length (put_mid at (length lent - at) lent ys)) text)) ≡ front ++ (more ++ take n ys)
text_on text lent ys front more len at n same size h whole g e =
    let all = put_mid at (length lent - at) lent ys in
    let lent_size : length lent ≡ len = rw same (sym size) in
    let inside : at + n ≤ length all = filled_within lent ys at n (omega (arith, lent_size, h)) g in
    let front_is : take at lent ≡ front ++ more = rw same e in
    let most : at + n ≤ len = omega (arith, whole, g, h) in
    take-take (at + n) len (all ++ drop (length all) text) most
    ∙ take-append-le (at + n) all (drop (length all) text) inside
    ∙ text_more lent ys front more at n (omega (arith, lent_size, h)) g front_is

-- the index of the first that passes, or the length
pub place_or_len : (p : ℕ → Bool) (xs : List ℕ) → position_or_len p xs ≤ length xs
    → unwrap_or (position p xs) (length xs) ≡ position_or_len p xs
place_or_len p xs h = go (nat_lt (position_or_len p xs) (length xs)) refl
  where
    go : (b : Bool) → nat_lt (position_or_len p xs) (length xs) ≡ b
        → unwrap_or (cond b (Some (position_or_len p xs)) None) (length xs) ≡ position_or_len p xs
    go true e = refl
    go false e = let low : length xs ≤ position_or_len p xs = ltb-false _ _ e in omega arith

pub length_take_most : (k : ℕ) (xs : List ℕ) → length (take k xs) ≤ k
length_take_most k xs = grind (arith, common_steps)
