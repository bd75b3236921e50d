-- What is said of the entries of two lists, one pair after the other, is said of the lists: `pairs_more`, `pairs_all`.
-- It serves the loops over points, cells and settings.
use Rattle.std.proofs.Common.{◌≡◌, ℕ, zero, suc, ◌+◌, ◌<◌, ◌≤◌, ◌++◌, List, [], ◌∷◌, length, take, get_or}
use Rattle.std.proofs.Common.{refl, sym, ap, ◌∙◌, arith, append_assoc, append-nil}
use Rattle.std.specs.Prelude.{min}
use Rattle.fx_trace.specs.Changes.{each_from}
use Rattle.fx_trace.specs.inner.Telling.{TraceTextView, Says}
use Rattle.fx_trace.proofs.Texts.{says_nothing, says_then, says_text}

module _ {A : Type 0} (f : ℕ → A → A → List ℕ) where
  -- an entry more
  more_from : (n : ℕ) (xs ys : List A) (i k : ℕ) (x y : A) → x ≡ get_or xs i x → y ≡ get_or ys i y → i < length xs
      → i < length ys → k ≡ n + i
      → each_from f n (take i xs) (take i ys) ++ f k x y ≡ each_from f n (take (suc i) xs) (take (suc i) ys)
  unfolding each_from
  more_from n [] ys i k x y d e h g s = absurd (omega (arith, h))
  more_from n (a ∷ xs) [] i k x y d e h g s = absurd (omega (arith, g))
  more_from n (a ∷ xs) (b ∷ ys) zero k x y d e h g s =
      let same : k ≡ n = omega (arith, s) in rw (d, e, same) (sym (append-nil (f n a b)))
  more_from n (a ∷ xs) (b ∷ ys) (suc i) k x y d e h g s =
      append_assoc (f n a b) (each_from f (suc n) (take i xs) (take i ys)) _
      ∙ ap (λ (t : List ℕ). f n a b ++ t)
      (more_from (suc n) xs ys i k x y d e (omega (arith, h)) (omega (arith, g)) (omega (arith, s)))

  -- all of them, if one list has no more
  all_from : (n : ℕ) (xs ys : List A) (i : ℕ) → min (length xs) (length ys) ≤ i
      → each_from f n (take i xs) (take i ys) ≡ each_from f n xs ys
  unfolding each_from
  all_from n [] ys zero h = refl
  all_from n [] ys (suc i) h = refl
  all_from n (x ∷ xs) [] zero h = refl
  all_from n (x ∷ xs) [] (suc i) h = refl
  all_from n (x ∷ xs) (y ∷ ys) zero h = absurd (omega (arith, h))
  all_from n (x ∷ xs) (y ∷ ys) (suc i) h =
      ap (λ (t : List ℕ). f n x y ++ t) (all_from (suc n) xs ys i (omega (arith, h)))

  -- what is said of the entries before i was added
  pub record SaysBefore (was now : TraceTextView) (xs ys : List A) (i : ℕ) : Type 0 where
    pub said : Says was now (each_from f 0 (take i xs) (take i ys))

  pub pairs_none : {was : TraceTextView} (xs ys : List A) → SaysBefore was was xs ys 0
  unfolding each_from
  pairs_none xs ys = record { said = says_nothing }

  pub pairs_more : {was mid now : TraceTextView} {xs ys : List A} {i : ℕ} (x y : A) → SaysBefore was mid xs ys i → x ≡ get_or xs i x
      → y ≡ get_or ys i y → i < length xs → i < length ys → Says mid now (f i x y) → SaysBefore was now xs ys (i + 1)
  pairs_more {xs = xs} {ys = ys} {i = i} x y t d e h g s =
      let next : suc i ≡ i + 1 = omega arith in
      record { said = rw (← next) (says_text (more_from 0 xs ys i i x y d e h g (omega arith)) (says_then t.said s)) }

  pub pairs_all : {was now : TraceTextView} {xs ys : List A} {i : ℕ} → SaysBefore was now xs ys i → min (length xs) (length ys) ≤ i
      → Says was now (each_from f 0 xs ys)
  pairs_all {xs = xs} {ys = ys} {i = i} t h = says_text (all_from 0 xs ys i h) t.said
