-- A loop that writes each element of a list in turn maps the list: `more_written`.
-- For the runs that rules fill, and other loops over points in the crates above.
use Rattle.std.proofs.Common.{◌≡◌, ℕ, zero, suc, ◌+◌, ◌<◌, List, [], ◌∷◌, ◌++◌, length, take, drop, map, set, get_or, refl, ap}
use Rattle.std.proofs.Common.{add-one, arith}

written : {A : Type 0} (f : A → A) (xs : List A) (i : ℕ) (d : A) → i < length xs
    → set (map f (take i xs) ++ drop i xs) i (f (get_or (map f (take i xs) ++ drop i xs) i d)) ≡ map f (take (suc i) xs) ++ drop
    (suc i) xs
written f [] i d h = absurd (omega arith)
written f (x ∷ xs) zero d h = refl
written f (x ∷ xs) (suc i) d h = let k : i < length xs = omega arith in ap (λ ys. f x ∷ ys) (written f xs i d k)

-- the next element is written
pub more_written : {A : Type 0} (f : A → A) (xs ys : List A) (i : ℕ) (y d : A) → i < length xs
    → ys ≡ map f (take i xs) ++ drop i xs
    → y ≡ f (get_or ys i d) → set ys i y ≡ map f (take (i + 1) xs) ++ drop (i + 1) xs
more_written f xs ys i y d h e g = rw (add-one, g, e) (written f xs i d h)
