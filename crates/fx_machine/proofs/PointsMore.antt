-- Points read from words, and then one more, are the points of that many more words: `points_more`.
use Rattle.std.proofs.Common.{◌≡◌, ℕ, zero, suc, ◌+◌, ◌*◌, List, [], ◌∷◌, ◌++◌, drop, take, length, ◌<◌, refl, ap, sym, ◌∙◌}
use Rattle.std.proofs.Common.{add-one, arith, append_assoc, map}
use Rattle.std.proofs.lemmas.List.{drop-drop, take_more, map-append, append-nil}
use Rattle.std.proofs.lemmas.Grind.{flat_map-append}
use Rattle.std.specs.List.{flat_map}
use Rattle.std.proofs.lemmas.List.Elements.{All-append}
use Rattle.std.specs.List.{All}
use Rattle.std.specs.Prelude.{get_or, slice_index_or}
use Rattle.fx_zone.specs.declared.point.ZonePoint.{ZonePoint}
use Rattle.fx_machine.specs.Words.{point_in, points_in}

five_more : (n : ℕ) → 5 + 5 * n ≡ 5 * suc n
five_more n = omega arith

pub points_more : (n : ℕ) (ws : List ℕ) → points_in (n + 1) ws ≡ points_in n ws ++ point_in (drop (5 * n) ws) ∷ []
points_more zero ws = refl
points_more (suc n) ws =
    let e : drop (5 * n) (drop 5 ws) ≡ drop (5 * suc n) ws = drop-drop (5 * n) 5 ws ∙ ap (λ k. drop k ws) (five_more n) in
    let i : points_in (suc n) (drop 5 ws) ≡ points_in n (drop 5 ws) ++ point_in (drop (5 * suc n) ws) ∷ [] =
    ap (λ k. points_in k (drop 5 ws)) (sym (add-one n)) ∙ (points_more n (drop 5 ws)
    ∙ ap (λ l. points_in n (drop 5 ws) ++ point_in l ∷ []) e) in
    ap (λ k. points_in k ws) (add-one (suc n)) ∙ ap (λ l. point_in ws ∷ l) i

-- the same of points to which one was added
pub point_added : (old new : List ZonePoint) (i : ℕ) (p : ZonePoint) (ws : List ℕ) → new ≡ old ++ p ∷ [] → old ≡ points_in i ws
    → p ≡ point_in (drop (5 * i) ws) → new ≡ points_in (i + 1) ws
point_added old new i p ws q r e = rw (points_more i ws, q, r, e) refl

-- how many there are
pub points_count : (n : ℕ) (ws : List ℕ) → length (points_in n ws) ≡ n
points_count zero ws = refl
points_count (suc n) ws = ap suc (points_count n (drop 5 ws))

-- ---- what holds of each so far

one : {X : Type 0} (P : X → Type 0) (x : X) → P x → (k : ℕ) (d : X) → k < length (x ∷ []) → P (slice_index_or (x ∷ []) k d)
one P x p zero d l = p
one P x p (suc k) d l = absurd (omega arith)

pub all_more : {X : Type 0} (P : X → Type 0) (xs : List X) (i : ℕ) (d : X) → i < length xs → All P (take i xs)
    → P (get_or xs i d) → All P (take (i + 1) xs)
all_more P xs i d l h p = rw (take_more xs i d l) (All-append P (take i xs) (get_or xs i d ∷ []) h (one P (get_or xs i d) p))

-- ---- the words of each so far

pub words_more : {X : Type 0} (f : X → ℕ) (xs : List X) (i : ℕ) (d x : X) (o w n : List ℕ) → i < length xs → get_or xs i d ≡ x
    → w ≡ o ++ map f (take i xs) → n ≡ w ++ f x ∷ [] → n ≡ o ++ map f (take (i + 1) xs)
words_more f xs i d x o w n l e h k =
    let m : map f (take (i + 1) xs) ≡ map f (take i xs) ++ f x ∷ [] =
    rw (take_more xs i d l, e) (map-append f (take i xs) (x ∷ [])) in
    rw (k, h, m) (append_assoc o (map f (take i xs)) (f x ∷ []))

pub many_words_more : {X : Type 0} (f : X → List ℕ) (xs : List X) (i : ℕ) (d x : X) (o w n : List ℕ) → i < length xs
    → get_or xs i d ≡ x → w ≡ o ++ flat_map f (take i xs) → n ≡ w ++ f x → n ≡ o ++ flat_map f (take (i + 1) xs)
many_words_more f xs i d x o w n l e h k =
    let m : flat_map f (take (i + 1) xs) ≡ flat_map f (take i xs) ++ f x =
    rw (take_more xs i d l, e) (flat_map-append f (take i xs) (x ∷ []) ∙ ap (λ t. flat_map f (take i xs) ++ t) (append-nil (f x)))
    in
    rw (k, h, m) (append_assoc o (flat_map f (take i xs)) (f x))
