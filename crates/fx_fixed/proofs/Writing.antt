-- The fronts of a piece that a sink took, one after the other, are a front of the piece: `taken_more`.
-- Serves `put_all`, `TextWriter::add`, and all that add pieces in turn.
use Rattle.std.proofs.Common.{refl, [], ◌∷◌, zero, suc, drop, get_or, ◌≡◌, ℕ, ◌+◌, ◌-◌, ◌*◌, ◌<◌, ◌≤◌, ◌++◌, List, length, take}
use Rattle.std.proofs.Common.{length-drop, sym, ap, ◌∙◌, arith, subst, append_assoc, append-nil, length-append, All, Option}
use Rattle.std.specs.List.{flat_map}
use Rattle.std.specs.Io.KnownBytes.{Appends}
use Rattle.std.proofs.KnownBytes.{Appends-trans}
use Rattle.std.proofs.Math.Nat.{suc-mul}
use Rattle.std.proofs.Math.Seq.{take-add}
use Rattle.std.proofs.lemmas.List.Elements.{All-head, All-tail}
use Rattle.std.proofs.lemmas.List.{take_rest}

-- ---- inside one piece

-- a front of what is left of a piece lies in it
pub taken_within : (piece : List ℕ) (at k : ℕ) → at ≤ length piece → k ≤ length (take (length piece - at) (drop at piece))
    → at + k ≤ length piece
taken_within piece at k h e =
    let P : List ℕ → Type 0 = λ xs. k ≤ length xs in
    let g : k ≤ length (drop at piece) = subst P (take_rest piece at) e in
    omega (arith, length-drop at piece)

-- a front of it was appended
pub taken_more : (old now new : Option (List ℕ)) (piece : List ℕ) (at k : ℕ) → Appends old now (take at piece)
    → Appends now new (take k (take (length piece - at) (drop at piece))) → Appends old new (take (at + k) piece)
taken_more old now new piece at k h e =
    let front : take at piece ++ take k (take (length piece - at) (drop at piece)) ≡ take (at + k) piece
    = ap (λ (xs : List ℕ). take at piece ++ take k xs) (take_rest piece at) ∙ sym (take-add at k piece) in
    let P : List ℕ → Type 0 = λ xs. Appends old new xs in
    subst P front (Appends-trans old now new (take at piece) (take k (take (length piece - at) (drop at piece))) h e)

-- ---- a list of pieces

-- parted at one
pub parts : {X : Type 0} (f : X → List ℕ) (xs : List X) (i : ℕ) (d : X) → i < length xs
    → flat_map f xs ≡ flat_map f (take i xs) ++ (f (get_or xs i d) ++ flat_map f (drop (suc i) xs))
parts f [] i d h = absurd (omega arith)
parts f (x ∷ xs) zero d h = refl
parts f (x ∷ xs) (suc i) d h =
    ap (λ (t : List ℕ). f x ++ t) (parts f xs i d (omega arith))
    ∙ sym (append_assoc (f x) (flat_map f (take i xs)) (f (get_or xs i d) ++ flat_map f (drop (suc i) xs)))

-- one more
pub parts_more : {X : Type 0} (f : X → List ℕ) (xs : List X) (i : ℕ) (d : X) → i < length xs
    → flat_map f (take i xs) ++ f (get_or xs i d) ≡ flat_map f (take (i + 1) xs)
parts_more {X} f xs i d h =
    let next : suc i ≡ i + 1 = omega arith in by xs i h ∙ ap (λ n. flat_map f (take n xs)) next
  where
    by : (xs : List X) (i : ℕ) → i < length xs → flat_map f (take i xs) ++ f (get_or xs i d) ≡ flat_map f (take (suc i) xs)
    by [] i h = absurd (omega arith)
    by (x ∷ xs) zero h = sym (append-nil (f x))
    by (x ∷ xs) (suc i) h =
        append_assoc (f x) (flat_map f (take i xs)) (f (get_or xs i d)) ∙ ap (λ t. f x ++ t) (by xs i (omega arith))

-- lines that each have at most m bytes
pub lines_long : {X : Type 0} (f : X → List ℕ) (P : X → Type 0) (m : ℕ) → ((x : X) → P x → length (f x) ≤ m) → (xs : List X)
    → All P xs → length (flat_map f xs) ≤ length xs * m
lines_long f P m line [] all = omega arith
lines_long f P m line (x ∷ xs) all =
    let first = line x (All-head P x xs all) in
    let rest = lines_long f P m line xs (All-tail P x xs all) in
    omega (arith, length-append (f x) (flat_map f xs), suc-mul (length xs) m, first, rest)
