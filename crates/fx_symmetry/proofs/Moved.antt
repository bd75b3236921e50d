-- What drop-out control sets moves with the pieces (`set_moved`), and stays if they are reversed (`reversal_keeps_set`).
-- Serves the law `dropout`.
use Rattle.std.proofs.Common.{◌≡◌, ◌↔◌, refl, ap, subst, ℕ, ℤ, pos, ◌+ℤ◌, ◌-ℤ◌, List, [], ◌∷◌, map, Any, arith}
use Rattle.std.specs.List.Sorted.{IsPermutation}
use Rattle.std.proofs.Math.Logic.{⊎_map}
use Rattle.std.proofs.lemmas.List.Sorted.{IsPermutation-map, IsPermutation-sym}
use Rattle.fx_fixed.proofs.Linear.{signed_linear}
use Rattle.fx_winding.specs.Turned.{turned_span}
use Rattle.fx_winding.specs.Frames.{IsInFrame}
use Rattle.fx_winding.specs.Meets.{IsMet}
use Rattle.fx_winding.specs.Moves.{reversed}
use Rattle.fx_winding.specs.Winding.{Span, IsCovered, centre}
use Rattle.fx_winding.proofs.Covers.{any_map, any_unmap, any_permutation}
use Rattle.fx_winding.proofs.Meeting.{reversal_meets}
use Rattle.fx_winding.proofs.Reversal.{reversal_keeps_cover}
use Rattle.fx_dropout.specs.declared.chooser.Closing.{Closing}
use Rattle.fx_dropout.specs.declared.chooser.Closing.TheVariants.{Lower, Nearer}
use Rattle.fx_dropout.specs.Dropout.{IsGap, IsNextChosen, IsNextNearer, IsBridged, IsSetIn, IsClosedByLeft}
use Rattle.fx_dropout.specs.Dropout.{IsClosedByRight, IsRowSetIn, place_on}
use Rattle.fx_dropout.proofs.Counts.{count_iff}
use Rattle.fx_symmetry.specs.Dropout.{ReversalKeepsSet}

-- ---- moved
-- where the same places are covered
pub nearer_along : (ss ts : List Span) (col row i j : ℤ)
    → ((n : ℕ) → IsCovered (place_on col row n) ss ↔ IsCovered (place_on i j n) ts) → IsNextNearer ss col row → IsNextNearer ts i j
nearer_along ss ts col row i j e h = grind (arith, e, h, count_iff)

pub chosen_along : (closing : Closing) (ss ts : List Span) (col row i j : ℤ)
    → ((n : ℕ) → IsCovered (place_on col row n) ss ↔ IsCovered (place_on i j n) ts)
    → IsNextChosen closing ss col row ↔ IsNextChosen closing ts i j
chosen_along Lower ss ts col row i j e = (λ h. h, λ h. h)
chosen_along Nearer ss ts col row i j e =
    (nearer_along ss ts col row i j e, nearer_along ts ss i j col row (λ n. ((e n).1, (e n).0)))

-- a piece passes between two neighbours of a row
abbrev pub AreMet : List Span → ℤ → ℤ → Type 0
AreMet ss i j = Any (IsMet (centre i j) (centre (i +ℤ pos 1) j)) ss

-- what holds of pixels, moved
abbrev pub IsMoved : (ℤ → ℤ) → (ℤ → ℤ) → (ℤ → ℤ → Type 0) → (ℤ → ℤ → Type 0) → Type 0
IsMoved m n P Q = (i j : ℤ) → Q (m i) (n j) ↔ P i j

-- neighbours stay neighbours
abbrev pub KeepsNext : (ℤ → ℤ) → Type 0
KeepsNext m = (i : ℤ) → m (i +ℤ pos 1) ≡ m i +ℤ pos 1

-- a row closed, where what is inside, nearer, set so far and a gap is moved
pub closed_moved : (m n : ℤ → ℤ) → KeepsNext m → (ss ts : List Span) (In To Near Far So At : ℤ → ℤ → Type 0)
    → IsMoved m n In To → IsMoved m n Near Far → IsMoved m n So At → IsMoved m n (IsGap ss So) (IsGap ts At)
    → IsMoved m n (IsBridged ss In Near So) (IsBridged ts To Far At)
closed_moved m n after ss ts In To Near Far So At inside near so gap i j = grind (arith, so i j, inside i j, left, last)
  where
    next : To (m i +ℤ pos 1) (n j) ↔ In (i +ℤ pos 1) j
    next = subst (λ z. To z (n j) ↔ In (i +ℤ pos 1) j) (after i) (inside (i +ℤ pos 1) j)

    left : IsClosedByLeft ts To Far At (m i) (n j) ↔ IsClosedByLeft ss In Near So i j
    left = (
      λ c. record { gap = (gap i j).0 c.gap; chosen = ⊎_map (λ k h. k ((near i j).1 h)) (λ k h. k (next.1 h)) c.chosen },
      λ c. record { gap = (gap i j).1 c.gap; chosen = ⊎_map (λ k h. k ((near i j).0 h)) (λ k h. k (next.0 h)) c.chosen },
    )

    before : m (i -ℤ pos 1) ≡ m i -ℤ pos 1
    before =
        let e = after (i -ℤ pos 1) in
        let f : m ((i -ℤ pos 1) +ℤ pos 1) ≡ m i = ap m (omega (arith, signed_linear)) in
        omega (arith, signed_linear, e, f)

    right : (i : ℤ) → IsClosedByRight ts To Far At (m i) (n j) ↔ IsClosedByRight ss In Near So i j
    right i = (
      λ c. record { gap = (gap i j).0 c.gap; chosen = ⊎_map (near i j).0 (λ k h. k ((inside i j).1 h)) c.chosen },
      λ c. record { gap = (gap i j).1 c.gap; chosen = ⊎_map (near i j).1 (λ k h. k ((inside i j).0 h)) c.chosen },
    )

    last : IsClosedByRight ts To Far At (m i -ℤ pos 1) (n j) ↔ IsClosedByRight ss In Near So (i -ℤ pos 1) j
    last = subst (λ z. IsClosedByRight ts To Far At z (n j) ↔ IsClosedByRight ss In Near So (i -ℤ pos 1) j) before
        (right (i -ℤ pos 1))

-- pieces moved one by one, exchanged
pub turned_map : (f g : Span → Span) → ((s : Span) → turned_span (f s) ≡ g (turned_span s)) → (ss : List Span)
    → map turned_span (map f ss) ≡ map g (map turned_span ss)
turned_map f g one [] = refl
turned_map f g one (s ∷ ss) = λ i. one s i ∷ turned_map f g one ss i

-- the gaps of rows, and the pixels chosen for them, moved
pub record AreRowsMoved (closing : Closing) (m n : ℤ → ℤ) (ss ts : List Span) : Type 0 where
  pub chosen : IsMoved m n (IsNextChosen closing ss) (IsNextChosen closing ts)
  pub met : IsMoved m n (AreMet ss) (AreMet ts)

-- where these and what is set so far are moved, a closed row is
row_moved : (closing : Closing) (m n : ℤ → ℤ) → KeepsNext m → (ss ts : List Span) (In To So At : ℤ → ℤ → Type 0)
    → IsMoved m n In To → IsMoved m n So At → AreRowsMoved closing m n ss ts
    → IsMoved m n (IsBridged ss In (IsNextChosen closing ss) So) (IsBridged ts To (IsNextChosen closing ts) At)
row_moved closing m n after ss ts In To So At inside so rows =
    closed_moved m n after ss ts In To (IsNextChosen closing ss) (IsNextChosen closing ts) So At inside rows.chosen so
    (λ i j. grind (arith, after i, so i j, so (i +ℤ pos 1) j, rows.met i j))

-- so what is set is moved
pub set_moved : (closing : Closing) (m n : ℤ → ℤ) → KeepsNext m → KeepsNext n → (ss ts : List Span) (In To : ℤ → ℤ → Type 0)
    → IsMoved m n In To → IsMoved m n (λ i j. IsCovered (centre i j) ss) (λ i j. IsCovered (centre i j) ts)
    → AreRowsMoved closing m n ss ts → AreRowsMoved closing n m (map turned_span ss) (map turned_span ts)
    → IsMoved m n (IsSetIn closing ss In) (IsSetIn closing ts To)
set_moved closing m n after above ss ts In To inside covered rows columns i j =
    row_moved closing n m above (map turned_span ss) (map turned_span ts) (λ j i. In i j) (λ j i. To i j)
    (λ j i. IsRowSetIn closing ss In i j) (λ j i. IsRowSetIn closing ts To i j) (λ j i. inside i j)
    (λ j i. row_moved closing m n after ss ts In To (λ i j. IsCovered (centre i j) ss) (λ i j. IsCovered (centre i j) ts) inside
    covered rows i j) columns j i

-- ---- reversed
-- what holds of a piece and of the piece reversed alike
any_reversed : (P : Span → Type 0) → ((s : Span) → P (reversed s) ↔ P s) → (ss ts : List Span) → IsPermutation (map reversed ss) ts
    → Any P ts ↔ Any P ss
any_reversed P e ss ts h = (
  λ a. any_unmap reversed P P (λ s. (e s).0) ss
      (any_permutation P ts (map reversed ss) (IsPermutation-sym (map reversed ss) ts h) a),
  λ a. any_permutation P (map reversed ss) ts h (any_map reversed P P (λ s. (e s).1) ss a),
)

rows_reversed : (closing : Closing) (ss ts : List Span) → IsPermutation (map reversed ss) ts
    → AreRowsMoved closing (λ i. i) (λ j. j) ss ts
rows_reversed closing ss ts h = record {
  chosen = λ i j. chosen_along closing ts ss i j i j (λ n. reversal_keeps_cover (place_on i j n) ss ts h);
  met = λ i j. let p = centre i j in let q = centre (i +ℤ pos 1) j in
      any_reversed (IsMet p q) (λ s. reversal_meets p q s) ss ts h;
}

pub reversal_keeps_set : ReversalKeepsSet
reversal_keeps_set closing ss ts f h =
    set_moved closing (λ i. i) (λ j. j) (λ i. refl) (λ j. refl) ss ts (IsInFrame f) (IsInFrame f) (λ i j. (λ k. k, λ k. k))
    (λ i j. reversal_keeps_cover (centre i j) ss ts h) (rows_reversed closing ss ts h)
    (rows_reversed closing (map turned_span ss) (map turned_span ts) (subst (λ us. IsPermutation us (map turned_span ts))
    (turned_map reversed reversed (λ s. refl) ss) (IsPermutation-map turned_span (map reversed ss) ts h)))
