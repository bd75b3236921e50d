-- Bits of notes that stay set stay noted (`noted_kept`), and a bit that is set is of a segment that a piece meets (`says_more`).
-- Serves `note`, `note_across` and `note_up`.
use Rattle.std.proofs.Common.{◌≡◌, inl, inr, ◌∙◌, sym, ap, subst, ℕ, ◌+◌, ◌*◌, ◌<◌, ◌≤◌, pos, ◌+ℤ◌, ◌-ℤ◌, List, arith}
use Rattle.fx_fixed.proofs.Order.{below_same_above}
use Rattle.std.proofs.Math.Nat.{mul-le-mul_right}
use Rattle.fx_winding.specs.declared.frame.Frame.{Frame}
use Rattle.fx_winding.specs.Turned.{turned_span}
use Rattle.fx_winding.specs.Meets.{IsMet}
use Rattle.fx_winding.specs.Notes.{pixel_number, IsNotedAcross, IsNotedUp}
use Rattle.fx_winding.specs.Bitmaps.{words_for}
use Rattle.fx_winding.specs.Winding.{Span, IsOn, centre}
use Rattle.fx_rows.specs.inner.Lines.{left_at, right_at, AreOnly, GainOnly, IsAcrossBit, IsMetTo, IsMetUnlessOn, IsRowsBit, IsUpBit}
use Rattle.fx_rows.specs.inner.Telling.{Way, across_row, up_to_row, IsNotedBy, IsAmong, AreMetAcross, AreMetUp}
use Rattle.fx_rows.specs.inner.Telling.{BitsSay, Lasts, Saying, of_frame, of_pieces, met_in, noted}
use Rattle.fx_rows.specs.inner.Told.{AreKept}
use Rattle.fx_rows.proofs.Turned.{on_turned}

-- ---- what stays noted
pub across_kept : (s : Span) (f : Frame) (r : ℕ) (a b : List ℕ) → AreKept a b → IsNotedAcross s f a r → IsNotedAcross s f b r
across_kept s f r a b kept h k l m = kept (pixel_number f r k) (h k l m)

pub up_kept : (s : Span) (f : Frame) (r : ℕ) (a b : List ℕ) → AreKept a b → IsNotedUp s f a r → IsNotedUp s f b r
up_kept s f r a b kept h k l m = kept (pixel_number f r k) (h k l m)

pub noted_kept : (f : Frame) (a b u v : List ℕ) (s : Span) (w : Way) (r : ℕ) → AreKept a b → AreKept u v → IsNotedBy f a u s w r
    → IsNotedBy f b v s w r
noted_kept f a b u v s across_row r across up h = λ l. across_kept s f r a b across (h l)
noted_kept f a b u v s up_to_row r across up h = λ l. up_kept s f r u v up (h l)

-- ---- the bits of a row lie in its words
pub row_room : (r h width row n : ℕ) → r < h → row ≡ 32 * words_for width → n ≡ h * words_for width → r * row + width < 32 * n
row_room r h width row n l e all =
    let rows : (r + 1) * words_for width ≤ h * words_for width = mul-le-mul_right (words_for width) (omega (arith, l)) in
    let next : (r + 1) * words_for width ≡ r * words_for width + words_for width = omega arith in
    let at : r * row ≡ 32 * (r * words_for width) = ap (λ (x : ℕ). r * x) e ∙ omega arith in
    omega (arith, rows, next, at, all)

-- ---- the bits are of segments that some piece meets
same_cell : (w r q k j : ℕ) → k < w → j < w → r * w + k ≡ q * w + j → (r ≡ q) × (k ≡ j)
same_cell w r q k j l m e = elim (below_same_above r q) [
  | inl a ↦
      let n : (r + 1) * w ≤ q * w = mul-le-mul_right w (omega (arith, a)) in
      let next : (r + 1) * w ≡ r * w + w = omega arith in
      absurd (omega (arith, n, next, e, l))
  | inr (inl a) ↦ let same = ap (λ (x : ℕ). x * w) a in (a, omega (arith, same, e))
  | inr (inr a) ↦
      let n : (q + 1) * w ≤ r * w = mul-le-mul_right w (omega (arith, a)) in
      let next : (q + 1) * w ≡ q * w + w = omega arith in
      absurd (omega (arith, n, next, e, m))
]

-- those across the rows of a frame
pub some_rows : (s : Span) (ss : List Span) (f : Frame) (a b : List ℕ) → IsAmong s ss → AreOnly (IsAcrossBit s f) a b
    → AreMetAcross f a ss → AreMetAcross f b ss
some_rows s ss f a b among only old r k l set = elim (only (pixel_number f r k) set) [
  | inl was ↦ old r k l was
  | inr new ↦
      let line = new.line in
      let number : new.r * (32 * words_for f.width) + line.k * 1 ≡ new.r * (32 * words_for f.width) + line.k = omega arith in
      let place = same_cell (32 * words_for f.width) r new.r k line.k l (omega (arith, line.within)) (line.at ∙ number) in
      let row = sym place.0 in
      let column = sym place.1 in (
        omega (arith, column, line.within),
        record {
          piece = s;
          among = among;
          met = subst (λ z. z) (λ i. ¬ (IsOn (left_at f (f.bottom +ℤ pos (row i)) (column i)) s)
              → ¬ (IsOn (right_at f (f.bottom +ℤ pos (row i)) (column i)) s)
              → IsMetTo s f (f.bottom +ℤ pos (row i)) (column i)) line.met;
        },
      )
]

-- those up to the rows of a frame
pub some_up : (s : Span) (ss : List Span) (f : Frame) (a b : List ℕ) → IsAmong s ss → AreOnly (IsUpBit s f) a b
    → AreMetUp f a ss → AreMetUp f b ss
some_up s ss f a b among only old r k w set = elim (only (pixel_number f r k) set) [
  | inl was ↦ old r k w was
  | inr new ↦
      let place = same_cell (32 * words_for f.width) r new.r k new.k w (omega (arith, new.column)) new.at in
      let row = sym place.0 in
      let column = sym place.1 in (
        omega (arith, column, new.column),
        record {
          piece = s;
          among = among;
          met = subst (λ z. z) (λ i. IsMetUnlessOn s f (row i) (column i)) new.met;
        },
      )
]

-- the bit of a segment of a column, seen as a row of the exchanged piece
pub up_bit : (s : Span) (f g : Frame) (n : ℕ) → g.left ≡ f.bottom → g.bottom ≡ f.left → g.width ≡ f.height → g.height ≡ f.width
    → IsRowsBit (turned_span s) g 1 (32 * words_for f.width) n → IsUpBit s f n
up_bit s f g n el eb ew eh new =
    let line = new.line in
    let at = line.at in record {
      r = line.k;
      k = new.r;
      column = subst (λ (n : ℕ). new.r < n) eh new.row;
      at = omega (arith, at);
      met = λ off off'. record {
        met = subst (λ z. z) (λ i. IsMet (centre ((el i -ℤ pos 1) +ℤ pos line.k) (eb i +ℤ pos new.r))
            (centre (el i +ℤ pos line.k) (eb i +ℤ pos new.r)) (turned_span s))
            (line.met (λ on. off (on_turned (centre (f.left +ℤ pos new.r) ((f.bottom -ℤ pos 1) +ℤ pos line.k)) s
            (subst (λ z. z) (λ i. IsOn (centre ((el i -ℤ pos 1) +ℤ pos line.k) (eb i +ℤ pos new.r)) (turned_span s)) on)))
            (λ on. off' (on_turned (centre (f.left +ℤ pos new.r) (f.bottom +ℤ pos line.k)) s
            (subst (λ z. z) (λ i. IsOn (centre (el i +ℤ pos line.k) (eb i +ℤ pos new.r)) (turned_span s)) on))));
        off_lower = off;
        off_upper = off';
      };
    }

-- ---- what is said after a piece is noted
pub says_more : (A : Span → Way → Type 0) (s : Span) (f : Frame) (a b u v : List ℕ) → GainOnly (IsAcrossBit s f) a b
    → GainOnly (IsUpBit s f) u v → (x : Saying) → Lasts s x → BitsSay A f a u x → BitsSay A f b v x
says_more A s f a b u v g h (of_frame k) lasts old = old
says_more A s f a b u v g h (of_pieces ss) among old =
    record { rows = some_rows s ss f a b among g.only old.rows; columns = some_up s ss f u v among h.only old.columns }
says_more A s f a b u v g h (met_in t row) lasts old = λ r l e. across_kept t f r a b g.kept (old r l e)
says_more A s f a b u v g h (noted t w r) lasts old = (
  noted_kept f a b u v t w r g.kept h.kept old.0,
  λ apart q. noted_kept f a b u v t w q g.kept h.kept (old.1 apart q),
)
