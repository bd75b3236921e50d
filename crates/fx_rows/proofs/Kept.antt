-- Bits that two steps keep stay set (`kept_both`), and what is new after both is what either may set (`only_both`).
-- Serves the notes of segments.
use Rattle.std.proofs.Common.{◌≡◌, ◌≢◌, inl, inr, ℕ, ◌+◌, ◌<◌, ◌≤◌, List, arith}
use Rattle.std.proofs.Math.Logic.{⊎_map}
use Rattle.fx_fixed.proofs.Order.{below_or_not, below_same_above}
use Rattle.fx_winding.specs.Bitmaps.{word_bit}
use Rattle.fx_winding.specs.Winding.{Span}
use Rattle.fx_rows.specs.declared.noted_rows.NotedRow.{NotedRow}
use Rattle.fx_rows.specs.inner.Lines.{AreOnly, GainOnly, IsMetTo, NotesAt}
use Rattle.fx_rows.specs.inner.Told.{AreKept}

pub kept_both : (a b c : List ℕ) → AreKept a b → AreKept b c → AreKept a c
kept_both a b c h k n e = k n (h n e)

-- what holds of each row before one, and of that
pub rows_more : (P : ℕ → Type 0) (first at : ℕ) → ((r : ℕ) → first ≤ r → r < at → P r) → P at
    → (r : ℕ) → first ≤ r → r < at + 1 → P r
rows_more P first at before here r h l = grind (arith, before, here, h, l, below_or_not r at)

-- of rows before some, of these, and of those after them
pub rows_three : (P : ℕ → Type 0) (low m n high : ℕ) → ((r : ℕ) → low ≤ r → r < m → P r) → ((r : ℕ) → m ≤ r → r < n → P r)
    → ((r : ℕ) → n ≤ r → r < high → P r) → (r : ℕ) → low ≤ r → r < high → P r
rows_three P low m n high a b c r l h = grind (arith, a, b, c, l, h, below_or_not r m)

-- the bits that are new in one step after the other
pub only_both : (P : ℕ → Type 0) (a b c : List ℕ) → AreOnly P a b → AreOnly P b c → AreOnly P a c
only_both P a b c h k n e = elim (k n e) [ inl o ↦ h n o | inr o ↦ inr o ]

pub only_more : (P Q : ℕ → Type 0) (a b : List ℕ) → ((n : ℕ) → P n → Q n) → AreOnly P a b → AreOnly Q a b
only_more P Q a b f h n e = ⊎_map (λ o. o) (f n) (h n e)

-- one bit is set, and the others stay
pub only_one : (P : ℕ → Type 0) (a b : List ℕ) (i : ℕ) → P i → ((n : ℕ) → n ≢ i → word_bit b n ≡ word_bit a n) → AreOnly P a b
only_one P a b i here others n e = grind (arith, here, others, n, e, below_same_above n i)

pub kept_one : (a b : List ℕ) (i : ℕ) → word_bit b i ≡ 1 → ((n : ℕ) → n ≢ i → word_bit b n ≡ word_bit a n) → AreKept a b
kept_one a b i here others n e = grind (arith, here, others, n, e, below_same_above n i)

-- ---- both
pub gain_none : (P : ℕ → Type 0) (a : List ℕ) → GainOnly P a a
gain_none P a = record { kept = λ n e. e; only = λ n e. inl e }

pub gain_both : (P : ℕ → Type 0) (a b c : List ℕ) → GainOnly P a b → GainOnly P b c → GainOnly P a c
gain_both P a b c h k = record { kept = kept_both a b c h.kept k.kept; only = only_both P a b c h.only k.only }

pub gain_more : (P Q : ℕ → Type 0) (a b : List ℕ) → ((n : ℕ) → P n → Q n) → GainOnly P a b → GainOnly Q a b
gain_more P Q a b f h = record { kept = h.kept; only = only_more P Q a b f h.only }

-- a look at segments that the piece does not meet
pub notes_none : (s : Span) (line : NotedRow) (At : ℕ → Type 0) (bits : List ℕ)
    → ((k : ℕ) → k ≤ line.frame.width → At k → ¬ (IsMetTo s line.frame line.row k)) → NotesAt s line At bits bits
notes_none s line At bits none = record { noted = λ k l at off off' met. absurd (none k l at met); gained = gain_none _ bits }
