-- Columns settled one by one, at the differences that are not 0, give a word the bits of all its sums: `settled`.
-- Serves the words that are settled.
use Rattle.std.proofs.Common.{◌≡◌, ◌≢◌, ◌⊎◌, inl, inr, refl, sym, ap, ◌∙◌, ℕ, zero, suc, ◌+◌, ◌-◌, ◌*◌, ◌<◌, ◌≤◌, ℤ, pos, ◌+ℤ◌}
use Rattle.std.proofs.Common.{List, length, get_or, set, arith, ◌/◌, ◌%◌, max, bit_or}
use Rattle.std.specs.Int.{bit_at}
use Rattle.std.proofs.lemmas.List.{get_or-set_other, get_or-set_same}
use Rattle.std.proofs.lemmas.Nat.Bits.{bit_at-zero, bit_at-lt, bit_at_or}
use Rattle.fx_fixed.proofs.Order.{below_or_not}
use Rattle.fx_fixed.proofs.Linear.{signed_linear}
use Rattle.fx_winding.specs.Bitmaps.{word_bit}
use Rattle.fx_rows.specs.inner.Sums.{before, sum_of, count_bit, AreEmptiedTo, IsFirstBit}
use Rattle.fx_rows.proofs.Masks.{word_more}
use Rattle.fx_rows.proofs.Sums.{before_more}

-- numbers that are 0 add nothing
pub sum_none : (xs : List ℤ) (from n m : ℕ) → n ≤ m → ((i : ℕ) → n ≤ i → i < m → get_or xs (from + i) (pos 0) ≡ pos 0)
    → sum_of xs from m ≡ sum_of xs from n
unfolding sum_of
sum_none xs from n zero h z = let e : 0 ≡ n = omega arith in ap (sum_of xs from) e
sum_none xs from n (suc m) h z = by (below_or_not m n) (λ l. sum_none xs from n m l (λ i a b. z i a (omega arith)))
  where
    by : (m < n) ⊎ (n ≤ m) → (n ≤ m → sum_of xs from m ≡ sum_of xs from n) → sum_of xs from (suc m) ≡ sum_of xs from n
    by (inl l) r = let e : suc m ≡ n = omega arith in ap (sum_of xs from) e
    by (inr l) r = let rest = r l in let last = z m l (omega arith) in omega (arith, signed_linear, rest, last)

pub sum_zero : (xs : List ℤ) (from : ℕ) → sum_of xs from 0 ≡ pos 0
unfolding sum_of
sum_zero xs from = refl

pub sum_next : (xs : List ℤ) (from n : ℕ) → sum_of xs from (n + 1) ≡ sum_of xs from n +ℤ get_or xs (from + n) (pos 0)
unfolding sum_of
sum_next xs from n = let e : n + 1 ≡ suc n = omega arith in ap (sum_of xs from) e

pub sum_first : (xs : List ℤ) (from : ℕ) → sum_of xs from 1 ≡ get_or xs from (pos 0)
sum_first xs from =
    let e : from + 0 ≡ from = omega arith in
    let z = sum_zero xs from in
    let n = sum_next xs from 0 ∙ ap (λ (k : ℕ). sum_of xs from 0 +ℤ get_or xs k (pos 0)) e in
    omega (arith, signed_linear, z, n)

pub before_sum : (xs : List ℤ) (from n : ℕ) → before (from + n) xs ≡ before from xs +ℤ sum_of xs from n
unfolding sum_of
before_sum xs from zero =
    let e : from + 0 ≡ from = omega arith in
    let s : before (from + 0) xs ≡ before from xs = ap (λ (k : ℕ). before k xs) e in
    omega (arith, signed_linear, s)
before_sum xs from (suc n) =
    let e : from + suc n ≡ suc (from + n) = omega arith in
    let s : before (from + suc n) xs ≡ before (suc (from + n)) xs = ap (λ (k : ℕ). before k xs) e in
    let more = before_more (from + n) xs in
    let rest = before_sum xs from n in
    omega (arith, signed_linear, s, more, rest)

-- ---- the columns of a word, those before p settled
pub record Settling (diff : List ℤ) (from : ℕ) (start count : ℤ) (bits left p : ℕ) : Type 0 where
  pub few : p ≤ 32
  pub sum : count ≡ start +ℤ sum_of diff from p
  pub done : (i : ℕ) → i < p → bit_at bits (31 - i) ≡ count_bit (start +ℤ sum_of diff from (i + 1)) 0
  pub rest : (i : ℕ) → p ≤ i → i < 32 → bit_at bits (31 - i) ≡ count_bit count 0
  pub visited : (i : ℕ) → i < p → bit_at left i ≡ 0
  pub none : (i : ℕ) → p ≤ i → i < 32 → bit_at left i ≡ 0 → get_or diff (from + i) (pos 0) ≡ pos 0

abbrev pub IsSettling : List ℤ → ℕ → ℤ → ℤ → ℕ → ℕ → Type 0
IsSettling diff from start count bits left = (p : ℕ) × Settling diff from start count bits left p

-- the first column settled
pub settling_first : (diff : List ℤ) (from : ℕ) (start count : ℤ) (bits left : ℕ)
    → count ≡ start +ℤ get_or diff from (pos 0) → ((i : ℕ) → i < 32 → bit_at bits (31 - i) ≡ count_bit count 0)
    → bit_at left 0 ≡ 0
    → ((i : ℕ) → 0 < i → i < 32 → bit_at left i ≡ 0 → get_or diff (from + i) (pos 0) ≡ pos 0)
    → IsSettling diff from start count bits left
settling_first diff from start count bits left c b f n = (
  1,
  record {
    few = omega arith;
    sum = whole;
    done = λ i h. let e : 0 ≡ i = omega arith in b i (omega arith) ∙ ap (λ (z : ℤ). count_bit z 0) whole ∙
        ap (λ (j : ℕ). count_bit (start +ℤ sum_of diff from (j + 1)) 0) e;
    rest = λ i h l. b i l;
    visited = λ i h. let e : 0 ≡ i = omega arith in ap (λ (j : ℕ). bit_at left j) (sym e) ∙ f;
    none = λ i h l z. n i (omega arith) l z;
  },
)
  where
    whole : count ≡ start +ℤ sum_of diff from 1
    whole = let e = sum_first diff from in omega (arith, signed_linear, c, e)

not_before : (left p k : ℕ) → ((i : ℕ) → i < p → bit_at left i ≡ 0) → bit_at left k ≡ 1 → p ≤ k
not_before left p k v bit = grind (arith, below_or_not k p)

-- the sum up to a column whose bit is the first that is set
pub count_to : (diff : List ℤ) (from : ℕ) (start count : ℤ) (bits left k : ℕ)
    → IsSettling diff from start count bits left → IsFirstBit left k → count ≡ start +ℤ sum_of diff from k
count_to diff from start count bits left k (p, s) first =
    grind (arith, signed_linear, s, first, not_before left p k s.visited first.set, sum_none)

-- the count at a column whose bit is the first that is set
pub count_at : (diff : List ℤ) (from : ℕ) (start count : ℤ) (bits left k : ℕ)
    → IsSettling diff from start count bits left → IsFirstBit left k
    → count +ℤ get_or diff (from + k) (pos 0) ≡ start +ℤ sum_of diff from (k + 1)
count_at diff from start count bits left k h first =
    let c = count_to diff from start count bits left k h first in
    let n = sum_next diff from k in
    omega (arith, signed_linear, c, n)

pub settling_more : (diff : List ℤ) (from : ℕ) (start count count' : ℤ) (bits bits' left left' k : ℕ)
    → IsSettling diff from start count bits left → IsFirstBit left k → count' ≡ count +ℤ get_or diff (from + k) (pos 0)
    → ((i : ℕ) → i < k → bit_at bits' (31 - i) ≡ bit_at bits (31 - i))
    → ((i : ℕ) → k ≤ i → i < 32 → bit_at bits' (31 - i) ≡ count_bit count' 0)
    → ((i : ℕ) → i ≤ k → bit_at left' i ≡ 0)
    → ((i : ℕ) → k < i → i < 32 → bit_at left' i ≡ bit_at left i) → IsSettling diff from start count' bits' left'
settling_more diff from start count count' bits bits' left left' k (p, s) first c low high gone others = (
  k + 1,
  record {
    few = let l = first.within in omega (arith, l);
    sum = whole;
    done = λ i h. by_done i h (below_or_not i k) (below_or_not i p);
    rest = λ i h m. high i (omega arith) m;
    visited = λ i h. gone i (omega arith);
    none = λ i h m z. s.none i (omega (arith, after)) m (sym (others i (omega arith) m) ∙ z);
  },
)
  where
    after : p ≤ k
    after = not_before left p k s.visited first.set

    whole : count' ≡ start +ℤ sum_of diff from (k + 1)
    whole = c ∙ count_at diff from start count bits left k (p, s) first

    by_done : (i : ℕ) → i < k + 1 → (i < k) ⊎ (k ≤ i) → (i < p) ⊎ (p ≤ i)
        → bit_at bits' (31 - i) ≡ count_bit (start +ℤ sum_of diff from (i + 1)) 0
    by_done i h (inl x) (inl y) = low i x ∙ s.done i y
    by_done i h (inl x) (inr y) =
        let e = sum_none diff from p (i + 1) (omega arith)
        (λ j u v. s.none j u (omega (arith, first.within)) (first.before j (omega arith))) in
        let m = s.sum in
        let same : count ≡ start +ℤ sum_of diff from (i + 1) = omega (arith, signed_linear, e, m) in
        low i x ∙ s.rest i y (omega (arith, first.within)) ∙ ap (λ (z : ℤ). count_bit z 0) same
    by_done i h (inr x) y =
        let e : k ≡ i = omega arith in
        high i x (omega (arith, first.within)) ∙ ap (λ (z : ℤ). count_bit z 0) whole
        ∙ ap (λ (j : ℕ). count_bit (start +ℤ sum_of diff from (j + 1)) 0) e

-- the differences of a word whose columns are left have stayed, and the others are 0
pub record Emptying (old new : List ℤ) (from left : ℕ) : Type 0 where
  pub due : (i : ℕ) → i < 32 → bit_at left i ≡ 1 → get_or new (from + i) (pos 0) ≡ get_or old (from + i) (pos 0)
  pub done : (i : ℕ) → i < 32 → bit_at left i ≡ 0 → get_or new (from + i) (pos 0) ≡ pos 0
  pub others : (k : ℕ) → (k < from) ⊎ (from + 32 ≤ k) → get_or new k (pos 0) ≡ get_or old k (pos 0)

pub emptying_first : (old new : List ℤ) (from touched left : ℕ) → get_or new from (pos 0) ≡ pos 0
    → ((k : ℕ) → k ≢ from → get_or new k (pos 0) ≡ get_or old k (pos 0))
    → ((i : ℕ) → 0 < i → i < 32 → bit_at touched i ≡ 0 → get_or old (from + i) (pos 0) ≡ pos 0)
    → ((i : ℕ) → i ≤ 0 → bit_at left i ≡ 0)
    → ((i : ℕ) → 0 < i → i < 32 → bit_at left i ≡ bit_at touched i) → Emptying old new from left
emptying_first old new from touched left here same none gone rest = grind (arith, signed_linear, here, same, none, gone, rest)

pub emptying_more : (old new new' : List ℤ) (from left left' c : ℕ) → Emptying old new from left
    → get_or new' (from + c) (pos 0) ≡ pos 0
    → ((k : ℕ) → k ≢ from + c → get_or new' k (pos 0) ≡ get_or new k (pos 0)) → IsFirstBit left c
    → ((i : ℕ) → i ≤ c → bit_at left' i ≡ 0)
    → ((i : ℕ) → c < i → i < 32 → bit_at left' i ≡ bit_at left i) → Emptying old new' from left'
emptying_more old new new' from left left' c s here same first gone rest =
    grind (arith, signed_linear, s, here, same, first, gone, rest)

-- ---- a settled word
pub record Settled (diff : List ℤ) (from : ℕ) (start count : ℤ) (bits : ℕ) : Type 0 where
  pub word : (i : ℕ) → i < 32 → bit_at bits (31 - i) ≡ count_bit (start +ℤ sum_of diff from (i + 1)) 0
  pub sum : count ≡ start +ℤ sum_of diff from 32

pub settled : (diff : List ℤ) (from : ℕ) (start count : ℤ) (bits left : ℕ) → left ≡ 0
    → IsSettling diff from start count bits left → Settled diff from start count bits
settled diff from start count bits left zeros h = grind (arith, signed_linear, zeros, h, bit_at-zero, sum_none)

-- ---- words, those before w settled
pub record SettledTo (diff : List ℤ) (line lining : List ℕ) (count : ℤ) (w : ℕ) : Type 0 where
  pub sum : count ≡ before (32 * w) diff
  pub bits : (k : ℕ) → k < 32 * w → word_bit lining k ≡ count_bit (before (k + 1) diff) (word_bit line k)
  pub rest : (v : ℕ) → w ≤ v → get_or lining v 0 ≡ get_or line v 0

-- a sum in the next word
pub word_sum : (diff : List ℤ) (line lining : List ℕ) (count : ℤ) (w n : ℕ) → SettledTo diff line lining count w
    → count +ℤ sum_of diff (32 * w) n ≡ before (32 * w + n) diff
word_sum diff line lining count w n s = grind (arith, signed_linear, s, before_sum)

max_with_count_bit : (z : ℤ) (b d : ℕ) → b < 2 → d ≡ count_bit z 0 → max b d ≡ count_bit z b
max_with_count_bit z b d h e = grind (arith, signed_linear, h, e)

pub settled_more : (diff : List ℤ) (line lining : List ℕ) (count count' : ℤ) (w word : ℕ)
    → SettledTo diff line lining count w → w < length lining
    → ((i : ℕ) → i < 32 → bit_at word (31 - i) ≡ count_bit (count +ℤ sum_of diff (32 * w) (i + 1)) 0)
    → count' ≡ count +ℤ sum_of diff (32 * w) 32
    → SettledTo diff line (set lining w (bit_or (get_or lining w 0) word)) count' (w + 1)
settled_more diff line lining count count' w word s long bits c = record {
  sum = let e : 32 * w + 32 ≡ 32 * (w + 1) = omega arith in
      c ∙ word_sum diff line lining count w 32 s ∙ ap (λ (n : ℕ). before n diff) e;
  bits = λ k h. word_more (λ j. count_bit (before (j + 1) diff) (word_bit line j)) lining w
      (bit_or (get_or lining w 0) word) (32 * (w + 1)) long (omega arith) s.bits by_bits k h;
  rest = λ v h. let ne : v ≢ w = omega arith in get_or-set_other lining w v (bit_or (get_or lining w 0) word) 0 ne ∙
      s.rest v (omega arith);
}
  where
    by_bits : (i : ℕ) → i < 32 → 32 * w + i < 32 * (w + 1)
        → bit_at (bit_or (get_or lining w 0) word) (31 - i)
        ≡ count_bit (before (32 * w + i + 1) diff) (word_bit line (32 * w + i))
    by_bits i h l =
        let z = before (32 * w + i + 1) diff in
        let b = word_bit line (32 * w + i) in
        let at : (32 * w + i) / 32 ≡ w = omega arith in
        let place : (32 * w + i) % 32 ≡ i = omega arith in
        let next : 32 * w + (i + 1) ≡ 32 * w + i + 1 = omega arith in
        let same = s.rest w (omega arith) in
        let old : bit_at (get_or lining w 0) (31 - i) ≡ b =
        ap (λ n. bit_at n (31 - i)) same ∙ sym (λ j. bit_at (get_or line (at j) 0) (31 - place j)) in
        let new : bit_at word (31 - i) ≡ count_bit z 0 =
        bits i h ∙ ap (λ (y : ℤ). count_bit y 0)
        (word_sum diff line lining count w (i + 1) s ∙ ap (λ (n : ℕ). before n diff) next) in
        bit_at_or (get_or lining w 0) word (31 - i)
        ∙ ap (λ n. max n (bit_at word (31 - i))) old
        ∙ max_with_count_bit z b (bit_at word (31 - i)) (bit_at-lt (get_or line ((32 * w + i) / 32) 0) (31 - (32 * w + i) % 32)) new

-- ---- the differences of the words before w are 0
pub emptied_more : (old new new' : List ℤ) (w : ℕ) → AreEmptiedTo (32 * w) old new
    → ((i : ℕ) → i < 32 → get_or new' (32 * w + i) (pos 0) ≡ pos 0)
    → ((k : ℕ) → (k < 32 * w) ⊎ (32 * w + 32 ≤ k) → get_or new' k (pos 0) ≡ get_or new k (pos 0))
    → AreEmptiedTo (32 * (w + 1)) old new'
emptied_more old new new' w s zeros same = record {
  done = λ k h. grind (arith, below_or_not k (32 * w), same k, s.done k, zeros (k - 32 * w));
  rest = λ k h. same k (inr (omega arith)) ∙ s.rest k (omega arith);
}

-- sums from a place on do not see what came before it
pub sum_same : (old new : List ℤ) (from n : ℕ) → ((k : ℕ) → from ≤ k → get_or new k (pos 0) ≡ get_or old k (pos 0))
    → sum_of new from n ≡ sum_of old from n
unfolding sum_of
sum_same old new from zero h = refl
sum_same old new from (suc n) h =
    let e = sum_same old new from n h in
    let k = h (from + n) (omega arith) in
    (λ i. e i +ℤ k i)

-- the words of bits before w are 0
pub untouched_more : (touched : List ℕ) (w : ℕ) → w < length touched → ((v : ℕ) → v < w → get_or touched v 0 ≡ 0) → (v : ℕ)
    → v < w + 1 → get_or (set touched w 0) v 0 ≡ 0
untouched_more touched w long s v h =
    grind (arith, below_or_not v w, get_or-set_other touched w v 0 0, get_or-set_same touched w 0 0 long, s v)

pub touched_more : (old touched : List ℕ) (w : ℕ) → ((v : ℕ) → w ≤ v → get_or touched v 0 ≡ get_or old v 0) → (v : ℕ)
    → w + 1 ≤ v → get_or (set touched w 0) v 0 ≡ get_or old v 0
touched_more old touched w s v h = let ne : v ≢ w = omega arith in get_or-set_other touched w v 0 0 ne ∙ s v (omega arith)
