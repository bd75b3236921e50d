-- The words after a block's first six are those that it was made of: `words_are`.
-- Serves `words_for`.
use Rattle.std.proofs.Common.{◌≡◌, refl, ap, sym, ◌∙◌, subst, arith, ℕ, ◌/◌, ◌%◌, ◌^◌, ◌==◌, Bool, true, false, ◌&&◌}
use Rattle.std.proofs.Common.{List, [], ◌∷◌, ◌++◌, length, drop, Some, None, if◌then◌else◌}
use Rattle.std.specs.Prelude.{nat_le}
use Rattle.std.proofs.lemmas.Bool.{eqb-true, eq-eqb, le-leb}
use Rattle.fx_sfnt.specs.Collections.{face_in}
use Rattle.fx_machine.specs.Words.{bit_of}
use Rattle.fx_request.specs.declared.request.Mode.{Mode}
use Rattle.mkstrike_c.specs.Prepared.{AreWordsOf, BeginsFor, IsBlock, IsFor, block_form, origin_words}
use Rattle.mkstrike_c.specs.inner.Origin.{after_origin, has_origin}

equal : (n : ℕ) → (n == n) ≡ true
equal n = eq-eqb n n refl

same_some : {x y : List ℕ} → Some x ≡ Some y → x ≡ y
same_some e = cc

origin_said : (file : List ℕ) (face ppem : ℕ) (hinting : Bool) (ws : List ℕ)
    → has_origin file face ppem hinting (origin_words file face ppem hinting ++ ws) ≡ true
origin_said file face ppem hinting ws = rw (
  equal face,
  equal ppem,
  equal (bit_of hinting),
  equal (length file / 2 ^ 32),
  equal (length file % 2 ^ 32),
) refl

six_there : (a b c d e f : ℕ) (ws : List ℕ) → nat_le 6 (length (a ∷ b ∷ c ∷ d ∷ e ∷ f ∷ ws)) ≡ true
six_there a b c d e f ws = le-leb 6 _ (omega arith)

origin_back : (file : List ℕ) (face ppem : ℕ) (hinting : Bool) (ws : List ℕ)
    → after_origin file face ppem hinting (origin_words file face ppem hinting ++ ws) ≡ Some ws
unfolding after_origin
origin_back file face ppem hinting ws = rw (
  six_there block_form face ppem (bit_of hinting) (length file / 2 ^ 32) (length file % 2 ^ 32) ws,
  origin_said file face ppem hinting ws,
) refl

module _ (file : List ℕ) (face ppem : ℕ) (mode : Mode) (block : List ℕ) (b : IsBlock file face ppem mode block) where
  there : after_origin file face ppem mode.hinting block ≡ Some b.words
  there = ap (after_origin file face ppem mode.hinting) b.is ∙ origin_back file face ppem mode.hinting b.words

  -- the words after them are there
  pub words_there : None ≡ after_origin file face ppem mode.hinting block → ⊥
  words_there e = let f : None ≡ Some b.words = e ∙ there in cc

-- ---- a block that is taken

if_some : (x : Bool) (a ws : List ℕ) → Some ws ≡ (if x then Some a else None) → x ≡ true
if_some true a ws e = refl
if_some false a ws e = cc

then_some : (x : Bool) (a ws : List ℕ) → Some ws ≡ (if x then Some a else None) → ws ≡ a
then_some true a ws e = same_some e
then_some false a ws e = cc

-- the words are those that a block has after the first six
pub words_are : (file : List ℕ) (face ppem : ℕ) (hinting : Bool) (block ws : List ℕ)
    → Some ws ≡ after_origin file face ppem hinting block → (f : List ℕ) (i s : ℕ) (m : Mode) → IsBlock f i s m block
    → AreWordsOf (face_in f i) s m ws
unfolding after_origin
words_are file face ppem hinting block ws e f i s m b =
    let rest : ws ≡ b.words = then_some _ (drop 6 block) ws e ∙ ap (drop 6) b.is in
    subst (AreWordsOf (face_in f i) s m) (sym rest) b.are

right_one : (a b : Bool) → (a && b) ≡ true → b ≡ true
right_one true b e = e
right_one false b e = cc

all_six : (a b c d e f : Bool) → (a && b && c && d && e && f) ≡ true
    → (b ≡ true) × (c ≡ true) × (d ≡ true) × (e ≡ true) × (f ≡ true)
all_six true true true true true true h = (refl, refl, refl, refl, refl)
all_six true true true true true false h = cc
all_six true true true true false f h = cc
all_six true true true false e f h = cc
all_six true true false d e f h = cc
all_six true false c d e f h = cc
all_six false b c d e f h = cc

all_said : (a b c d e f : Bool) → (a && b && c && d && e && f) ≡ true
    → (a ≡ true) × ((b ≡ true) × (c ≡ true) × (d ≡ true) × (e ≡ true) × (f ≡ true))
all_said true b c d e f h = (refl, all_six true b c d e f h)
all_said false b c d e f h = cc

-- the words begin as a block for this
form_said : (file : List ℕ) (face ppem : ℕ) (hinting : Bool) (ws : List ℕ) → (nat_le 6 (length ws)
    && has_origin file face ppem hinting ws) ≡ true
    → ws ≡ origin_words file face ppem hinting ++ drop 6 ws
form_said file face ppem hinting [] h = absurd cc
form_said file face ppem hinting (a ∷ []) h = absurd cc
form_said file face ppem hinting (a ∷ b ∷ []) h = absurd cc
form_said file face ppem hinting (a ∷ b ∷ c ∷ []) h = absurd cc
form_said file face ppem hinting (a ∷ b ∷ c ∷ d ∷ []) h = absurd cc
form_said file face ppem hinting (a ∷ b ∷ c ∷ d ∷ e ∷ []) h = absurd cc
form_said file face ppem hinting (a ∷ b ∷ c ∷ d ∷ e ∷ f ∷ ws) h =
    let all = right_one (nat_le 6 (length (a ∷ b ∷ c ∷ d ∷ e ∷ f ∷ ws)))
    (has_origin file face ppem hinting (a ∷ b ∷ c ∷ d ∷ e ∷ f ∷ ws)) h in
    let six = all_said (a == block_form) (b == face) (c == ppem) (d == bit_of hinting) (e == length file / 2 ^ 32)
    (f == length file % 2 ^ 32) all in
    rw (
      eqb-true a block_form six.0,
      eqb-true b face six.1.0,
      eqb-true c ppem six.1.1,
      eqb-true d (bit_of hinting) six.1.2,
      eqb-true e (length file / 2 ^ 32) six.1.3,
      eqb-true f (length file % 2 ^ 32) six.1.4,
    ) refl

pub begins_for : (file : List ℕ) (face ppem : ℕ) (hinting : Bool) (block ws : List ℕ)
    → Some ws ≡ after_origin file face ppem hinting block → BeginsFor file face ppem hinting block
unfolding after_origin
begins_for file face ppem hinting block ws e =
    (drop 6 block, form_said file face ppem hinting block (if_some _ (drop 6 block) ws e))

same_bit : (h k : Bool) → bit_of h ≡ bit_of k → h ≡ k
same_bit true true e = refl
same_bit false false e = refl
same_bit true false e = absurd (omega (arith, e))
same_bit false true e = absurd (omega (arith, e))

same_length : (m n : ℕ) → m / 2 ^ 32 ≡ n / 2 ^ 32 → m % 2 ^ 32 ≡ n % 2 ^ 32 → m ≡ n
same_length m n high low = omega (arith, high, low)

pub origin_for : (file : List ℕ) (face ppem : ℕ) (hinting : Bool) (block ws : List ℕ)
    → Some ws ≡ after_origin file face ppem hinting block → IsFor file face ppem hinting block
unfolding after_origin
origin_for file face ppem hinting block ws e f i s m b =
    let all = right_one (nat_le 6 (length block)) (has_origin file face ppem hinting block) (if_some _ (drop 6 block) ws e) in
    let told : has_origin file face ppem hinting (origin_words f i s m.hinting ++ b.words) ≡ true =
    subst (λ w. has_origin file face ppem hinting w ≡ true) b.is all in
    let six = all_six (block_form == block_form) (i == face) (s == ppem) (bit_of m.hinting == bit_of hinting)
    (length f / 2 ^ 32 == length file / 2 ^ 32) (length f % 2 ^ 32 == length file % 2 ^ 32) told in (
      same_length (length f) (length file) (eqb-true (length f / 2 ^ 32) (length file / 2 ^ 32) six.3)
          (eqb-true (length f % 2 ^ 32) (length file % 2 ^ 32) six.4),
      eqb-true i face six.0,
      eqb-true s ppem six.1,
      same_bit m.hinting hinting (eqb-true (bit_of m.hinting) (bit_of hinting) six.2),
    )
