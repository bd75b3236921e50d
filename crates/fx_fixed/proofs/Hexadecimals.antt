-- Hexadecimal digits put from the last to the first, and zeros before them, are the number's text: `hex_all`.
-- Serves `put_hexadecimal`, which writes before what a buffer has from an offset on.
use Rattle.std.proofs.Common.{◌≡◌, ◌+◌, ◌-◌, ◌/◌, ◌%◌, ◌<◌, ◌≤◌, ◌++◌, ◌∷◌, [], zero, suc, length, length-drop, drop, replicate}
use Rattle.std.proofs.Common.{sym, ap, ◌∙◌, arith, List, ℕ, Bool, true, false, refl, if◌then◌else◌, ◌==◌, append_assoc, length-append}
use Rattle.std.proofs.Math.ListN.{set}
use Rattle.std.proofs.lemmas.Bool.{ne_eqb}
use Rattle.std.specs.Fmt.{digits, digits_onto, digit_glyph}
use Rattle.fx_fixed.specs.Lines.{hexadecimal}
use Rattle.fx_fixed.proofs.Decimals.{put_here}

-- a last digit, and one before which there are more
glyphs_last : (k n : ℕ) (acc : List ℕ) → 0 < k → n < 16 → digits_onto k 16 true n acc ≡ digit_glyph true n ∷ acc
glyphs_last zero n acc some low = absurd (omega arith)
glyphs_last (suc k) n acc some low =
    let none : n / 16 ≡ 0 = omega arith in
    let whole : n % 16 ≡ n = omega arith in
    rw (none, whole) refl

glyphs_more : (k n : ℕ) (acc : List ℕ) → 0 < k → 16 ≤ n
    → digits_onto k 16 true n acc ≡ digits_onto (k - 1) 16 true (n / 16) (digit_glyph true (n % 16) ∷ acc)
glyphs_more zero n acc some low = absurd (omega arith)
glyphs_more (suc k) n acc some low =
    let more : (n / 16 == 0) ≡ false = ne_eqb (n / 16) 0 (λ e. omega arith) in
    let less : k ≡ suc k - 1 = omega arith in
    ap (λ (t : Bool). if t then digit_glyph true (n % 16) ∷ acc else digits_onto k 16 true (n / 16)
    (digit_glyph true (n % 16) ∷ acc)) more
    ∙ ap (λ (i : ℕ). digits_onto i 16 true (n / 16) (digit_glyph true (n % 16) ∷ acc)) less

-- digits before a text
digits_by : (t : Bool) (first more text whole : List ℕ) → whole ≡ more ++ text
    → (if t then first ++ text else whole) ≡ (if t then first else more) ++ text
digits_by true first more text whole e = refl
digits_by false first more text whole e = e

digits_before : (k n : ℕ) (acc text : List ℕ) → digits_onto k 16 true n (acc ++ text) ≡ digits_onto k 16 true n acc ++ text
digits_before zero n acc text = refl
digits_before (suc k) n acc text =
    let first : List ℕ = digit_glyph true (n % 16) ∷ acc in
    digits_by (n / 16 == 0) first (digits_onto k 16 true (n / 16) first) text (digits_onto k 16 true (n / 16) (first ++ text))
    (digits_before k (n / 16) first text)

pub hex_text : (n : ℕ) (text : List ℕ) → digits_onto 64 16 true n text ≡ digits 16 true n ++ text
unfolding digits
hex_text n text = digits_before 64 n [] text

-- no digit was put
pub hex_none : (n end : ℕ) (text : List ℕ) → digits_onto (end + 64 - end) 16 true n text ≡ digits 16 true n ++ text
hex_none n end text =
    let all : end + 64 - end ≡ 64 = omega arith in
    ap (λ (i : ℕ). digits_onto i 16 true n text) all ∙ hex_text n text

-- one digit more was put
pub hex_more : (whole : List ℕ) (left at end v : ℕ) (buffer : List ℕ) → 0 < at → at ≤ length buffer → at ≤ end → end < at + 64
    → 16 ≤ left → v ≡ digit_glyph true (left % 16)
    → digits_onto (at + 64 - end) 16 true left (drop at buffer) ≡ whole
    → digits_onto (at - 1 + 64 - end) 16 true (left / 16) (drop (at - 1) (set buffer (at - 1) v)) ≡ whole
hex_more whole left at end v buffer some within order room low is h =
    let less : at - 1 + 64 - end ≡ at + 64 - end - 1 = omega arith in
    ap (λ (i : ℕ). digits_onto i 16 true (left / 16) (drop (at - 1) (set buffer (at - 1) v))) less
    ∙ ap (λ (d : List ℕ). digits_onto (at + 64 - end - 1) 16 true (left / 16) d)
    (put_here buffer at v some within ∙ ap (λ (d : ℕ). d ∷ drop at buffer) is)
    ∙ sym (glyphs_more (at + 64 - end) left (drop at buffer) (omega arith) low)
    ∙ h

-- the first digit was put
pub hex_first : (whole : List ℕ) (left at end v : ℕ) (buffer : List ℕ) → 0 < at → at ≤ length buffer → end < at + 64
    → left < 16 → v ≡ digit_glyph true left
    → digits_onto (at + 64 - end) 16 true left (drop at buffer) ≡ whole
    → drop (at - 1) (set buffer (at - 1) v) ≡ whole
hex_first whole left at end v buffer some within room low is h =
    put_here buffer at v some within
    ∙ ap (λ (d : ℕ). d ∷ drop at buffer) is
    ∙ sym (glyphs_last (at + 64 - end) left (drop at buffer) (omega arith) low)
    ∙ h

-- one zero more was put
pub zero_more : (first at : ℕ) (buffer digits : List ℕ) → 0 < at → at ≤ length buffer → at ≤ first
    → drop at buffer ≡ replicate (first - at) 48 ++ digits
    → drop (at - 1) (set buffer (at - 1) 48) ≡ replicate (first - (at - 1)) 48 ++ digits
zero_more first at buffer digits some within before h =
    let more : suc (first - at) ≡ first - (at - 1) = omega arith in
    put_here buffer at 48 some within ∙ ap (λ (d : List ℕ). 48 ∷ d) h ∙ ap (λ (k : ℕ). replicate k 48 ++ digits) more

-- as many zeros were put as were wanted
pub zeros_all : (first at end least : ℕ) (text digits : List ℕ) → at ≤ first → first ≤ end
    → first - at ≤ least - (end - first) → least ≤ end - at
    → text ≡ replicate (first - at) 48 ++ digits → text ≡ replicate (least - (end - first)) 48 ++ digits
zeros_all first at end least text digits before within few many h =
    let all : first - at ≡ least - (end - first) = omega arith in
    h ∙ ap (λ (k : ℕ). replicate k 48 ++ digits) all

-- digits, and zeros before them
pub hex_all : (least n first end : ℕ) (mid old text : List ℕ) → length mid ≡ length old → end ≤ length old → first ≤ end
    → drop first mid ≡ digits 16 true n ++ drop end old → text ≡ replicate (least - (end - first)) 48 ++ drop first mid
    → text ≡ hexadecimal least n ++ drop end old
unfolding hexadecimal
hex_all least n first end mid old text long inside order is e =
    let count : end - first ≡ length (digits 16 true n) =
    omega (
      arith,
      ap length is,
      length-append (digits 16 true n) (drop end old),
      length-drop first mid,
      length-drop end old,
      long,
    ) in
    e
    ∙ (λ i. replicate (least - count i) 48 ++ is i)
    ∙ sym (append_assoc (replicate (least - length (digits 16 true n)) 48) (digits 16 true n) (drop end old))
