-- The lines of some rows, written over the bytes of a buffer, are added to the text: `adds_lines`.
-- Serves `put_words`, the lines of rows and `add_rows`.
use Rattle.std.proofs.Common.{◌≡◌, ℕ, suc, ◌+◌, ◌-◌, ◌*◌, ◌/◌, ◌<◌, ◌≤◌, refl, List, [], ◌∷◌, ◌++◌, Bool, length}
use Rattle.std.proofs.Common.{take, drop, get_or, sym, ap, ◌∙◌, arith}
use Rattle.std.proofs.Common.{append_assoc, length-drop, get_or-drop, Ok}
use Rattle.std.specs.List.{flat_map}
use Rattle.std.specs.Simd.Lanes.{put_chunk}
use Rattle.std.proofs.lemmas.Simd.{take_more_put_chunk}
use Rattle.std.proofs.lemmas.Grind.{flat_map-append}
use Rattle.std.proofs.lemmas.List.{take-append-drop, length-take-le, take-take}
use Rattle.std.proofs.Math.Nat.{le-div_iff_mul-le}
use Rattle.std.proofs.Math.Seq.{take-append-add, take-add}
use Rattle.fx_bdf.specs.Text.{row_text}
use Rattle.fx_fixed.specs.Texts.{TextView, Adds, Fails, with_more}
use Rattle.fx_fixed.proofs.Texts.{adds_then, adds_text, adds_more}
use Rattle.fx_fixed.proofs.Writing.{parts_more}
use Rattle.fx_bdf.specs.inner.Lines.{lines_between, word_text}
use Rattle.fx_bdf.specs.inner.RowWords.{IsWordOf}
use Rattle.fx_bdf.proofs.RowDigits.{word_whole}

-- ---- pieces written over bytes

-- some of the bytes that stand after the first ones
pub fewer : (at c n m : ℕ) (bytes front text : List ℕ) → length front ≡ at → n ≡ at + c → n ≤ m → take m bytes ≡ front ++ text
    → take n bytes ≡ front ++ take c text
fewer at c n m bytes front text long e less is =
    let here : n ≡ length front + c = omega (arith, long) in
    sym (take-take n m bytes less) ∙ (λ t. take (here t) (is t)) ∙ take-append-add front text c

-- a piece after others
pub joined : {text all : List ℕ} (front done piece : List ℕ) → text ≡ front ++ done → done ++ piece ≡ all
    → text ++ piece ≡ front ++ all
joined front done piece e f =
    ap (λ (t : List ℕ). t ++ piece) e ∙ append_assoc front done piece ∙ ap (λ (t : List ℕ). front ++ t) f

-- some of the lanes that were written over the bytes
pub lanes_over : (at c n : ℕ) (bytes lanes piece : List ℕ) → lanes ≡ piece → at + length piece ≤ length bytes → c ≤ length piece
    → n ≡ at + c → take n (put_chunk at bytes lanes) ≡ take at bytes ++ take c piece
lanes_over at c n bytes lanes piece is fits few e =
    ap (λ (l : List ℕ). take n (put_chunk at bytes l)) is
    ∙ fewer at c n (at + length piece) (put_chunk at bytes piece) (take at bytes) piece (length-take-le at bytes (omega arith)) e
    (omega arith) (take_more_put_chunk at bytes piece _ refl fits)

-- LF was written after them
pub line_ended : (at n : ℕ) (bytes new rest front text : List ℕ) → at ≤ length bytes → n ≡ at + 1 → take at bytes ≡ front ++ text
    → new ≡ take at bytes ++ 10 ∷ rest → take n new ≡ front ++ (text ++ 10 ∷ [])
line_ended at n bytes new rest front text inside e is over =
    let here : n ≡ length (take at bytes) + 1 = omega (arith, length-take-le at bytes inside) in
    (λ t. take (here t) (over t)) ∙ take-append-add (take at bytes) (10 ∷ rest) 1 ∙ joined front text (10 ∷ []) is refl

-- two of a list more
pub two_more : {X : Type 0} (f : X → List ℕ) (xs : List X) (k n : ℕ) (d : X) → k + 2 ≡ n → n ≤ length xs
    → flat_map f (take k xs) ++ (f (get_or xs k d) ++ f (get_or xs (k + 1) d)) ≡ flat_map f (take n xs)
two_more f xs k n d e inside =
    grind (arith, e, inside, parts_more f xs k d, parts_more f xs (k + 1) d, append_assoc)

-- ---- lines of rows one after the other

-- how many lines fit into a room
pub lines_fit : (room digits k : ℕ) → k < (room - 6) / (digits + 1) → k * (digits + 1) + digits + 7 ≤ room
lines_fit room digits k h = grind (arith, h, le-div_iff_mul-le {k = digits + 1} {x = suc k} {y = room - 6})

-- a line ends where the next one begins
pub line_end : (start first i digits end now : ℕ) → first ≤ i → end ≡ start + (i - first) * (digits + 1) → now ≡ end + (digits + 1)
    → now ≡ start + (i + 1 - first) * (digits + 1)
line_end start first i digits end now order e n =
    let next : i + 1 - first ≡ suc (i - first) = omega (arith, order) in
    let more : start + suc (i - first) * (digits + 1) ≡ end + (digits + 1) = omega (arith, e) in
    n ∙ sym more ∙ ap (λ (k : ℕ). start + k * (digits + 1)) (sym next)

-- within the bytes that there are
pub line_inside : (start p digits end now long : ℕ) → end ≡ start + p → now ≡ end + (digits + 1) → start + (p + digits + 7) ≤ long
    → now ≤ long
line_inside start p digits end now long e n h = omega (arith, e, n, h)

-- a row's line by its only word
pub row_by_word : (rows : List (List Bool)) (i digits w : ℕ) (row : List Bool) (lanes : List ℕ) → row ≡ get_or rows i []
    → IsWordOf 0 row w → digits ≤ 8 → (length (get_or rows i []) + 7) / 8 * 2 ≡ digits → lanes ≡ word_text w
    → take digits lanes ++ 10 ∷ [] ≡ row_text (get_or rows i [])
row_by_word rows i digits w row lanes same word few d is =
    ap (λ (t : List ℕ). take digits t ++ 10 ∷ []) is
    ∙ ap (λ (t : List ℕ). t ++ 10 ∷ []) (word_whole row w digits word few (ap (λ (r : List Bool). (length r + 7) / 8 * 2) same ∙ d))
    ∙ ap row_text same

-- the lines before a row and from it on
pub lines_split : (rows : List (List Bool)) (i : ℕ)
    → flat_map row_text (take i rows) ++ flat_map row_text (drop i rows) ≡ flat_map row_text rows
lines_split rows i = grind (arith, flat_map-append row_text (take i rows) (drop i rows), take-append-drop i rows)

-- one line more
pub lines_more : (rows : List (List Bool)) (first next end : ℕ) (front now new : List ℕ) → first ≤ next
    → next < length rows → next + 1 ≡ end → now ≡ front ++ lines_between rows first next
    → new ≡ now ++ row_text (get_or rows next []) → new ≡ front ++ lines_between rows first end
lines_more rows first next end front now new order inside e text added =
    let rest = drop first rows in
    let k = next - first in
    grind (
      arith,
      order,
      inside,
      e,
      text,
      added,
      append_assoc,
      parts_more row_text rest k [],
      get_or-drop first rows k [],
      length-drop first rows,
    )

-- the lines from the first on, and those from one up to another
lines_joined : (rows : List (List Bool)) (first next : ℕ) → first ≤ next
    → flat_map row_text (take first rows) ++ lines_between rows first next ≡ flat_map row_text (take next rows)
lines_joined rows first next order = grind (arith, order, flat_map-append, take-add first (next - first) rows)

-- they are added after those that were added before
pub adds_lines : {was now next : TextView} (rows : List (List Bool)) (first end : ℕ) → first ≤ end
    → Adds Fails was now (flat_map row_text (take first rows)) (Ok tt) → next ≡ with_more now (lines_between rows first end)
    → Adds Fails was next (flat_map row_text (take end rows)) (Ok tt)
adds_lines rows first end order added more = adds_text (lines_joined rows first end order) (adds_then added (adds_more more))
