-- A piece at the end of what was put into a buffer is put too: `put_more`.
-- Serves `put_utf8`.
use Rattle.std.proofs.Common.{◌≡◌, ◌∙◌, sym, ap, arith, ℕ, ◌+◌, ◌≤◌, List, ◌++◌, length, take, drop, length-append, length-drop}
use Rattle.std.proofs.lemmas.List.{append_assoc, length-take-le, take-append-drop}
use Rattle.std.proofs.Math.Seq.{take-append_seam, drop-append_seam}

-- a list in two parts, whose first has a length
in_parts : (front rest : List ℕ) (n : ℕ) → length front ≡ n
    → (take n (front ++ rest) ≡ front) × (drop n (front ++ rest) ≡ rest)
in_parts front rest n h = (
  ap (λ (m : ℕ). take m (front ++ rest)) (sym h) ∙ take-append_seam front rest,
  ap (λ (m : ℕ). drop m (front ++ rest)) (sym h) ∙ drop-append_seam front rest,
)

pub put_more : (text piece new : List ℕ) (count : ℕ) → count + length piece ≤ length text
    → new ≡ take count text ++ (piece ++ drop (count + length piece) text)
    → (take (count + length piece) new ≡ take count text ++ piece)
    × (drop (count + length piece) new ≡ drop (count + length piece) text)
    × (length new ≡ length text)
put_more text piece new count fits is =
    let n = count + length piece in
    let front = take count text ++ piece in
    let taken = length-take-le count text (omega (arith, fits)) in
    let long : length front ≡ count + length piece = omega (arith, length-append (take count text) piece, taken) in
    let parts = in_parts front (drop n text) n long in
    let joined : new ≡ front ++ drop n text = is ∙ sym (append_assoc (take count text) piece (drop n text)) in (
      ap (take n) joined ∙ parts.0,
      ap (drop n) joined ∙ parts.1,
      ap length joined ∙ omega (arith, length-append front (drop n text), long, length-drop n text, fits),
    )

-- the whole was put
pub put_all : (whole old new : List ℕ) (count : ℕ) → take count new ≡ whole → drop count new ≡ drop count old → count ≡ length whole
    → new ≡ whole ++ drop (length whole) old
put_all whole old new count front rest is =
    sym (take-append-drop count new) ∙ (λ j. front j ++ rest j) ∙ ap (λ (n : ℕ). whole ++ drop n old) is
