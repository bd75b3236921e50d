use Rattle.std.proofs.Common.{◌≡◌, ◌∙◌, ◌+◌, ◌++◌, ◌∷◌, ◌≤◌, ℕ, List, length, take, drop, ap, sym, arith, encode_utf8_all}
use Rattle.std.proofs.Common.{drop-drop, length-append}
use Rattle.std.proofs.lemmas.List.{append_assoc, append-nil}
use Rattle.fx_names.specs.Text.{chars_of, utf8_of}
use Rattle.fx_names.proofs.Putting.{put_all, put_more}
use Rattle.fx_names.proofs.Units.{chars_none}
use Rattle.fx_names.proofs.utf16.put_utf8.Goals as goal

pub chars-preserved : goal.chars-preserved
chars-preserved c =
    let piece = c.encode_utf8-piece.result.now in
    let count = c.chars.count in
    let left = c.after-rest.result.now in
    let next : utf8_of c.chars.rest.now ≡ piece ++ utf8_of left =
    ap encode_utf8_all
    (c.first_char-first.ensures.chars ∙ ap (λ (bs : List ℕ). c.first_char-first.result.0 ∷ chars_of bs) (sym c.after-rest.ensures))
    ∙ ap (λ (bs : List ℕ). bs ++ utf8_of left) (sym c.encode_utf8-piece.ensures.value) in
    let long : length (utf8_of c.chars.rest.now) ≡ length piece + length (utf8_of left) =
    ap length next ∙ length-append piece (utf8_of left) in
    let fits : count + length piece ≤ length c.chars.text =
    omega (arith, long, c.chars.invariant.counted, c.chars.invariant.same, c.requires) in
    let more = put_more c.chars.text piece c.put_over.new.bytes count fits
    (rw c.as_bytes.ensures.value at c.put_over.ensures) in
    record {
      front =
          ap (λ (bs : List ℕ). bs ++ utf8_of left) more.0
          ∙ append_assoc (take count c.chars.text) piece (utf8_of left)
          ∙ ap (λ (bs : List ℕ). take count c.chars.text ++ bs) (sym next) ∙ c.chars.invariant.front;
      rest =
          more.1 ∙ sym (drop-drop (length piece) count c.chars.text) ∙ ap (drop (length piece)) c.chars.invariant.rest
          ∙ drop-drop (length piece) count c.args.text.now;
      counted = omega (arith, long, c.chars.invariant.counted);
      same = more.2 ∙ c.chars.invariant.same;
    }

pub returns : goal.returns
returns c =
    let none = ap encode_utf8_all (chars_none c.chars.rest.now (omega (arith, c.chars-test.false))) in
    put_all (utf8_of c.args.string.now) c.args.text.now c.chars.text c.chars.count
    (sym (append-nil (take c.chars.count c.chars.text)) ∙ ap (λ (bs : List ℕ). take c.chars.count c.chars.text ++ bs) (sym none)
    ∙ c.chars.invariant.front)
    c.chars.invariant.rest (omega (arith, c.chars.invariant.counted, ap length none))
