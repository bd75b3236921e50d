use Rattle.std.proofs.Common.{◌∙◌, sym, subst, map, IsTrue, ◌↔◌, false, true, ℤ, arith}
use Rattle.std.proofs.lemmas.Bool.Decides.{nat_tests}
use Rattle.fx_winding.specs.declared.frame.Frame.{Frame}
use Rattle.fx_winding.specs.Bitmaps.{Bits, AreWords, IsScanOf, bit_of, rows_of}
use Rattle.fx_winding.specs.Frames.{IsInFrame}
use Rattle.fx_winding.specs.Notes.{AreExact}
use Rattle.fx_winding.specs.Winding.{span_of}
use Rattle.fx_dropout.specs.declared.chooser.Chooser.{Chooser}
use Rattle.fx_dropout.specs.Dropout.{IsSet}
use Rattle.fx_dropout.specs.inner.Closing.{AreLinesClosed}
use Rattle.fx_dropout.proofs.Closed.{IsGiven, NoneOutside, closed_words, closed_pixels}
use Rattle.fx_dropout.proofs.noted.close_gaps.Goals as goal

abbrev chooser : goal.After-notes-3-1 → Chooser
chooser c = record { pieces = c.args.pieces; frame = c.frame-frame.result; closing = c.args.closing }

given : (c : goal.After-notes-3-1) → IsGiven (chooser c) c.args.notes.now.across.items c.args.notes.now.up.items
    c.into_words-words.result.items c.close_lines.new.words.items c.close_lines-2.new.words.items
given c =
    let ss = map span_of c.args.pieces.now in
    let old = c.into_words-words.result.items in
    let of = sym c.frame-frame.ensures.value in
    record {
      wide = grind (arith, c.if-frame-eq0.false, nat_tests);
      words = subst (λ (f : Frame). AreWords f.height f.width old) of c.into_words-words.ensures.words;
      scanned = subst (λ (f : Frame). IsScanOf f ss (record { frame = f; rows = rows_of f.height f.width old })) of
          (subst (IsScanOf c.args.bitmap.frame ss) c.into_words-words.ensures.value c.requires.scanned);
      noted = subst (λ (f : Frame). AreExact f c.args.notes.now.across.items c.args.notes.now.up.items ss) of c.requires.noted;
      rows = subst (λ xs. AreLinesClosed (chooser c) false xs old c.close_lines.new.words.items) c.deref_mut.ensures.value
          c.close_lines.ensures.closed;
      columns = subst (λ xs. AreLinesClosed (chooser c) true xs c.close_lines.new.words.items c.close_lines-2.new.words.items)
          c.deref_mut-2.ensures.value c.close_lines-2.ensures.closed;
    }

pub from_words-requires : goal.from_words-requires
from_words-requires c =
    closed_words (chooser c) _ _ _ _ _ (given c) (c.close_lines-2.ensures.closed.long ∙ c.close_lines.ensures.closed.long)

pub returns-clause-bits : goal.returns-clause-bits
returns-clause-bits c =
    let ss = map span_of c.args.pieces.now in
    subst (λ (f : Frame). NoneOutside f ss → (i j : ℤ) → IsInFrame f i j → IsTrue (bit_of c.from_words.result i j) ↔ IsSet
    c.args.closing ss f i j) c.frame-frame.ensures.value (λ outside i j inside.
    subst (λ (z : Bits). IsTrue (bit_of z i j) ↔ IsSet c.args.closing ss c.frame-frame.result i j) (sym c.from_words.ensures)
    (closed_pixels (chooser c.before) _ _ _ _ _ (given c.before) outside i j inside))
