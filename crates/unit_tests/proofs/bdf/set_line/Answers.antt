use Rattle.std.proofs.Common.{◌≡◌, ◌∙◌, ℕ, List, length, sym, subst, ap, arith}
use Rattle.std.proofs.lemmas.List.{with_items_is}
use Rattle.fx_winding.specs.Bitmaps.{AreRowWords}
use Rattle.fx_winding.specs.declared.frame.Frame.{Frame}
use Rattle.unit_tests.proofs.bdf.set_line.Goals as goal

pub set_row-requires-clause-words : goal.set_row-requires-clause-words
set_row-requires-clause-words g c =
    let line = c.deref.ensures.value ∙ with_items_is c.in_ok-words.words c.paint.new.words (omega arith) in
    let width = ap (λ (f : Frame). f.width) c.frame-frame.ensures.value in
    let wide : length c.args.line.now ≡ c.args.bitmap.now.frame.width = omega (arith, width) in
    subst (λ (l : List ℕ). AreRowWords c.args.bitmap.now.frame.width l) (sym line)
    (subst (λ (w : ℕ). AreRowWords w c.paint.new.words) wide c.paint.ensures)
