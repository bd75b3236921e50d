use Rattle.std.proofs.Common.{◌≡◌, ◌∙◌, true, false, inl, inr, sym, subst, ◌+◌, ◌*◌, length, map, arith}
use Rattle.fx_winding.specs.Bitmaps.{words_for}
use Rattle.fx_winding.specs.Winding.{span_of}
use Rattle.fx_dropout.specs.Work.{gaps_work, sum_below, within}
use Rattle.fx_dropout.specs.inner.Closing.{stride, AreOpen}
use Rattle.fx_dropout.specs.inner.Segments.{segment_price}
use Rattle.fx_dropout.proofs.Priced.{all_within, past_within, some_within}
use Rattle.fx_dropout.proofs.Walked.{rows_priced, columns_priced, no_pixel, nothing_priced, scanned_by}
use Rattle.fx_dropout.proofs.work.closing_work.Goals as goal

pub returns-then-frame-eq0 : goal.returns-then-frame-eq0
returns-then-frame-eq0 c =
    let ss = map span_of c.args.pieces.now in
    let f = c.args.bitmap.now.frame in
    let none = no_pixel f (inl ((λ t. (sym c.frame-frame.ensures.value t).width) ∙ c.if-frame-eq0.true)) in
    let a = nothing_priced false f ss c.requires.around none in
    let b = nothing_priced true f ss c.requires.around none in
    all_within c.args.most c.args.work _ (omega (arith, a, b)) c.requires.few

pub returns-then-frame-eq0-2 : goal.returns-then-frame-eq0-2
returns-then-frame-eq0-2 c =
    let ss = map span_of c.args.pieces.now in
    let f = c.args.bitmap.now.frame in
    let none = no_pixel f (inr ((λ t. (sym c.frame-frame.ensures.value t).height) ∙ c.if-frame-eq0-2.true)) in
    let a = nothing_priced false f ss c.requires.around none in
    let b = nothing_priced true f ss c.requires.around none in
    all_within c.args.most c.args.work _ (omega (arith, a, b)) c.requires.few

pub returns-in_err-across : goal.returns-in_err-across
returns-in_err-across c =
    let ss = map span_of c.args.pieces.now in
    let f = c.frame-frame.result in
    let notes = c.args.notes.now in
    let words = c.words-words.result.now in
    let left = subst (λ xs. AreOpen 1 xs words c.lines_work.new.noted) c.deref_mut.ensures.value c.in_err-across.ensures.left in
    let given = scanned_by f ss c.args.bitmap.now words notes.across.items notes.up.items c.frame-frame.ensures.value
    c.words-words.ensures.value c.words-words.ensures.words c.requires.scanned c.requires.noted c.requires.margin c.requires.around
    c.if-frame-eq0.false c.if-frame-eq0-2.false in
    let same = c.requires.frame ∙ sym c.frame-frame.ensures.value in
    let a = rows_priced f ss words notes.across.items notes.up.items given c.lines_work.new.noted
    (notes.across_room ∙ (λ t. (same t).height * words_for (same t).width)) left in
    let none = past_within c.args.most _ (c.args.work + (gaps_work false ss + gaps_work true ss)) c.in_err-across.ensures.value
    (omega (arith, a)) in
    grind (arith, none, c.from_residual.ensures)

pub returns : goal.returns
returns c =
    let ss = map span_of c.args.pieces.now in
    let f = c.frame-frame.result in
    let notes = c.args.notes.now in
    let words = c.words-words.result.now in
    let given = scanned_by f ss c.args.bitmap.now words notes.across.items notes.up.items c.frame-frame.ensures.value
    c.words-words.ensures.value c.words-words.ensures.words c.requires.scanned c.requires.noted c.requires.margin c.requires.around
    c.if-frame-eq0.false c.if-frame-eq0-2.false in
    let same = c.requires.frame ∙ sym c.frame-frame.ensures.value in
    let left = subst (λ xs. AreOpen 1 xs words c.lines_work.new.noted) c.deref_mut.ensures.value c.in_ok-across.ensures.left in
    let left' = subst (λ xs. AreOpen (stride f) xs words c.lines_work-2.new.noted) c.deref_mut-2.ensures.value
    c.lines_work-2.ensures.left in
    let a = rows_priced f ss words notes.across.items notes.up.items given c.lines_work.new.noted
    (notes.across_room ∙ (λ t. (same t).height * words_for (same t).width)) left in
    let b = columns_priced f ss words notes.across.items notes.up.items given c.lines_work-2.new.noted
    (notes.up_room ∙ (λ t. ((same t).height + 1) * words_for (same t).width)) left' in
    let sum = (some_within c.args.most _ c.in_ok-across.across c.in_ok-across.ensures.value).0 in
    let all : c.in_ok-across.across + sum_below (32 * length c.lines_work-2.new.noted)
    (segment_price true f ss c.lines_work-2.new.noted) ≡ c.args.work + (gaps_work false ss + gaps_work true ss) =
    omega (arith, sum, a, b) in
    c.lines_work-2.ensures.value ∙ (λ t. within c.args.most (all t))
