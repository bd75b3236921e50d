use Rattle.std.proofs.Common.{◌≡◌, ◌∙◌, ◌↔◌, sym, ap, subst, ◌+◌, ◌*◌, ◌/◌, ◌%◌, ◌<◌, ℕ, List, length, map, arith}
use Rattle.std.proofs.lemmas.List.{with_items_is}
use Rattle.fx_winding.specs.Bitmaps.{words_for, word_bit}
use Rattle.fx_winding.specs.Turned.{turned_span}
use Rattle.fx_winding.specs.Notes.{AreExact, IsMetOf}
use Rattle.fx_winding.specs.Winding.{Span, span_of}
use Rattle.fx_winding.proofs.Numbered.{exact_noted, few_words, turned_margin}
use Rattle.fx_winding.proofs.notes.Notes.of.Goals as goal

pub note_rows-requires-clause-few : goal.note_rows-requires-clause-few
note_rows-requires-clause-few c = grind (arith, c.deref_mut.ensures.value, few_words)

pub note_rows-requires-clause-clear : goal.note_rows-requires-clause-clear
note_rows-requires-clause-clear c = λ i. ap (λ (ws : List ℕ). word_bit ws i) c.deref_mut.ensures.value
    ∙ c.in_ok-notes.ensures.across i

pub note_columns-requires-clause-margin : goal.note_columns-requires-clause-margin
note_columns-requires-clause-margin c = grind (arith, c.turned-columns.ensures, c.requires, turned_margin)

pub note_columns-requires-clause-few : goal.note_columns-requires-clause-few
note_columns-requires-clause-few c = grind (arith, c.deref_mut-2.ensures.value, few_words)

pub note_columns-requires-clause-clear : goal.note_columns-requires-clause-clear
note_columns-requires-clause-clear c = λ i. ap (λ (ws : List ℕ). word_bit ws i) c.deref_mut-2.ensures.value
    ∙ c.in_ok-notes.ensures.up i

pub returns-clause-exact : goal.returns-clause-exact
returns-clause-exact c =
    let n = c.in_ok-notes.notes in
    let f = c.args.frame in
    let ss = map span_of c.args.pieces.now in
    let at = c.turned-columns.ensures in
    let size : 32 * c.words_for-size.result ≡ 32 * words_for f.width = ap (λ (w : ℕ). 32 * w) c.words_for-size.ensures in
    let same = c.in_ok-notes.ensures.frame in
    let long : length c.deref_mut.result.now ≡ f.height * words_for f.width =
    ap length c.deref_mut.ensures.value ∙ n.across_room ∙ (λ i. (same i).height * words_for (same i).width) in
    let high : length c.deref_mut-2.result.now ≡ (f.height + 1) * words_for f.width =
    ap length c.deref_mut-2.ensures.value ∙ n.up_room ∙ (λ i. ((same i).height + 1) * words_for (same i).width) in
    let rows = c.note_rows.new.bits in
    let columns = c.note_columns.new.bits in
    let across = subst (λ (w : ℕ). (i : ℕ) → i < 32 * length c.deref_mut.result.now
    → (word_bit rows i ≡ 1) ↔ IsMetOf f ss (i / w) (i % w)) size c.note_rows.ensures in
    let turned = subst (λ (ts : List Span). (i : ℕ) → i < 32 * length c.deref_mut-2.result.now
    → (word_bit columns i ≡ 1)
    ↔ IsMetOf c.turned-columns.result ts (i % (32 * c.words_for-size.result)) (i / (32 * c.words_for-size.result)))
    c.in_ok-exchanged.ensures c.note_columns.ensures in
    let up = subst (λ (w : ℕ). (i : ℕ) → i < 32 * length c.deref_mut-2.result.now
    → (word_bit columns i ≡ 1) ↔ IsMetOf c.turned-columns.result (map turned_span ss) (i % w) (i / w)) size turned in
    let a = sym (with_items_is n.across rows (omega arith)) in
    let u = sym (with_items_is n.up columns (omega arith)) in
    subst (λ (z : List ℕ × List ℕ). AreExact f z.0 z.1 ss) (λ i. (a i, u i))
    (exact_noted f c.turned-columns.result ss rows columns _ _ at.left at.bottom at.width at.height long high across up)
