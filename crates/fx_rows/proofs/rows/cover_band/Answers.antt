use Rattle.std.proofs.Common.{◌≡◌, ◌∙◌, inl, inr, get_or, ℕ, ◌+◌, ◌*◌, ◌<◌, ◌↔◌, subst, sym, ap, pos}
use Rattle.std.proofs.Common.{◌+ℤ◌, map, arith, ℤ, List, length}
use Rattle.std.specs.Vec.{with_items}
use Rattle.std.proofs.lemmas.List.{with_items_is}
use Rattle.fx_winding.specs.Bitmaps.{words_for, word_bit}
use Rattle.fx_winding.specs.Winding.{span_of, centre, IsCovered}
use Rattle.fx_winding.specs.declared.frame.Frame.{Frame}
use Rattle.fx_rows.specs.inner.Bands.{stride}
use Rattle.fx_rows.specs.inner.Sums.{before, count_bit}
use Rattle.fx_rows.proofs.Counted.{bit_covered}
use Rattle.fx_rows.proofs.Marking.{bit_off}
use Rattle.fx_rows.proofs.Banding.{number_in, after_last, past_marks}
use Rattle.fx_fixed.proofs.Order.{below_or_not}
use Rattle.fx_rows.proofs.rows.cover_band.Goals as goal

settled_bit : (new line marks marks' : List ℕ) (diff diff' : List ℤ) (n : ℕ) → new ≡ line → marks ≡ marks' → diff ≡ diff'
    → word_bit line n ≡ count_bit (before (n + 1) diff) (word_bit marks n)
    → word_bit new n ≡ count_bit (before (n + 1) diff') (word_bit marks' n)
settled_bit new line marks marks' diff diff' n el em ed h =
    ap (λ (ws : List ℕ). word_bit ws n) el ∙ h ∙ (λ i. count_bit (before (n + 1) (ed i)) (word_bit (em i) n))

pub returns-clause-clear : goal.returns-clause-clear
returns-clause-clear g c k =
    let b = c.count_band.new.band in
    let diff = c.settle.new.diff in
    let marks : length c.deref_mut-3.result.now ≡ length b.marks.items = ap length c.deref_mut-3.ensures.value in
    ap (λ (xs : List ℤ). get_or xs k (pos 0)) (with_items_is b.diff diff (omega arith))
    ∙ elim (below_or_not k (32 * length c.deref_mut-3.result.now)) [
      | inl l ↦ c.settle.ensures.emptied.done k l
      | inr l ↦ c.settle.ensures.emptied.rest k l ∙ ap (λ (xs : List ℤ). get_or xs k (pos 0)) c.deref_mut.ensures.value
          ∙ past_marks (map span_of c.args.pieces.now) c.args.band.now.frame b k
          (b.room ∙ ap (λ (x : Frame). x.height * words_for x.width) c.count_band.ensures.frame) c.count_band.ensures.counted
          (omega (arith, l, marks))
    ]

pub returns-clause-covered : goal.returns-clause-covered
returns-clause-covered g c =
    let b = c.count_band.new.band in
    let f = c.args.band.now.frame in
    let counted = c.count_band.ensures.counted in
    let room : length b.marks.items ≡ f.height * words_for f.width =
    b.room ∙ ap (λ (x : Frame). x.height * words_for x.width) c.count_band.ensures.frame in
    let long : length c.deref_mut-3.result.now ≡ length b.marks.items = ap length c.deref_mut-3.ensures.value in
    let whole : (r k : ℕ) → r < f.height → k < stride f.width → word_bit (with_items b.marks c.settle.new.line).items
    (r * stride f.width + k) ≡ count_bit (before (r * stride f.width + k + 1) b.diff.items)
    (word_bit b.marks.items (r * stride f.width + k)) = λ r k h l.
    let inside = number_in r f.height f.width k (length b.marks.items) h l room in
    settled_bit (with_items b.marks c.settle.new.line).items c.settle.new.line c.deref_mut-3.result.now b.marks.items
    c.deref_mut.result.now b.diff.items (r * stride f.width + k) (with_items_is b.marks c.settle.new.line (omega arith))
    c.deref_mut-3.ensures.value c.deref_mut.ensures.value
    (c.settle.ensures.bits (r * stride f.width + k) (omega (arith, inside, long))) in
    record {
      bits = λ r k h l.
          let p = centre (f.left +ℤ pos k) (f.bottom +ℤ pos r) in
          let spans = map span_of c.args.pieces.now in
          subst (λ (x : ℕ). (x ≡ 1) ↔ IsCovered p spans) (sym (whole r k h (omega (arith, l))))
          (bit_covered p spans _ _ (counted.turns r k h l) (counted.marks r k h l));
      unused = λ r k h w l.
          let beside = after_last f.width f.height r k w l in
          let none = counted.rest _ beside in
          let off = bit_off b.marks.items _ (counted.unused _ beside) in
          whole r k h l ∙ (λ i. count_bit (none i) (off i));
    }
