use Rattle.std.proofs.Common.{◌≡◌, ◌⊎◌, inl, inr, ◌∙◌, ℕ, zero, suc, ◌+◌, ◌*◌, ◌-◌, ◌^◌, ◌<◌, ◌≤◌, subst, sym}
use Rattle.std.proofs.Common.{ap, pos, ◌+ℤ◌, map, length, get_or, arith}
use Rattle.std.proofs.Math.ListN.{get_or-map}
use Rattle.std.proofs.lemmas.List.{length-map, take_all}
use Rattle.fx_fixed.proofs.Linear.{signed_linear}
use Rattle.fx_fixed.specs.Ranges.{IsWithin}
use Rattle.fx_winding.specs.declared.frame.Frame.{Frame}
use Rattle.fx_winding.specs.Winding.{Span, span_of, centre}
use Rattle.fx_rows.specs.inner.Sums.{before, AreWithin}
use Rattle.fx_rows.specs.inner.Bands.{stride, turns_at, mark_at, IsBandAdded}
use Rattle.fx_rows.specs.inner.Placing.{AreBetween, AreOthersMet}
use Rattle.fx_rows.specs.inner.Telling.{AreRowsNoted, AreRowsTold, IsPartOf, Lasts, noted, of_frame, with_first}
use Rattle.fx_rows.proofs.Counted.{counted_start, counted_more, counted_all, count_more, within_none}
use Rattle.fx_rows.proofs.Banding.{IsNumber, number_or_not}
use Rattle.fx_rows.proofs.Sums.{before_none}
use Rattle.fx_rows.proofs.Telling.{told_in_frame, between_in_frame, others_in_frame, noted_start, noted_more, rows_also}
use Rattle.fx_rows.proofs.rows.count_band.Goals as goal

sum_times : (a b h : ℕ) → (12 + a + b) * h ≡ h * (12 + a) + b * h
sum_times a b h = omega arith

pub pieces-init : goal.pieces-init
pieces-init g c =
    grind (arith, c.requires.clear.counts, c.requires.clear.marks, before_none, counted_start, within_none, noted_start)

pub add_piece-inner-requires : goal.add_piece-inner-requires
add_piece-inner-requires g c =
    let l : length c.args.pieces.now ≤ 65536 = c.requires.few in
    record {
      small = λ k. let e = c.pieces.invariant.small k in (omega (arith, signed_linear, e, l), omega (arith, signed_linear, e, l));
      of = record {
        frame = c.args.frame;
        from = c.args.rows.first;
        to = c.args.rows.end;
        of = c.pieces.invariant.kept (of_frame c.args.frame) (λ k d h. tt) c.requires.of;
        part = subst (IsPartOf c.args.frame c.args.rows.first c.args.rows.end) (sym c.pieces.invariant.frame) c.requires.part;
      };
    }

pub note-requires : goal.note-requires
note-requires g c =
    let f = c.args.frame in
    let here = c.pieces.piece-index in
    let spans = map span_of c.args.pieces.now in
    let piece = c.piece-item.result in
    let s = span_of piece in
    let T = g.N.Noting.IsTold c.add_piece-inner.new.noter in
    let inside : here < length spans = omega (arith, length-map c.args.pieces.now span_of) in
    let is : get_or spans here s ≡ s = get_or-map span_of c.args.pieces.now here piece ∙ sym (ap span_of c.piece-item.is) in
    let kept = c.add_piece-inner.ensures.added.kept in
    let inner = c.add_piece-inner.result in
    record {
      frame = kept (of_frame f) tt (c.pieces.invariant.kept _ (λ k d l. tt) c.requires.of);
      near = grind (arith, c.requires.near, c.piece-item.is);
      within = c.requires.part.within;
      some = c.requires.some;
      between = between_in_frame s f c.args.band.now.frame c.args.rows.first c.args.rows.end inner _ c.requires.part
          c.rows_in_frame.ensures.first c.rows_in_frame.ensures.end
          (subst (λ (x : Frame). AreBetween s x 0 x.height inner) c.pieces.invariant.frame
          c.add_piece-inner.ensures.added.between);
      told = told_in_frame T s f c.args.band.now.frame c.args.rows.first c.args.rows.end c.requires.part
          (subst (λ (x : Frame). AreRowsTold T s x 0 x.height) c.pieces.invariant.frame c.add_piece-inner.ensures.added.rows.told);
      others = others_in_frame (g.N.Noting.Says c.add_piece-inner.new.noter) s f c.args.band.now.frame c.args.rows.first
          c.args.rows.end c.requires.part (subst (λ (x : Frame). AreOthersMet (g.N.Noting.Says c.add_piece-inner.new.noter) s x 0
          x.height) c.pieces.invariant.frame c.add_piece-inner.ensures.added.others);
      before = rows_also _ _ s c.args.rows.first
          (λ t w r h. kept (noted t w r) tt (c.pieces.invariant.kept (noted t w r) (λ k d l. tt) h))
          (subst (λ t. AreRowsNoted (g.N.Noting.Says c.args.noter.now) t c.args.rows.first) is (c.requires.before here s inside));
    }

pub pieces-preserved : goal.pieces-preserved
pieces-preserved g c =
    let f = c.args.band.now.frame in
    let spans = map span_of c.args.pieces.now in
    let here = c.pieces.piece-index in
    let inv = c.pieces.invariant in
    let piece = c.piece-item.result in
    let s = span_of piece in
    let old = c.pieces.band in
    let new = c.add_piece-inner.new.band in
    let inside : here < length spans = omega (arith, length-map c.args.pieces.now span_of) in
    let is : s ≡ get_or spans here s =
    ap span_of c.piece-item.is ∙ sym (get_or-map span_of c.args.pieces.now here piece) in
    let more = subst (λ (x : Frame). IsBandAdded s x 0 x.height old new) inv.frame c.add_piece-inner.ensures.added.rows.added in
    let few = c.args.band.now.few in
    let high = ap (λ (x : Frame). x.height) inv.frame in
    let n = c.add_piece-inner.ensures.count in
    let whole : 512 * here ≡ 512 * here + 4 * 0 = omega arith in
    let each : c.add_piece-inner.new.tally.count ≤ c.pieces.tally.count + f.height * (12 + g.N.Noting.general) =
    subst (λ (h : ℕ). c.add_piece-inner.new.tally.count ≤ c.pieces.tally.count + h * (12 + g.N.Noting.general)) high n in
    let part = c.requires.part.height in
    let rows : c.args.rows.end - c.args.rows.first ≡ f.height = omega (arith, part) in
    let tests = ap (λ (n : ℕ). g.N.Noting.tests * n) rows in
    let sum = sum_times g.N.Noting.general g.N.Noting.tests f.height in
    let m = c.note.ensures.count in
    let most = (12 + g.N.Noting.general + g.N.Noting.tests) * f.height
    + with_first c.args.rows.first (g.N.Noting.more c.args.frame) in
    let all : c.note.new.tally.count ≤ c.pieces.tally.count + most = omega (arith, each, m, tests, sum) in
    let kept = c.add_piece-inner.ensures.added.kept in
    record {
      frame = c.add_piece-inner.ensures.added.rows.frame ∙ inv.frame;
      counted = λ r k h l. counted_more spans here s (centre (f.left +ℤ pos k) (f.bottom +ℤ pos r))
          (mark_at old (r * stride f.width + k)) (mark_at new (r * stride f.width + k))
          (turns_at old (r * stride f.width + k)) (turns_at new (r * stride f.width + k)) (more.added r k (omega arith) h l)
          inside is (inv.counted r k h l);
      rest = λ n h. (more.kept n h).turns ∙ inv.rest n h;
      unused = λ n h. (more.kept n h).mark ∙ inv.unused n h;
      touched = more.touches inv.touched;
      small = λ k. let e = more.grown (512 * here) (subst (λ (n : ℕ). AreWithin n old.diff.items) whole inv.small) k in
          (omega (arith, signed_linear, e, few), omega (arith, signed_linear, e, few));
      kept = λ x lasts h.
          let last = subst (λ (t : Span). Lasts t x) (sym is) (lasts here s inside) in
          c.note.ensures.kept x last (kept x last (inv.kept x lasts h));
      noted = noted_more _ _ spans c.args.rows.end here s inside is
          (λ t w r h. c.note.ensures.kept (noted t w r) tt (kept (noted t w r) tt h)) inv.noted c.note.ensures.noted;
      count = count_more c.args.tally.now.count c.pieces.tally.count c.note.new.tally.count here
          most inv.count all;
    }

pub returns-clause-frame : goal.returns-clause-frame
returns-clause-frame g c = c.pieces.invariant.frame

pub returns-clause-counted : goal.returns-clause-counted
returns-clause-counted g c =
    let inv = c.pieces.invariant in
    let spans = map span_of c.args.pieces.now in
    let all : c.pieces.piece-index ≡ length spans = omega (arith, length-map c.args.pieces.now span_of) in
    record {
      turns = λ r k h l. (counted_all _ spans _ _ _ all (inv.counted r k h l)).0;
      marks = λ r k h l. (counted_all _ spans _ _ _ all (inv.counted r k h l)).1;
      rest = inv.rest;
      unused = inv.unused;
      small = λ n. by n;
      touched = inv.touched;
    }
  where
    f : Frame
    f = c.args.band.now.frame

    after : (n : ℕ)
        → IsNumber f.width f.height n ⊎
        ((r : ℕ) → 0 ≤ r → r < f.height → (n < r * stride f.width) ⊎ (r * stride f.width + f.width ≤ n))
        → IsWithin (2 ^ 20) (before (n + 1) c.pieces.band.diff.items)
    after n (inl (r, k, h, l, e)) =
        let size = (c.pieces.invariant.counted r k h l).size in
        let few : length c.args.pieces.now ≤ 65536 = c.requires.few in
        let same = ap (λ (m : ℕ). before (m + 1) c.pieces.band.diff.items) e in
        (omega (arith, signed_linear, size, few, same), omega (arith, signed_linear, size, few, same))
    after n (inr h) = let e = c.pieces.invariant.rest n h in (omega (arith, signed_linear, e), omega (arith, signed_linear, e))

    by : (n : ℕ) → IsWithin (2 ^ 20) (before n c.pieces.band.diff.items)
    by zero = (omega (arith, signed_linear), omega (arith, signed_linear))
    by (suc n) =
        let e : n + 1 ≡ suc n = omega arith in
        subst (λ (m : ℕ). IsWithin (2 ^ 20) (before m c.pieces.band.diff.items)) e (after n (number_or_not f.width f.height n))

pub returns-clause-notes : goal.returns-clause-notes
returns-clause-notes g c = record {
  kept = c.pieces.invariant.kept;
  noted = grind (arith, c.pieces.invariant.noted, length-map, take_all);
}

pub returns-clause-count : goal.returns-clause-count
returns-clause-count g c = grind (arith, c.pieces.invariant.count)
