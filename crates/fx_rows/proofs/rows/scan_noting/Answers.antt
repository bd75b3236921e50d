use Rattle.std.proofs.Common.{◌≡◌, ◌∙◌, refl, ap, sym, subst, ℕ, ◌+◌, ◌-◌, ◌*◌, ◌<◌, ◌≤◌, nat_eq, IsTrue, List, [], ◌∷◌, All}
use Rattle.std.proofs.Common.{map, length, arith}
use Rattle.fx_rows.specs.Parts.{digits}
use Rattle.fx_winding.specs.declared.frame.Frame.{Frame}
use Rattle.fx_winding.specs.declared.point.Piece.{Piece}
use Rattle.fx_winding.specs.Near.{IsNear}
use Rattle.fx_winding.specs.Winding.{span_of}
use Rattle.fx_winding.specs.Bitmaps.{words_for, IsScanOf}
use Rattle.fx_rows.specs.inner.Bands.{AreScanned}
use Rattle.fx_rows.specs.inner.Telling.{IsPartOf, of_frame}
use Rattle.fx_rows.proofs.Banding.{bands_more, tests_fit}
use Rattle.fx_rows.proofs.Scanning.{scanned_band, scanned_words, scanned_bitmap}
use Rattle.fx_rows.proofs.rows.scan_noting.Goals as goal

no_words : (xs : List ℕ) → length xs ≡ 0 → xs ≡ []
no_words [] e = refl
no_words (x ∷ xs) e = absurd (omega (arith, e))

only_first : (first end height : ℕ) → 0 < height → end ≤ height → IsTrue (nat_eq (end - first) height) → first ≡ 0
only_first first end height some within t = grind arith

none_first : (first w n : ℕ) → n ≡ first * w → first ≡ 0 → n ≡ 0
none_first first w n e z = grind arith

pub cover_band-requires : goal.cover_band-requires
cover_band-requires g c =
    let same = c.as_slice.ensures.value in
    record {
      few = omega (arith, ap length same, c.as_slice.ensures.few);
      near = subst (All IsNear) (sym same) c.as_slice.ensures.near;
      clear = c.in_ok-band.ensures.clear;
      part = subst (IsPartOf c.args.frame c.bands.from c.band_end.result) (sym c.in_ok-band.ensures.frame) c.band_of.ensures;
      some = omega arith;
      of = c.bands.invariant.kept (of_frame c.args.frame) (λ k d l. tt) c.requires;
      before = grind (arith, same, c.bands.invariant.noted);
    }

pub returns-in_err-band-clause-count : goal.returns-in_err-band-clause-count
returns-in_err-band-clause-count g c =
    let count = c.bands.invariant.count in
    let fit = tests_fit (length c.args.pieces.now) (12 + g.N.Noting.general + g.N.Noting.tests) c.bands.from c.args.frame.height
    (digits c.args.frame.width) (omega arith) in
    omega (arith, count, fit)

pub joined-requires-clause-only : goal.joined-requires-clause-only
joined-requires-clause-only g c = λ t.
    no_words c.bands.words.items (none_first c.bands.from _ _ c.bands.invariant.scanned.long
    (only_first c.bands.from c.band_end.result c.args.frame.height (omega arith) (omega arith) t))

pub bands-preserved : goal.bands-preserved
bands-preserved g c =
    let f = c.args.frame in
    let x = c.in_ok-band.band.frame in
    let b = c.cover_band.new.band in
    let same = c.as_slice.ensures.value in
    let part : IsPartOf f c.bands.from c.band_end.result x =
    subst (IsPartOf f c.bands.from c.band_end.result) (sym c.in_ok-band.ensures.frame) c.band_of.ensures in
    let room : length b.marks.items ≡ x.height * words_for x.width =
    b.room ∙ ap (λ (y : Frame). y.height * words_for y.width) c.cover_band.ensures.frame in
    let scanned = scanned_band (map span_of c.as_slice.result.now) f x c.bands.from c.band_end.result b.marks.items
    c.bands.words.items _ part room c.cover_band.ensures.covered c.in_ok-words-2.ensures
    (subst (λ (ps : List Piece). AreScanned (map span_of ps) f.left f.bottom f.width c.bands.from c.bands.words.items) (sym same)
    c.bands.invariant.scanned) in
    let count = bands_more c.args.tally.now.count c.bands.tally.count c.cover_band.new.tally.count
    (12 + g.N.Noting.general + g.N.Noting.tests) (g.N.Noting.more f) c.bands.from x.height c.band_end.result
    c.as_slice.result.now c.args.pieces.now same (omega arith) part.height c.bands.invariant.count c.cover_band.ensures.count in
    grind (arith, same, c.bands.invariant, scanned, c.cover_band.ensures, count)

pub returns-in_err-words-2-clause-count : goal.returns-in_err-words-2-clause-count
returns-in_err-words-2-clause-count g c =
    let f = c.args.frame in
    let part : IsPartOf f c.bands.from c.band_end.result c.in_ok-band.band.frame =
    subst (IsPartOf f c.bands.from c.band_end.result) (sym c.in_ok-band.ensures.frame) c.band_of.ensures in
    let count = bands_more c.args.tally.now.count c.bands.tally.count c.cover_band.new.tally.count
    (12 + g.N.Noting.general + g.N.Noting.tests) (g.N.Noting.more f) c.bands.from _ c.band_end.result c.as_slice.result.now
    c.args.pieces.now c.as_slice.ensures.value (omega arith) part.height c.bands.invariant.count c.cover_band.ensures.count in
    let fit = tests_fit (length c.args.pieces.now) (12 + g.N.Noting.general + g.N.Noting.tests) c.band_end.result f.height
    (digits f.width) (omega arith) in
    omega (arith, count, fit)

pub returns-clause-count : goal.returns-clause-count
returns-clause-count g c =
    let count = c.bands.invariant.count in
    let fit = tests_fit (length c.args.pieces.now) (12 + g.N.Noting.general + g.N.Noting.tests) c.bands.from c.args.frame.height
    (digits c.args.frame.width) (omega arith) in
    omega (arith, count, fit)

pub from_words-requires : goal.from_words-requires
from_words-requires g c =
    let f = c.args.frame in
    let all : c.bands.from ≡ f.height = omega arith in
    scanned_words (map span_of c.args.pieces.now) f.left f.bottom f.width f.height c.bands.words.items
    (subst (λ n. AreScanned (map span_of c.args.pieces.now) f.left f.bottom f.width n c.bands.words.items) all
    c.bands.invariant.scanned)

pub returns-clause-bits : goal.returns-clause-bits
returns-clause-bits g c =
    let f = c.args.frame in
    let all : c.bands.from ≡ f.height = omega arith in
    let rows = subst (λ n. AreScanned (map span_of c.args.pieces.now) f.left f.bottom f.width n c.bands.words.items) all
    c.bands.invariant.scanned in
    subst (IsScanOf f (map span_of c.args.pieces.now)) (sym c.from_words.ensures)
    (scanned_bitmap (map span_of c.args.pieces.now) f c.bands.words.items rows)

pub returns-clause-noted : goal.returns-clause-noted
returns-clause-noted g c = grind (arith, c.bands.invariant.noted)
