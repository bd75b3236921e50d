use Rattle.std.proofs.Common.{◌≡◌, ◌∙◌, to_z, of_z, w64, arith}
use Rattle.fx_fixed.proofs.Linear.{signed_linear}
use Rattle.fx_rows.specs.inner.Sides.{place_at}
use Rattle.fx_rows.proofs.Gaps.{total_of_areas}
use Rattle.fx_rows.proofs.Flats.{bent_by, flat_by}
use Rattle.fx_rows.proofs.walk.arc_of.Goals as goal

pub returns-then-total-eq0 : goal.returns-then-total-eq0
returns-then-total-eq0 c =
    flat_by c.args.piece.now c.args.b (place_at c.args.strip c.args.k) c.args.areas _ c.requires.middle c.requires.areas
    c.total_of-total.ensures.value c.total_of-total.ensures.size c.if-total-eq0.true

pub is_right-requires-clause-bent : goal.is_right-requires-clause-bent
is_right-requires-clause-bent c =
    (bent_by c.args.piece.now c.args.b (place_at c.args.strip c.args.k) c.args.areas _ c.requires.middle c.requires.areas
    c.total_of-total.ensures.value c.if-total-eq0.false).1

pub is_right-requires-clause-total : goal.is_right-requires-clause-total
is_right-requires-clause-total c =
    let size = c.total_of-total.ensures.size in
    let same : to_z w64 (of_z w64 c.total_of-total.result) ≡ c.total_of-total.result = omega (arith, signed_linear, size) in
    total_of_areas c.args.piece.now c.args.b (place_at c.args.strip c.args.k) c.args.areas _ c.requires.middle c.requires.areas
    (same ∙ c.total_of-total.ensures.value)

pub arc_at-requires-clause-bent : goal.arc_at-requires-clause-bent
arc_at-requires-clause-bent c =
    bent_by c.args.piece.now c.args.b (place_at c.args.strip c.args.k) c.args.areas _ c.requires.middle c.requires.areas
    c.total_of-total.ensures.value c.if-total-eq0.false
