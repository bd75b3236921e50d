use Rattle.std.proofs.Common.{◌≡◌, ◌∙◌, pos, ◌+ℤ◌, ◌-ℤ◌, ◌*ℤ◌, arith, w64, to_z, of_z}
use Rattle.fx_fixed.proofs.Linear.{signed_linear}
use Rattle.fx_winding.specs.Winding.{place_of}
use Rattle.fx_rows.proofs.Gaps.{side_up}
use Rattle.fx_rows.proofs.Sides.{side_within}
use Rattle.fx_rows.proofs.above.side_above.Goals as goal

pub overflow_add-result : goal.overflow_add-result
overflow_add-result c =
    let n = side_within c.args.piece.now.a c.args.piece.now.c c.args.strip in
    omega (arith, signed_linear, n, c.requires.start, c.turned.ensures.size)

pub returns-clause-value : goal.returns-clause-value
returns-clause-value c =
    let p = c.args.piece.now in
    let t = c.args.strip in
    let n = side_within p.a p.c t in
    let rise : to_z w64 (of_z w64 c.chord_rise.result) ≡ p.c.y -ℤ p.a.y =
    omega (arith, signed_linear, c.chord_rise.ensures.value, c.chord_rise.ensures.size) in
    let lift : to_z w64 (of_z w64 c.lift_of.result) ≡ pos 128 *ℤ (p.a.x -ℤ p.c.x) =
    omega (arith, signed_linear, c.lift_of.ensures.value, c.lift_of.ensures.size) in
    let sum : to_z w64 (of_z w64 (to_z w64 (of_z w64 c.args.start) +ℤ to_z w64 (of_z w64 c.turned.result)))
    ≡ c.args.start +ℤ c.turned.result = omega (arith, signed_linear, n, c.requires.start, c.turned.ensures.size) in
    sum ∙ side_up (place_of p.a) (place_of p.c) (t.base +ℤ pos 0) t.row c.args.start c.turned.result _ _ c.requires.start
    c.turned.ensures.value rise lift

pub returns-clause-size : goal.returns-clause-size
returns-clause-size c =
    let n = side_within c.args.piece.now.a c.args.piece.now.c c.args.strip in
    let h = c.requires.start in
    let t = c.turned.ensures.size in
    (omega (arith, signed_linear, n, h, t), omega (arith, signed_linear, n, h, t))

pub turned-requires : goal.turned-requires
turned-requires c = omega (arith, signed_linear, c.lift_of.ensures.size)
