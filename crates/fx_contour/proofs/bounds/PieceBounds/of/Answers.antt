use Rattle.std.proofs.Common.{◌≡◌, ◌<◌, length, arith, ℕ, zero, suc, Bool, false, sym, ◌∙◌}
use Rattle.std.proofs.lemmas.Bool.{eqb-true}
use Rattle.std.specs.Bool.{◌==◌}
use Rattle.fx_contour.proofs.Growing.{remains_first, remains_more, remains_end, none_of}
use Rattle.fx_contour.proofs.bounds.PieceBounds.of.Goals as goal

nonempty : (n : ℕ) (b : Bool) → b ≡ (n == 0) → b ≡ false → 0 < n
nonempty zero b e f = absurd (cc)
nonempty (suc n) b e f = omega arith

pub pieces-init : goal.pieces-init
pieces-init c =
    let e = c.around-bounds.ensures in
    remains_first c.around-bounds.result c.args.pieces.now c.index-pieces-0.result
    (nonempty (length c.args.pieces.now) c.is_empty.result c.is_empty.ensures c.if-is_empty.false) e.left e.right e.bottom e.top

pub pieces-preserved : goal.pieces-preserved
pieces-preserved c =
    grind (arith, c.pieces-test.true, c.piece-item.is, c.pieces.invariant, c.with_piece-bounds.ensures, remains_more)

pub returns-then-is_empty : goal.returns-then-is_empty
returns-then-is_empty c =
    none_of c.args.pieces.now (eqb-true (length c.args.pieces.now) 0 (sym c.is_empty.ensures ∙ c.if-is_empty.true))

pub returns : goal.returns
returns c = grind (arith, c.pieces-test.false, c.pieces.invariant, remains_end)
