use Rattle.std.proofs.Common.{◌≡◌, ◌∙◌, ap, length, length-append, map, take, arith}
use Rattle.std.proofs.Math.Seq.{take-length}
use Rattle.fx_winding.specs.Turned.{turned_span}
use Rattle.fx_winding.specs.Winding.{span_of}
use Rattle.fx_winding.proofs.TurnedPieces.{turned_more, turned_all}
use Rattle.fx_winding.proofs.pieces.Pieces.turned.Goals as goal

pub pieces-init : goal.pieces-init
pieces-init c = record { long = ap length c.new-turned.ensures; same = ap (map span_of) c.new-turned.ensures }

pub push-requires : goal.push-requires
push-requires c =
    let a = c.pieces.invariant.long in let b = c.pieces-test.true in let d = c.as_slice-piece-items.ensures.value in
    let e = c.as_slice-piece-items.ensures.few in grind (arith)

pub pieces-preserved : goal.pieces-preserved
pieces-preserved c =
    let a = c.pieces.invariant in let b = c.in_ok-push.ensures.ok in let d = c.pieces-test.true in let e = c.piece-item.is in
    let f = c.turned.ensures in grind (arith, length-append, turned_more)

pub returns : goal.returns
returns c =
    let done : c.pieces.piece-index ≡ length c.as_slice-piece-items.result.now = omega arith in
    c.pieces.invariant.same
    ∙ ap (map (λ s. turned_span (span_of s))) (ap (λ n. take n c.as_slice-piece-items.result.now) done
    ∙ take-length c.as_slice-piece-items.result.now ∙ c.as_slice-piece-items.ensures.value)
    ∙ turned_all c.args.self.now
