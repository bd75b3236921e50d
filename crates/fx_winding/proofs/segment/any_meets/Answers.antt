use Rattle.std.proofs.Common.{◌≡◌, refl, sym, subst, length, take, All, ap, ◌∙◌, arith}
use Rattle.std.proofs.Math.Seq.{take-length}
use Rattle.std.proofs.lemmas.List.Elements.{All-more}
use Rattle.fx_winding.specs.declared.point.Piece.{Piece}
use Rattle.fx_winding.specs.Meets.{IsMet}
use Rattle.fx_winding.specs.Winding.{place_of, span_of}
use Rattle.fx_winding.proofs.Covers.{any_map, any_unmap}
use Rattle.fx_winding.proofs.Places.{clash, no}
use Rattle.fx_winding.proofs.segment.any_meets.Goals as goal

pub returns-then-meets : goal.returns-then-meets
returns-then-meets c = (
  λ t. any_map span_of (λ s. IsMet (place_of c.args.p) (place_of c.args.q) (span_of s)) _ (λ s h. h) c.args.pieces.now
      (c.pieces.piece-index, c.piece-item.result, omega arith, sym c.piece-item.is, c.meets.ensures.value.0 c.if-meets.true),
  λ a. refl,
)

pub pieces-preserved : goal.pieces-preserved
pieces-preserved c =
    let Missed = λ (s : Piece). ¬ (IsMet (place_of c.args.p) (place_of c.args.q) (span_of s)) in
    All-more Missed c.args.pieces.now c.pieces.piece-index c.piece-item.result (omega arith) c.pieces.invariant
    (subst Missed c.piece-item.is (λ m. clash c.meets.result c.if-meets.false (c.meets.ensures.value.1 m)))

pub returns : goal.returns
returns c =
    let Met = λ (s : Piece). IsMet (place_of c.args.p) (place_of c.args.q) (span_of s) in
    let done : c.pieces.piece-index ≡ length c.args.pieces.now = omega arith in
    let all : All (λ s. ¬ (Met s)) c.args.pieces.now =
    subst (All (λ s. ¬ (Met s))) (ap (λ n. take n c.args.pieces.now) done ∙ take-length c.args.pieces.now) c.pieces.invariant in
    no (λ a. let m = any_unmap span_of Met _ (λ s h. h) c.args.pieces.now a in
    subst (λ (s : Piece). ¬ (Met s)) m.3 (all m.0 m.1 m.2) m.4)
