use Rattle.std.proofs.Common.{◌≡◌, ◌∙◌, refl, sym, ap, not, true, false, Bool, List, ℕ, ◌+◌, ◌<◌, ◌≤◌, cond, take, get_or, length}
use Rattle.std.proofs.Common.{arith}
use Rattle.std.specs.Int.{from_bool}
use Rattle.std.specs.List.{count_by}
use Rattle.std.proofs.lemmas.List.Sums.{sum_by_more}
use Rattle.fx_winding.specs.Winding.{place_of, span_of}
use Rattle.fx_winding.specs.declared.point.Piece.{Piece}
use Rattle.fx_dropout.specs.Decided.{is_missed}
use Rattle.fx_dropout.specs.inner.Pairs.{seen_span}
use Rattle.fx_dropout.proofs.Decided.{missed_as}
use Rattle.fx_dropout.proofs.work.count_near.Goals as goal

as_cond : (b : Bool) → from_bool b ≡ cond b 1 0
as_cond true = refl
as_cond false = refl

near_more : (test : Piece → Bool) (ps : List Piece) (k : ℕ) (p : Piece) (b : Bool) (old one : ℕ) → k < length ps
    → p ≡ get_or ps k p → b ≡ test p → one ≡ from_bool b → old ≡ count_by test (take k ps)
    → old + one ≡ count_by test (take (k + 1) ps)
near_more test ps k p b old one l is e o h =
    (λ t. h t + o t) ∙ (λ t. count_by test (take k ps) + as_cond b t)
    ∙ (λ t. count_by test (take k ps) + cond (e t) 1 0) ∙ (λ t. count_by test (take k ps) + cond (test (is t)) 1 0)
    ∙ sym (sum_by_more (λ q. cond (test q) 1 0) ps k p l)

few_more : (b : Bool) (one : ℕ) → one ≡ from_bool b → one ≤ 1
few_more true one e = omega (arith, e)
few_more false one e = omega (arith, e)

pub pieces-preserved : goal.pieces-preserved
pieces-preserved c =
    let inv = c.pieces.invariant in
    let few = few_more _ c.from-count.result c.from-count.ensures in
    record {
      counted = near_more (λ q. not (is_missed (place_of c.args.first) (seen_span c.args.is_turned (span_of q))))
          c.as_slice-piece-items.result.now c.pieces.piece-index c.piece-item.result _ c.pieces.count c.from-count.result
          c.pieces-test.true c.piece-item.is
          (ap not (missed_as c.is_missed.result (place_of c.args.first) (seen_span c.args.is_turned (span_of c.piece-item.result))
          c.is_missed.ensures))
          c.from-count.ensures inv.counted;
      few = omega (arith, few, inv.few);
    }
