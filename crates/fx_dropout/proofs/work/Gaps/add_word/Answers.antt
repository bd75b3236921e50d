use Rattle.std.proofs.Common.{◌∙◌, ℕ, ◌+◌, ◌*◌, map, arith}
use Rattle.fx_winding.specs.Winding.{span_of}
use Rattle.fx_dropout.specs.Work.{sum_below}
use Rattle.fx_dropout.specs.inner.Segments.{price_of}
use Rattle.fx_dropout.proofs.Priced.{all_within, empty_word, past_within, some_within}
use Rattle.fx_dropout.proofs.Sums.{sum_more, sum_none, sum_within}
use Rattle.fx_dropout.proofs.work.Gaps.add_word.Goals as goal

pub returns-then-self-word-eq0 : goal.returns-then-self-word-eq0
returns-then-self-word-eq0 c =
    let g = c.args.self.now in
    let none = empty_word g.is_up g.frame (map span_of g.pieces.now) g.bits.now c.args.word c.if-self-word-eq0.true in
    all_within c.args.most c.args.work _ (omega (arith, none)) c.requires.few

pub segments-init : goal.segments-init
segments-init c = record {
  added = let z = sum_none (λ k. price_of c.args.self.now (32 * c.args.word + k)) in omega (arith, z);
  few = c.requires.few;
}

pub returns-in_err-sum : goal.returns-in_err-sum
returns-in_err-sum c =
    let G : ℕ → ℕ = λ k. price_of c.args.self.now (32 * c.args.word + k) in
    let k = c.segments.k in
    let inv = c.segments.invariant in
    let more = sum_more k G in
    let all = sum_within (k + 1) 32 G (omega (arith, c.segments-test.true)) in
    let none = past_within c.args.most (c.segments.sum + G k) (c.args.work + sum_below 32 G) c.in_err-sum.ensures
    (omega (arith, inv.added, more, all)) in
    grind (arith, none, c.from_residual.ensures)

pub segments-preserved : goal.segments-preserved
segments-preserved c =
    let G : ℕ → ℕ = λ k. price_of c.args.self.now (32 * c.args.word + k) in
    let k = c.segments.k in
    let inv = c.segments.invariant in
    let more = sum_more k G in
    let sum = some_within c.args.most (c.segments.sum + G k) c.in_ok-sum.sum c.in_ok-sum.ensures in
    record { added = sum.0 ∙ omega (arith, inv.added, more); few = sum.1 }
