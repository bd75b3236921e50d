use Rattle.std.proofs.Common.{◌≡◌, ◌∙◌, ℕ, ◌+◌, ◌*◌, length, arith}
use Rattle.fx_dropout.specs.Work.{sum_below}
use Rattle.fx_dropout.specs.inner.Segments.{price_of}
use Rattle.fx_dropout.proofs.Priced.{past_within, some_within}
use Rattle.fx_dropout.proofs.Sums.{sum_none, sum_split, sum_within}
use Rattle.fx_dropout.proofs.work.Gaps.add_all.Goals as goal

-- the segments of one word more
word_more : (w : ℕ) (G : ℕ → ℕ) → sum_below (32 * (w + 1)) G ≡ sum_below (32 * w) G + sum_below 32 (λ k. G (32 * w + k))
word_more w G = let e : 32 * (w + 1) ≡ 32 * w + 32 = omega arith in (λ t. sum_below (e t) G) ∙ sum_split (32 * w) 32 G

pub words-init : goal.words-init
words-init c = record {
  added = let z = sum_none (price_of c.args.self.now) in omega (arith, z);
  few = c.requires.few;
}

pub returns-in_err-sum : goal.returns-in_err-sum
returns-in_err-sum c =
    let G : ℕ → ℕ = price_of c.args.self.now in
    let w = c.words.word in
    let n = length c.args.self.now.bits.now in
    let inv = c.words.invariant in
    let more = word_more w G in
    let all = sum_within (32 * (w + 1)) (32 * n) G (omega (arith, c.words-test.true)) in
    let none = past_within c.args.most (c.words.sum + sum_below 32 (λ k. G (32 * w + k))) (c.args.work + sum_below (32 * n) G)
    c.in_err-sum.ensures (omega (arith, inv.added, more, all)) in
    grind (arith, none, c.from_residual.ensures)

pub words-preserved : goal.words-preserved
words-preserved c =
    let G : ℕ → ℕ = price_of c.args.self.now in
    let w = c.words.word in
    let inv = c.words.invariant in
    let more = word_more w G in
    let sum = some_within c.args.most (c.words.sum + sum_below 32 (λ k. G (32 * w + k))) c.in_ok-sum.sum c.in_ok-sum.ensures in
    record { added = sum.0 ∙ omega (arith, inv.added, more); few = sum.1 }
