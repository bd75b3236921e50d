use Rattle.std.proofs.Common.{◌≡◌, ◌∙◌, sym, ap, ℕ, ◌+◌, Option, map, true≢false, arith}
use Rattle.fx_winding.specs.Area.{Place}
use Rattle.fx_winding.specs.Winding.{span_of}
use Rattle.fx_dropout.specs.Work.{within}
use Rattle.fx_dropout.specs.inner.Pairs.{seen_spans}
use Rattle.fx_dropout.specs.inner.Segments.{start_price}
use Rattle.fx_dropout.proofs.Priced.{all_within, set_price, unset_price}
use Rattle.fx_dropout.proofs.work.Gaps.add_segment.Goals as goal

same_work : (work price : ℕ) → price ≡ 0 → work ≡ work + price
same_work work price e = omega (arith, e)

pub returns-then-not-is_set : goal.returns-then-not-is_set
returns-then-not-is_set c =
    let g = c.args.self.now in
    all_within c.args.most c.args.work _ (same_work c.args.work _
    (unset_price g.is_up g.frame (map span_of g.pieces.now) g.bits.now c.args.segment
    (λ e. true≢false (sym (c.is_set.ensures.1 e) ∙ c.if-not-is_set.true)))) c.requires.few

pub returns-in-None : goal.returns-in-None
returns-in-None c =
    let g = c.args.self.now in
    let ss = seen_spans g.is_up (map span_of g.pieces.now) in
    all_within c.args.most c.args.work _ (same_work c.args.work _
    (set_price g.is_up g.frame (map span_of g.pieces.now) g.bits.now c.args.segment (c.is_set.ensures.0 c.if-not-is_set.false)
    ∙ sym (ap (λ (p : Option Place). start_price ss p) c.in-None.ensures))) c.requires.few

pub returns-in-Some : goal.returns-in-Some
returns-in-Some c =
    let g = c.args.self.now in
    let ss = seen_spans g.is_up (map span_of g.pieces.now) in
    let price = c.gap_price-price.ensures ∙ ap (λ (p : Option Place). start_price ss p) c.in-Some.ensures
    ∙ sym (set_price g.is_up g.frame (map span_of g.pieces.now) g.bits.now c.args.segment
    (c.is_set.ensures.0 c.if-not-is_set.false)) in
    c.add_within.ensures ∙ (λ t. within c.args.most (c.args.work + price t))
