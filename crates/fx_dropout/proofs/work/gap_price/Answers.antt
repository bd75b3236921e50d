use Rattle.std.proofs.Common.{◌∙◌, sym, ◌+◌, ◌/◌}
use Rattle.fx_dropout.specs.Work.{gap_price}
use Rattle.fx_dropout.proofs.Adding.{seen_length}
use Rattle.fx_dropout.proofs.work.gap_price.Goals as goal

pub returns : goal.returns
unfolding gap_price
returns c =
    let long = c.len.ensures.value ∙ sym (seen_length c.args.is_turned c.args.pieces.now) in
    λ t. 1 + long t / 32 + c.count_near.ensures.value t
