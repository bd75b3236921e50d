use Rattle.std.proofs.Common.{◌∙◌, ap}
use Rattle.fx_strike.specs.Strike.{Setting, bounded}
use Rattle.fx_strike.proofs.Weighing.{is_bounded}
use Rattle.fx_strike.proofs.striker.Striker.bound.Goals as goal

pub returns : goal.returns
unfolding bounded
returns g c =
    let same = c.self.view_is ∙ (c.in_ok-over.ensures).kept in record {
      bounds = (
        is_bounded c.args.self.now _ c.replace.new.dest _ same (c.replace.ensures.after ∙ (c.in_ok-over.ensures).over),
        c.replace.ensures.value ∙ ap (λ (s : Setting). s.over) same,
      );
    }
