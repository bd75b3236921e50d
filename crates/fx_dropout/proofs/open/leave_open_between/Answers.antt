use Rattle.std.proofs.Common.{◌-◌, ◌+◌, arith}
use Rattle.fx_dropout.proofs.Opens.{more_left, none_left}
use Rattle.fx_dropout.proofs.open.leave_open_between.Goals as goal

pub words-init : goal.words-init
words-init c = none_left (λ w. c.args.at + w) _ c.args.noted.now

pub words-preserved : goal.words-preserved
words-preserved c =
    let left = c.words.invariant in
    more_left (λ w. c.args.at + w) _ c.args.noted.now c.words.noted c.words.w c.gaps_of.result left
    (omega (arith, left.long, c.requires.noted, c.words-test.true)) (λ k l e. omega (arith, l, e))
    (λ b l. grind (arith, l, c.gaps_of.ensures (31 - b), left.others (c.args.at + c.words.w)))
