use Rattle.std.proofs.Common.{rules, ◌≡◌, ◌++◌, ◌∷◌, [], arith}
use Rattle.fx_arguments.proofs.Saying.{all_said}
use Rattle.fx_arguments.proofs.said.line_of.Goals as goal

pub returns : goal.returns
returns c =
    let pushed : c.push.new.self.items ≡ c.pieces.line.items ++ 10 ∷ [] = search rules in
    all_said c.args.pieces.now c.pieces.piece-index c.pieces.line.items c.push.new.self.items
    (omega (arith, c.pieces-test.false)) c.pieces.invariant pushed
