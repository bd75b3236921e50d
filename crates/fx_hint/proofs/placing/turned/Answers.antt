use Rattle.std.proofs.Common.{rules}
use Rattle.fx_hint.proofs.Turning.{turned_itself}
use Rattle.fx_hint.proofs.placing.turned.Goals as goal

pub returns-then-is_plain : goal.returns-then-is_plain
returns-then-is_plain c =
    turned_itself c.args.component.now c.args.place (c.is_plain.ensures c.if-is_plain.true) (search rules) (search rules)
