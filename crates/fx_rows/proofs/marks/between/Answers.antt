use Rattle.fx_rows.proofs.Tails.{between_inside, between_outside}
use Rattle.fx_rows.proofs.marks.between.Goals as goal

pub returns-clause-inside : goal.returns-clause-inside
returns-clause-inside c = λ i h l. between_inside c.args.before c.args.after i c.requires.before c.requires.after h l

pub returns-clause-outside : goal.returns-clause-outside
returns-clause-outside c = λ i h l. between_outside c.args.before c.args.after i c.requires.before c.requires.after h l
