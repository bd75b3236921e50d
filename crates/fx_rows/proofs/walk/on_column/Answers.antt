use Rattle.fx_rows.proofs.walk.on_column.Goals as goal

pub on_one-requires-clause-only : goal.on_one-requires-clause-only
on_one-requires-clause-only c = λ j m on. (c.requires.only j m on).0
