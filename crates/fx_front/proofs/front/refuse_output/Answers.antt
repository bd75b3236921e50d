use Rattle.fx_front.proofs.front.refuse_output.Goals as goal

pub returns-clause-told : goal.returns-clause-told
returns-clause-told g c = rw c.output_name.ensures at c.say_unwritten.ensures.told
