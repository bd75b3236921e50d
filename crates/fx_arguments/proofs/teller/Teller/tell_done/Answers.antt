use Rattle.fx_arguments.proofs.teller.Teller.tell_done.Goals as goal

pub returns-in-Strike : goal.returns-in-Strike
returns-in-Strike g c = rw c.in-Strike.is (rw c.line_of_report.ensures.text at c.tell.ensures)
