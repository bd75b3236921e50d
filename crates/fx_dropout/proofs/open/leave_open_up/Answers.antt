use Rattle.fx_dropout.proofs.Opens.{open_up}
use Rattle.fx_dropout.proofs.open.leave_open_up.Goals as goal

pub returns : goal.returns
returns c = open_up c.args.words.now c.args.noted.now c.leave_open_between.new.noted c.leave_open_between-2.new.noted
    c.leave_open_between-3.new.noted c.args.size c.requires.some c.requires.long c.leave_open_between.ensures
    c.leave_open_between-2.ensures c.leave_open_between-3.ensures
