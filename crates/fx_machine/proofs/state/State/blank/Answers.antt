use Rattle.fx_machine.proofs.state.State.blank.Goals as goal

pub returns : goal.returns
returns c = rw (c.in_ok-cvt.ensures, c.control_count.ensures c.args.scale) at c.with_controls.ensures
