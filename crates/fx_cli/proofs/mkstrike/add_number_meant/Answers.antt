use Rattle.fx_cli.proofs.mkstrike.add_number_meant.Goals as goal

pub returns : goal.returns
returns c = rw (c.without_mark.ensures, c.low_of.ensures, c.without_mark-2.ensures, c.high_of.ensures) at c.add_range.ensures
