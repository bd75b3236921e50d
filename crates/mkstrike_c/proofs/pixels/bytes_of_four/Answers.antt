use Rattle.mkstrike_c.proofs.Fours.{bytes_by_four}
use Rattle.mkstrike_c.proofs.pixels.bytes_of_four.Goals as goal

pub returns : goal.returns
returns c = λ row k e. bytes_by_four row k c.args.four e
