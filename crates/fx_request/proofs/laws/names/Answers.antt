use Rattle.fx_request.proofs.ByNumber.{numbers_have_names}
use Rattle.fx_request.proofs.laws.names.Goals as goal

pub returns : goal.returns
returns c = numbers_have_names
