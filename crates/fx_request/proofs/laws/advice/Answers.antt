use Rattle.fx_request.proofs.ByNumber.{advised_are_named, numbers_have_advice}
use Rattle.fx_request.proofs.laws.advice.Goals as goal

pub returns : goal.returns
returns c = record { numbers = numbers_have_advice; named = advised_are_named }
