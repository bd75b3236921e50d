use Rattle.fx_code.proofs.Addresses.{addresses_are_one}
use Rattle.fx_code.proofs.laws.addresses_are_one.Goals as goal

pub returns : goal.returns
returns c = addresses_are_one
