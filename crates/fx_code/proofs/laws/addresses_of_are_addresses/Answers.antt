use Rattle.fx_code.proofs.Addresses.{addresses_of_are_addresses}
use Rattle.fx_code.proofs.laws.addresses_of_are_addresses.Goals as goal

pub returns : goal.returns
returns c = addresses_of_are_addresses
