use Rattle.fx_symmetry.proofs.Halved.{halves_meet, halves_have_the_places, halves_add_up, halves_keep_cover}
use Rattle.fx_symmetry.proofs.laws.subdivision.Goals as goal

pub returns-clause-meet : goal.returns-clause-meet
returns-clause-meet c = halves_meet

pub returns-clause-places : goal.returns-clause-places
returns-clause-places c = halves_have_the_places

pub returns-clause-sums : goal.returns-clause-sums
returns-clause-sums c = halves_add_up

pub returns-clause-cover : goal.returns-clause-cover
returns-clause-cover c = halves_keep_cover
