use Rattle.std.proofs.Common.{refl}
use Rattle.fx_vary.proofs.Listing.{ends_given}
use Rattle.fx_vary.proofs.lists.push_ends.Goals as goal

pub returns-in_err-push-clause-below : goal.returns-in_err-push-clause-below
returns-in_err-push-clause-below c = ends_given _ _ _ c.ends-ends.ensures.in_order refl

pub returns-clause-below : goal.returns-clause-below
returns-clause-below c = ends_given _ _ _ c.ends-ends.ensures.in_order refl
