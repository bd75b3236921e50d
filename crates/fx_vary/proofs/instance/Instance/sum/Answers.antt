use Rattle.std.proofs.Common.{◌∙◌}
use Rattle.fx_vary.proofs.Listing.{ends_inside, begun_within}
use Rattle.fx_vary.proofs.instance.Instance.sum.Goals as goal

pub add-requires-clause-ends : goal.add-requires-clause-ends
add-requires-clause-ends c =
    ends_inside c.args.second c.args.glyph.now _ _ (c.deref.ensures.value ∙ c.in_ok-ends_of.ensures.value)
    (c.deref_mut.ensures.value ∙ c.in_ok-points_before.ensures) c.in_ok-ends_of.ensures.below

pub add-requires-clause-begun : goal.add-requires-clause-begun
add-requires-clause-begun c =
    begun_within c.args.second c.args.glyph.now _ (c.deref_mut.ensures.value ∙ c.in_ok-points_before.ensures)
