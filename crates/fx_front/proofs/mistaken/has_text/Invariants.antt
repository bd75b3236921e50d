use Rattle.std.proofs.Common.{◌≡◌, length}
use Rattle.fx_front.specs.Mistaken.{has_text}
use Rattle.fx_front.proofs.mistaken.has_text.Given as goal

-- the part does not begin before the rest
abbrev pub invariant-places : goal.invariant-places
invariant-places l = has_text l.fn.part l.rest ≡ has_text l.fn.part l.fn.text

abbrev pub decreases-places : goal.decreases-places
decreases-places l = length l.rest
