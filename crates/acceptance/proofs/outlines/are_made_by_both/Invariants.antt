use Rattle.std.specs.List.{All}
use Rattle.fx_hint.specs.Kept.{IsTrueOf}
use Rattle.fx_hint.specs.Programmed.{hinting_of}
use Rattle.acceptance.proofs.outlines.are_made_by_both.Given as goal

abbrev pub invariant-changes : goal.invariant-changes
invariant-changes l = All (IsTrueOf (hinting_of l.machine.known)) l.kept.places
