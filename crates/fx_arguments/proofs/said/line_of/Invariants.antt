use Rattle.std.proofs.Common.{◌≡◌, take}
use Rattle.std.specs.List.{flat_map}
use Rattle.fx_arguments.proofs.said.line_of.Given as goal

-- the pieces so far were added
abbrev pub invariant-pieces : goal.invariant-pieces
invariant-pieces l = l.line.items ≡ flat_map (λ p. p.now) (take l.piece-index l.pieces)
