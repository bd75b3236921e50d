use Rattle.std.proofs.Common.{take}
use Rattle.std.specs.List.{flat_map}
use Rattle.std.specs.Prelude.{Ok}
use Rattle.fx_fixed.specs.Texts.{Adds, Fails}
use Rattle.fx_fixed.proofs.text.TextWriter.add.Given as goal

-- the pieces so far were added
abbrev pub invariant-pieces : goal.invariant-pieces
invariant-pieces g l = Adds Fails l.fn.self l.self (flat_map (λ p. p.now) (take l.piece-index l.pieces)) (Ok tt)
