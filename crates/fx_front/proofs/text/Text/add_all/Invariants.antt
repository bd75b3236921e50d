use Rattle.std.proofs.Common.{take}
use Rattle.fx_front.specs.Lines.{Says, shown_pieces}
use Rattle.fx_front.proofs.text.Text.add_all.Given as goal

-- the pieces so far were added
abbrev pub invariant-pieces : goal.invariant-pieces
invariant-pieces l = Says l.fn.self l.self (shown_pieces (take l.piece-index l.pieces))
