use Rattle.std.proofs.Common.{take}
use Rattle.fx_front.specs.Lines.{Says, shown_text}
use Rattle.fx_front.proofs.text.Text.add.Given as goal

-- the bytes so far were added
abbrev pub invariant-bytes : goal.invariant-bytes
invariant-bytes l = Says l.fn.self l.self (shown_text (take l.byte-index l.bytes))
