use Rattle.std.proofs.Common.{map, take}
use Rattle.std.specs.Char.{to_ascii_lowercase}
use Rattle.fx_front.specs.Lines.{Says, shown_text}
use Rattle.fx_front.proofs.text.Text.add_code.Given as goal

-- the digits so far were added
abbrev pub invariant-digits : goal.invariant-digits
invariant-digits l = Says l.fn.self l.self (shown_text (map to_ascii_lowercase (take l.digit-index l.digit-items)))
