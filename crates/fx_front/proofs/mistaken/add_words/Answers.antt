use Rattle.std.proofs.Common.{◌≡◌, ◌≤◌, List, [], ◌∷◌, Option, Some, length, ap, arith, rules}
use Rattle.std.specs.Borrow.{Bor}
use Rattle.fx_words.specs.Parts.{PartsView, Text, text_in, texts}
use Rattle.fx_front.specs.Mistaken.{line_said, words_said}
use Rattle.fx_front.proofs.mistaken.add_words.Goals as goal

-- what is said of a command that takes a font, with the words from its name on
of_command : (wrong : List Text → Text) (parts : PartsView) (command : Option Text) (name : Text) (words : List (Bor Text))
    → command ≡ Some name → 1 ≤ length words
    → words_said wrong parts command (texts words) ≡ line_said wrong parts name (texts words)
of_command wrong parts command name [] is some = absurd (omega (arith, some))
of_command wrong parts command name (word ∷ words) is some =
    ap (λ which. words_said wrong parts which (texts (word ∷ words))) is

pub returns-in-len1-up-Some : goal.returns-in-len1-up-Some
returns-in-len1-up-Some g c =
    let named : text_in c.args.task.now.command ≡ Some c.in-len1-up-Some.command.now = search rules in
    rw (of_command g.G.Tool.wrong_in _ _ _ c.args.words.now named c.in-len1-up-Some.len_at_least) c.add_line.ensures
