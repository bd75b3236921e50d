use Rattle.std.proofs.Common.{◌≡◌, drop}
use Rattle.fx_words.specs.Parts.{texts}
use Rattle.fx_front.specs.Advised.{ends_in}
use Rattle.fx_front.proofs.explained.ends_in.Given as goal

-- no ending so far is the name's
abbrev pub invariant-endings : goal.invariant-endings
invariant-endings l = ends_in (texts (drop l.ending-index l.endings)) l.fn.name ≡ ends_in (texts l.endings) l.fn.name
