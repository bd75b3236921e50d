use Rattle.std.proofs.Common.{◌≡◌, drop}
use Rattle.fx_words.specs.Sets.{rows_of}
use Rattle.fx_front.specs.Meant.{usual_for}
use Rattle.fx_front.proofs.meant.usual_for.Given as goal

-- no row so far fits
abbrev pub invariant-rows : goal.invariant-rows
invariant-rows l =
    usual_for (rows_of (drop l.row-index l.rows)) l.fn.word l.fn.words ≡ usual_for (rows_of l.rows) l.fn.word l.fn.words
