use Rattle.std.proofs.Common.{◌≡◌, drop}
use Rattle.fx_words.specs.Sets.{rows_of}
use Rattle.fx_front.specs.Kinds.{kind_among}
use Rattle.fx_front.proofs.kinds.kind_among.Given as goal

-- no row so far fits
abbrev pub invariant-rows : goal.invariant-rows
invariant-rows l = kind_among (rows_of (drop l.row-index l.rows)) l.fn.start ≡ kind_among (rows_of l.rows) l.fn.start
