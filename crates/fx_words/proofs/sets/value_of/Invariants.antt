use Rattle.std.proofs.Common.{◌≡◌, drop}
use Rattle.fx_words.specs.Sets.{rows_of, value_of}
use Rattle.fx_words.proofs.sets.value_of.Given as goal

-- no row so far has the key
abbrev pub invariant-rows : goal.invariant-rows
invariant-rows l = value_of (rows_of (drop l.row-index l.table)) l.fn.key ≡ value_of (rows_of l.table) l.fn.key
