use Rattle.std.proofs.Common.{◌≡◌, map, take}
use Rattle.fx_words.specs.Parts.{texts}
use Rattle.fx_words.specs.Sets.{rows_of}
use Rattle.fx_words.proofs.sets.first_column.Given as goal

-- the words of the rows so far
abbrev pub invariant-rows : goal.invariant-rows
invariant-rows l = texts l.words.items ≡ map (λ row. row.0) (rows_of (take l.row-index l.rows))
