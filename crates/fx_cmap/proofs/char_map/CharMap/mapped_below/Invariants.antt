use Rattle.std.proofs.Common.{◌≡◌, ◌≤◌, ◌-◌, length}
use Rattle.fx_cmap.specs.Mapped.{mapped_below}
use Rattle.fx_cmap.proofs.AllMapped.{Fills}
use Rattle.fx_cmap.proofs.char_map.CharMap.mapped_below.Given as goal

-- `codes` has those below `code`, which are `count`
abbrev pub invariant-codes : goal.invariant-codes
invariant-codes l = record {
  same : l.cursor ≡ l.self;
  within : l.code ≤ l.end;
  counted : l.count ≡ length (mapped_below l.self l.code);
  few : l.count ≤ l.code;
  filled : Fills (mapped_below l.self l.code) l.initial.codes l.codes;
}

abbrev pub decreases-codes : goal.decreases-codes
decreases-codes l = l.end - l.code
