use Rattle.std.proofs.Common.{◌≡◌, ℕ, List, ◌++◌, drop}
use Rattle.fx_cli.specs.Missing.{Begun, lacking, ranges_from, ranges_of}
use Rattle.fx_cli.proofs.missing.missing_of.Given as goal

-- the ranges that were named, the open one and those of the numbers that are left are all ranges
abbrev pub invariant-codes : goal.invariant-codes
invariant-codes l = (ranges : List (ℕ × ℕ)) × Begun l.names_all ranges l.missing
    × (ranges ++ ranges_from l.held (lacking l.map (drop l.code-index l.codes)) ≡ ranges_of (lacking l.map l.codes))
