-- How long a text is at most, so that the count of its bytes is exact.
use Rattle.std.specs.Prelude.{ℕ, ◌+◌, ◌*◌, ◌≤◌, List, length, Result, OnOk, IfErr}
use Rattle.fx_fixed.specs.Texts.{TextView, Adds, Fails, length_of}
use Rattle.fx_fixed.specs.declared.sink.WriteFailed.{WriteFailed}
use Rattle.fx_outline.specs.Limits.{max_points}

-- the text of an outline
abbrev pub longest_outline : ℕ
longest_outline = 88 * max_points + 40

-- bytes were added to a text, `most` at most; or it stopped, and the fault's number is within them
pub record AddsFew (most : ℕ) (was now : TextView) (bytes : List ℕ) (result : Result (Unit {0}) WriteFailed) : Type 0 where
  pub adds : Adds Fails was now bytes result
  pub few : OnOk result (length bytes ≤ most)
  pub short : IfErr result (λ e. e.0 ≤ length_of was + most)
