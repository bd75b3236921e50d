-- How many tests of points the closing of gaps takes.
use Rattle.std.specs.Prelude.{ℕ, ◌*◌}
use Rattle.fx_winding.specs.declared.frame.Frame.{Frame}
use Rattle.fx_winding.specs.Bitmaps.{words_for}
use Rattle.fx_dropout.specs.declared.chooser.Closing.{Closing}
use Rattle.fx_dropout.specs.declared.chooser.Closing.TheVariants.{Lower, Nearer}

-- the most tests that the choice between the two pixels of a gap takes: none, or 10 for each piece
abbrev pub choice_tests : Closing → ℕ → ℕ
choice_tests Lower pieces = 0
choice_tests Nearer pieces = 10 * pieces

-- the most that all gaps of a frame take: one choice for each pixel of its words in rows, and one in columns
abbrev pub closing_tests : Closing → ℕ → Frame → ℕ
closing_tests closing pieces f = 2 * (f.height * (words_for f.width * (32 * choice_tests closing pieces)))
