-- What was read of an input before its text.
use Rattle.std.specs.Prelude.{ℕ, ◌-◌, ◌==◌, Bool, false, List, [], length}
use Rattle.std.specs.List.{position_or_len}
use Rattle.fx_arguments.specs.Input.{rest_of}

-- the number of bytes of a line of arguments with its end, the bytes that were read after it, and whether the input ended there
pub record ReadAheadView : Type 0 where
  pub line : ℕ
  pub text : List ℕ
  pub ended : Bool

-- nothing was read
abbrev pub nothing_ahead : ReadAheadView
nothing_ahead = record { line = 0; text = []; ended = false }

-- these bytes were read: the first line and what came with it, or all of an input that has no LF
abbrev pub ahead_of : List ℕ → ReadAheadView
ahead_of got = record {
  line = length got - length (rest_of got);
  text = rest_of got;
  ended = position_or_len (λ b. b == 10) got == length got;
}
