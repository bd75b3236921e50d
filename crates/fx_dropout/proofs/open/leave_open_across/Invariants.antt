use Rattle.std.proofs.Common.{◌∷◌, get_or}
use Rattle.fx_dropout.specs.inner.Closing.{bit_in, left_bit, AreLeft, IsOpen}
use Rattle.fx_dropout.proofs.open.leave_open_across.Given as goal

abbrev pub invariant-words : goal.invariant-words
invariant-words l = AreLeft (λ w. w) (λ w c.
    IsOpen (bit_in l.fn.noted w c) (left_bit (get_or (0 ∷ l.words) w 0) (get_or l.words w 0) c) (bit_in l.words w c))
    l.fn.noted l.noted l.w
