use Rattle.std.proofs.Common.{◌∙◌, arith}
use Rattle.fx_request.proofs.Rising.{few_rising, rising_are_risen}
use Rattle.fx_strike.proofs.Mapping.{others_counted}
use Rattle.fx_strike.proofs.striker.Striker.characters.Goals as goal

pub look_up-requires : goal.look_up-requires
look_up-requires g c = record {
  rise = rw (c.deref.ensures.value ∙ c.in_ok-codes.ensures) (rising_are_risen c.args.chars.now).rise;
}

pub overflow_sub-missing : goal.overflow_sub-missing
overflow_sub-missing g c =
    grind (
      arith,
      c.in_ok-codes.ensures,
      c.deref.ensures.value,
      c.in_ok-mapped.ensures,
      c.len-requested.ensures,
      c.len-found.ensures,
      others_counted,
    )

pub overflow_cast-missing : goal.overflow_cast-missing
overflow_cast-missing g c = grind (arith, c.len-requested.ensures, c.in_ok-codes.ensures, c.requires.few, few_rising)

pub returns-clause-characters : goal.returns-clause-characters
returns-clause-characters g c =
    grind (
      arith,
      c.deref.ensures.value,
      c.in_ok-codes.ensures,
      c.in_ok-mapped.ensures,
      c.len-requested.ensures,
      c.len-found.ensures,
      c.requires.few,
      others_counted,
      few_rising,
    )
