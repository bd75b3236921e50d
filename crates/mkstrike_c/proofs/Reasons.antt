-- The name of a number is the refusal's (`reasons_are_names`), and no two have one number (`numbers_are_apart`).
-- Serves the laws `reasons`, `advice` and `numbers`.
use Rattle.std.proofs.Common.{◌≡◌, refl, arith, ◌<◌}
use Rattle.mkstrike_c.specs.Refused.{bad_block, bad_mode}
use Rattle.fx_machine.specs.Causes as causes
use Rattle.fx_machine.specs.declared.halt.Cause.{Cause}
use Rattle.fx_machine.specs.declared.halt.Cause.TheVariants as cause
use Rattle.fx_request.specs.Advice.{advised, after_halt}
use Rattle.fx_request.specs.declared.refusal.Refusal.TheVariants as refusal
use Rattle.fx_request.specs.Refusals.{named}
use Rattle.mkstrike_c.specs.Reasons.{AdviceIsOfRefusals, NumbersAreApart, ReasonsAreNames, advice_of, reason_of}

of_cause : (c : Cause) → reason_of (causes.number_of c) ≡ causes.name_of c
unfolding reason_of named
of_cause cause.StackUnder = refl
of_cause _ = refl

pub reasons_are_names : ReasonsAreNames
unfolding reason_of named
reasons_are_names (refusal.Halted halt) = of_cause halt.cause
reasons_are_names _ = refl

after_cause : (c : Cause) → advice_of (causes.number_of c) ≡ after_halt c
unfolding advice_of advised
after_cause cause.StackUnder = refl
after_cause _ = refl

pub advice_is_of_refusals : AdviceIsOfRefusals
unfolding advice_of advised
advice_is_of_refusals (refusal.Halted halt) = after_cause halt.cause
advice_is_of_refusals _ = refl

cause_apart : (c : Cause) → (1 < causes.number_of c) × (causes.number_of c ≡ bad_mode → ⊥) × (causes.number_of c ≡ bad_block → ⊥)
cause_apart cause.StackUnder = (omega arith, λ e. omega (arith, e), λ e. omega (arith, e))
cause_apart _ = (omega arith, λ e. omega (arith, e), λ e. omega (arith, e))

pub numbers_are_apart : NumbersAreApart
numbers_are_apart (refusal.Halted halt) = cause_apart halt.cause
numbers_are_apart _ = (omega arith, λ e. omega (arith, e), λ e. omega (arith, e))
