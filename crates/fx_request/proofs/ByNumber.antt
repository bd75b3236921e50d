-- Each number of a refusal has its name (`numbers_have_names`) and its advice (`numbers_have_advice`).
-- Serves the laws `names` and `advice`.
use Rattle.std.proofs.Common.{◌≡◌, refl, Option, Some, None}
use Rattle.std.specs.Prelude.{is_some, option_map}
use Rattle.std.specs.Option.{option_or}
use Rattle.fx_machine.specs.Causes as causes
use Rattle.fx_machine.specs.declared.halt.Cause.{Cause}
use Rattle.fx_machine.specs.declared.halt.Cause.TheVariants as cause
use Rattle.fx_request.specs.Advice.{AdvisedAreNamed, NumbersHaveAdvice, advice_of, advised, after_halt}
use Rattle.fx_request.specs.declared.refusal.Refusal.{Refusal}
use Rattle.fx_request.specs.declared.refusal.Refusal.TheVariants as refusal
use Rattle.fx_request.specs.Refusals.{NumbersHaveNames, cause_among, each_cause, each_refusal, name_of, named, refusal_among}

cause_named : (c : Cause) → named (causes.number_of c) ≡ Some (causes.name_of c)
unfolding named
cause_named cause.StackUnder = refl
cause_named _ = refl

pub numbers_have_names : NumbersHaveNames
unfolding named
numbers_have_names (refusal.Halted halt) = cause_named halt.cause
numbers_have_names _ = refl

cause_advised : (c : Cause) → advised (causes.number_of c) ≡ Some (after_halt c)
unfolding advised
cause_advised cause.StackUnder = refl
cause_advised _ = refl

pub numbers_have_advice : NumbersHaveAdvice
unfolding advised
numbers_have_advice (refusal.Halted halt) = cause_advised halt.cause
numbers_have_advice _ = refl

-- whether something is said does not depend on what is said
said_alike : {X Y A B : Type 0} (f : X → A) (g : Y → A) (h : X → B) (i : Y → B) (x : Option X) (y : Option Y)
    → is_some (option_or (option_map f x) (option_map g y)) ≡ is_some (option_or (option_map h x) (option_map i y))
said_alike f g h i (Some x) y = refl
said_alike f g h i None (Some y) = refl
said_alike f g h i None None = refl

pub advised_are_named : AdvisedAreNamed
unfolding advised named
advised_are_named number = said_alike advice_of after_halt name_of causes.name_of (refusal_among each_refusal number)
    (cause_among each_cause number)
