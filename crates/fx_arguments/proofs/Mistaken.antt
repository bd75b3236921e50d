-- Something is wrong with arguments exactly if they are a usage fault: `mistakes`.
-- Serves the law `mistakes`.
use Rattle.std.proofs.Common.{◌≡◌, refl, List, drop, codes, Option, Some, None, Bool, true, false, Result, Ok, Err}
use Rattle.std.specs.Prelude.{◌↔◌, IsOk, if◌then◌else◌}
use Rattle.clap.specs.Words.{Text}
use Rattle.fx_fixed.specs.Chain.{map_fault}
use Rattle.fx_arguments.specs.declared.fault.Fault.TheVariants.{Usage}
use Rattle.fx_arguments.specs.declared.verb.Verb.{Verb}
use Rattle.fx_arguments.specs.Arguments.{is_command, verb_of}
use Rattle.fx_arguments.specs.CommandLine.{MistakesAreUsage, command_by, fault_of}
use Rattle.fx_arguments.specs.Mistakes.{asked_by, checked_by, explained}
use Rattle.fx_arguments.specs.Wrong.{WrongView, malformed, wrong}

by_wrong : {A : Type 0} (r : Result A WrongView) → IsOk (explained r) ↔ (map_fault fault_of r ≡ Err Usage → ⊥)
by_wrong (Ok x) = (λ _ e. absurd (cc), λ _. refl)
by_wrong (Err (wrong text)) = (λ h. absurd (cc), λ none. absurd (none refl))
by_wrong (Err malformed) = (λ _ e. absurd (cc), λ _. refl)

by_explain : {A : Type 0} (explain : Bool) (x : A) (text : Text)
    → IsOk (if explain then Ok (tt {0}) else Err text) ↔ ((if explain then Ok x else Err Usage) ≡ Err Usage → ⊥)
by_explain true x text = (λ _ e. absurd (cc), λ _. refl)
by_explain false x text = (λ h. absurd (cc), λ none. absurd (none refl))

by_verb : (verb : Option Verb) (words : List Text) → IsOk (checked_by verb words) ↔ (command_by verb words ≡ Err Usage → ⊥)
by_verb (Some verb) words = by_wrong (asked_by verb words)
by_verb None words = by_explain (is_command (codes "explain") words) _ _

pub mistakes : MistakesAreUsage
mistakes arguments = by_verb (verb_of (drop 1 arguments)) (drop 1 arguments)
