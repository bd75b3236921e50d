use Rattle.std.proofs.Common.{◌≡◌, ◌∙◌, ℕ, ◌+◌, ◌<◌, List, ap, arith, drop, get_or, length, sym}
use Rattle.std.specs.Prelude.{fold}
use Rattle.std.specs.Borrow.{Bor}
use Rattle.std.proofs.lemmas.List.{drop_more}
use Rattle.clap.specs.Walk.{Rule, Text}
use Rattle.clap.specs.Simple.{App, with_rule}
use Rattle.fx_arguments.specs.declared.commands.Takes.{Takes}
use Rattle.fx_arguments.specs.inner.Options.{rule_taking, with_option}
use Rattle.fx_arguments.proofs.commands.command_with.Goals as goal

one_more : (app next all : App) (rule : Rule) (options : List (Bor Text × Takes)) (i : ℕ) (d : Bor Text × Takes)
    → i < length options → next ≡ with_rule app rule → rule ≡ rule_taking (get_or options i d).1 (get_or options i d).0.now
    → fold with_option app (drop i options) ≡ all → fold with_option next (drop (i + 1) options) ≡ all
one_more app next all rule options i d within n r e =
    ap (λ (a : App). fold with_option a (drop (i + 1) options)) (n ∙ ap (with_rule app) r)
    ∙ sym (ap (fold with_option app) (drop_more options i d within)) ∙ e

pub options-preserved : goal.options-preserved
options-preserved c =
    one_more _ _ _ _ c.args.options.now c.options.option-index _ (omega (arith, c.options-test.true))
    (c.in_ok-command.ensures.shape c.option_of.ensures.local) c.option_of.ensures.rule c.options.invariant
