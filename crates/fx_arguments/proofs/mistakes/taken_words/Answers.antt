use Rattle.std.proofs.Common.{◌≡◌, ◌∙◌, ◌-◌, ap, arith, take, Ok}
use Rattle.fx_arguments.specs.Arguments.{texts}
use Rattle.fx_arguments.specs.Mistakes.{is_taken}
use Rattle.fx_arguments.proofs.Saying.{taken_here, texts_take}
use Rattle.fx_arguments.proofs.mistakes.taken_words.Goals as goal

pub returns-then-branch-clause-due : goal.returns-then-branch-clause-due
returns-then-branch-clause-due c =
    let is : is_taken c.args.verb (texts (take c.shorter.n c.args.words.now)) ≡ c.in_ok-is_taken.field-0
    = cc (c.in_ok-is_taken.ensures) in
    ap Ok (c.shorter.invariant.longest ∙ taken_here c.args.verb (texts c.args.words.now) c.shorter.n (c.shorter.n - 1)
    (omega (arith, c.shorter-test.true))
    (ap (is_taken c.args.verb) (texts_take c.shorter.n c.args.words.now) ∙ is ∙ c.if-branch.true))
