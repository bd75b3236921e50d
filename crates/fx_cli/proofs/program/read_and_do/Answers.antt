use Rattle.std.proofs.Common.{ap, ◌∙◌, ◌≡◌, ◌++◌, Some, refl, sym, inl, inr}
use Rattle.std.proofs.KnownBytes.{Keeps-refl}
use Rattle.fx_arguments.specs.Commands.{seen}
use Rattle.fx_strike.proofs.Exits.{came}
use Rattle.fx_cli.specs.Runs.{font_bytes}
use Rattle.fx_cli.proofs.Made.{task_ends, told_as, untold, untold_after}
use Rattle.fx_cli.proofs.Telling.{no_font, no_text}
use Rattle.fx_cli.proofs.program.read_and_do.Goals as goal

pub returns-in_err-command-clause-ends : goal.returns-in_err-command-clause-ends
returns-in_err-command-clause-ends g c =
    rw (came c.from_residual.result c.from_residual.ensures.1)
    (untold (inl (
      c.in_err-command.field-0.0,
      refl,
      record {
        why = c.in_err-command.ensures;
        unread = (refl, refl);
        untouched = (refl, refl);
        silent = refl;
        unseen = c.requires.unseen;
      },
    )))

pub returns-in_err-text-clause-ends : goal.returns-in_err-text-clause-ends
returns-in_err-text-clause-ends g c =
    let e = (c.in_err-text.ensures).cut in
    rw (came c.from_residual-in_err-text.result c.from_residual-in_err-text.ensures.1)
    (untold_after c.args.ahead.now c.in_ok-command.ensures (no_text (seen c.in_ok-command.command) c.args.ahead.now _ _ _ e.0 e.1
    e.3 (Keeps-refl _, refl) c.requires.unseen c.in_err-text.field-0.0 e.2))

pub returns-in_err-bytes-clause-ends : goal.returns-in_err-bytes-clause-ends
returns-in_err-bytes-clause-ends g c =
    let e = (c.in_ok-text.ensures).whole in
    rw (came c.from_residual-in_err-bytes.result c.from_residual-in_err-bytes.ensures.1)
    (untold_after c.args.ahead.now c.in_ok-command.ensures (no_font (seen c.in_ok-command.command) c.args.ahead.now _ _ _ e.0 _ e.1
    e.2 e.4 e.3 (Keeps-refl _, refl) c.requires.unseen c.in_err-bytes.field-0.0 c.in_err-bytes.ensures.refused))

pub returns-clause-ends : goal.returns-clause-ends
returns-clause-ends g c =
    let e = (c.in_ok-text.ensures).whole in
    let hex = c.in_ok-command.command.hex in
    let decoded : font_bytes hex (c.args.ahead.now.text ++ e.0) ≡ Some c.deref.result.now
    = ap (font_bytes hex) (sym e.3) ∙ c.in_ok-bytes.ensures.bytes ∙ ap Some (sym c.deref.ensures.value) in
    rw c.late.ensures (told_as c.run_task-outcome.ensures (λ told leaves.
    inr (
      seen c.in_ok-command.command,
      c.in_ok-command.ensures,
      task_ends c.run_task-outcome.result (record {
        more = e.0;
        read = e.1;
        whole = e.2;
        quiet = (c.in_ok-text.ensures).quiet;
        rest = e.4;
        fits = rw e.3 at (c.in_ok-text.ensures).fits;
        font = c.deref.result.now;
        decoded = decoded;
        leaves = rw c.new-font.ensures at leaves;
        seen = rw c.new-font.ensures at c.seen_of.ensures;
      }),
    )))
