use Rattle.std.proofs.Common.{arith, ◌≡◌, ◌∙◌, inl, inr, ap, ap₂, sym, refl, ℕ, List, ◌∷◌, take, length}
use Rattle.std.proofs.lemmas.List.{length-take-le}
use Rattle.std.proofs.KnownBytes.{Keeps-refl}
use Rattle.clap.specs.Walk.{Text}
use Rattle.fx_fixed.specs.Changes.{Change}
use Rattle.fx_arguments.specs.Input.{line_of, arguments_of_line}
use Rattle.fx_arguments.specs.Arguments.{texts}
use Rattle.fx_strike.proofs.Exits.{came}
use Rattle.fx_cli.proofs.FirstLines.{few_arguments, first_ends, for_line, length-line_of, line_read}
use Rattle.fx_cli.proofs.Made.{told_as, untold}
use Rattle.fx_cli.proofs.Telling.{no_line, no_room}
use Rattle.fx_cli.proofs.program.read_line_and_do.Goals as goal

pub returns-in_default-clause-ends : goal.returns-in_default-clause-ends
returns-in_default-clause-ends g c =
    let given : List Text = texts c.args.arguments.now in
    let first : List ℕ = take c.in_ok-filled.filled c.read_line.new.buffer in
    let all : length first ≡ c.in_ok-filled.filled =
    length-take-le c.in_ok-filled.filled c.read_line.new.buffer (omega (arith, c.in_ok-filled.ensures.sizes.1)) in
    let line : take c.in_ok-filled.end first ≡ line_of first = ap (λ (k : ℕ). take k first) c.in_ok-filled.ensures.line in
    untold (record {
      got = first;
      read = c.in_ok-filled.ensures.read;
      spared = (Keeps-refl (g.O.Sink.held c.args.out.now), refl);
      silent = refl;
      unseen = c.requires.unseen;
      reason = (
        rw (few_arguments c.args.arguments.now c.requires.given) (inr (
          line_read c.read_line.new.buffer c.in_ok-filled.filled c.in_ok-filled.end _
              (omega (arith, c.in_ok-filled.ensures.sizes.1)) c.in_ok-filled.ensures.line c.in_ok-filled.ensures.whole,
          inl (rw line at c.in_default.ensures.cases.0),
        )),
        for_line given first _ (few_arguments c.args.arguments.now c.requires.given)
            (omega (arith, all, c.in_ok-filled.ensures.sizes.1)) c.in_ok-filled.ensures.quiet,
      );
    })

pub returns-in_err-filled-clause-ends : goal.returns-in_err-filled-clause-ends
returns-in_err-filled-clause-ends g c =
    let e = (c.in_err-filled.ensures).cut in
    rw (came c.from_residual.result c.from_residual.ensures.1)
    (untold (no_line (texts c.args.arguments.now) _ _ _ e.0 (few_arguments c.args.arguments.now c.requires.given) e.1
    (Keeps-refl (g.O.Sink.held c.args.out.now), refl) c.requires.unseen c.in_err-filled.field-0.0 e.2))

pub returns-in_err-arguments-clause-ends : goal.returns-in_err-arguments-clause-ends
returns-in_err-arguments-clause-ends g c =
    untold (no_room (texts c.args.arguments.now) _ _ _ _ c.in_ok-filled.ensures.read
    (Keeps-refl (g.O.Sink.held c.args.out.now), refl) c.requires.unseen c.from_residual-in_err-arguments.result
    c.from_residual-in_err-arguments.ensures.1)

pub returns-clause-ends : goal.returns-clause-ends
returns-clause-ends g c =
    let given : List Text = texts c.args.arguments.now in
    let first : List ℕ = take c.in_ok-filled.filled c.read_line.new.buffer in
    let all : length first ≡ c.in_ok-filled.filled =
    length-take-le c.in_ok-filled.filled c.read_line.new.buffer (omega (arith, c.in_ok-filled.ensures.sizes.1)) in
    let line : take c.in_ok-filled.end first ≡ line_of first = ap (λ (k : ℕ). take k first) c.in_ok-filled.ensures.line in
    let line_is : c.in-Ok.line.now ≡ line_of first = c.in-Ok.ensures.cases.0 ∙ line in
    let source : Change = record {
      bytes_before = g.R.Source.left c.read_line.new.reader;
      bytes = g.R.Source.left c.read_and_do.new.reader;
      faults_before = g.R.Source.fault_count c.read_line.new.reader;
      faults = g.R.Source.fault_count c.read_and_do.new.reader;
    } in
    let sink : Change = record {
      bytes_before = g.O.Sink.held c.args.out.now;
      bytes = g.O.Sink.held c.read_and_do.new.out;
      faults_before = g.O.Sink.fault_count c.args.out.now;
      faults = g.O.Sink.fault_count c.read_and_do.new.out;
    } in
    let told = rw c.of-ahead.ensures at c.read_and_do.ensures.ends in
    told_as told (λ notices ends. first_ends {given = given} {first = first} {before = g.R.Source.left c.args.reader.now}
    {arguments = texts c.deref.result.now}
    (g.R.Source.fault_count c.args.reader.now) source sink notices c.read_and_do.new.watch (sym c.in_ok-filled.ensures.quiet)
    (record {
      none = few_arguments c.args.arguments.now c.requires.given;
      read = c.in_ok-filled.ensures.read;
      few = omega (arith, all, c.in_ok-filled.ensures.sizes.1);
      utf8 = rw line at c.in-Ok.ensures.cases.1;
      short = omega (arith, length-line_of first, c.in_ok-filled.ensures.line, c.in_ok-filled.ensures.sizes.2);
      arguments_are = ap texts c.deref.ensures.value ∙ c.in_ok-arguments.ensures ∙
          ap₂ (λ (p l : List ℕ). p ∷ arguments_of_line l) c.program_name.ensures line_is;
    })
    (line_read c.read_line.new.buffer c.in_ok-filled.filled c.in_ok-filled.end _ (omega (arith, c.in_ok-filled.ensures.sizes.1))
    c.in_ok-filled.ensures.line c.in_ok-filled.ensures.whole)
    c.read_and_do.result ends)
