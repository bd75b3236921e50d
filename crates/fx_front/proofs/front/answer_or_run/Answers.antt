use Rattle.std.proofs.Common.{◌≡◌, ◌∙◌, ap, arith, false, refl, sym, true, None}
use Rattle.std.specs.Prelude.{option_map, string_bytes}
use Rattle.fx_fixed.specs.Changes.{change_of}
use Rattle.fx_words.specs.Parts.{PartsView, text_in, texts}
use Rattle.fx_front.specs.Asked.{command_in, is_explained, seen_asked}
use Rattle.fx_front.specs.Fronts.{RunsBy, names_files}
use Rattle.fx_front.specs.Lines.{IsSilent}
use Rattle.fx_front.proofs.Answering.{one_fault, quiet}
use Rattle.fx_front.proofs.Parting.{parted_is}
use Rattle.fx_front.proofs.front.answer_or_run.Goals as goal
use Rattle.fx_front.proofs.front.answer_or_run.Goals.{in-Some-lists, in-None}

pub run_on_files-requires : goal.run_on_files-requires
run_on_files-requires g c =
    let told = change_of g.E.Sink.held g.E.Sink.fault_count in
    let silent : IsSilent (told c.args.err.now c.answer.new.err) = quiet (seen_asked c.asked_by-asked.result)
    (change_of g.O.Sink.held g.O.Sink.fault_count c.args.out.now c.answer.new.out) told c.args.err.now c.answer.new.err
    c.in_default.ensures in
    omega (
      arith,
      c.requires.err,
      silent.1,
      one_fault (told c.answer.new.err c.hint_at_terminal.new.err)
          c.hint_at_terminal.ensures.line,
    )

pub returns-then-names_files-clause-came : goal.returns-then-names_files-clause-came
unfolding RunsBy
returns-then-names_files-clause-came g c =
    let listed : text_in c.match-lists.listed ≡ option_map string_bytes c.in_ok-lists.lists = elim c.match-lists.branch [
      | in-Some-lists w ↦ rw (w.listed-is, w.in-Some-lists.is, w.as_str.ensures.value) refl
      | in-None w ↦ rw (w.listed-is, w.in-None.is) refl
    ] in
    let parts = parted_is c.args.words.now c.split_at.result.0.now c.split_at.result.1.now c.command_in-count.ensures.command
    c.command_in-count.ensures.count c.is_make-is_make.ensures c.split_at.ensures.front c.split_at.ensures.back
    c.in_ok-lists.ensures listed c.in_ok-parts.ensures in
    let names : names_files (command_in (texts c.args.words.now)) (is_explained (texts c.args.words.now)) ≡ true
    = rw (c.command_in-count.ensures.command, c.is_explained-is_explained.ensures) at (sym c.names_files.ensures)
    ∙ c.if-names_files.true in (
      c.has_terminal-is_terminal.result,
      c.has_terminal-is_terminal.ensures,
      (
        None,
        c.answer.new.err,
        rw c.asked_by-asked.ensures at c.in_default.ensures,
        rw names (
          c.hint_at_terminal.new.err,
          rw (c.font_of.ensures, ap (λ (view : PartsView). view.font) parts) at c.hint_at_terminal.ensures.told,
          c.hint_at_terminal.ensures.line,
          rw (parts, c.command_in-count.ensures.command) at c.in_ok-status.ensures.ran,
        ),
      ),
    )

pub returns-clause-came : goal.returns-clause-came
unfolding RunsBy
returns-clause-came g c =
    let listed : text_in c.match-lists.listed ≡ option_map string_bytes c.in_ok-lists.lists = elim c.match-lists.branch [
      | in-Some-lists w ↦ rw (w.listed-is, w.in-Some-lists.is, w.as_str.ensures.value) refl
      | in-None w ↦ rw (w.listed-is, w.in-None.is) refl
    ] in
    let parts = parted_is c.args.words.now c.split_at.result.0.now c.split_at.result.1.now c.command_in-count.ensures.command
    c.command_in-count.ensures.count c.is_make-is_make.ensures c.split_at.ensures.front c.split_at.ensures.back
    c.in_ok-lists.ensures listed c.in_ok-parts.ensures in
    let names : names_files (command_in (texts c.args.words.now)) (is_explained (texts c.args.words.now)) ≡ false
    = rw (c.command_in-count.ensures.command, c.is_explained-is_explained.ensures) at (sym c.names_files.ensures)
    ∙ c.if-names_files.false in (
      c.has_terminal-is_terminal.result,
      c.has_terminal-is_terminal.ensures,
      (
        None,
        c.answer.new.err,
        rw c.asked_by-asked.ensures at c.in_default.ensures,
        rw names
            (rw (parts, c.command_in-count.ensures.command, c.is_explained-is_explained.ensures) at c.run_on_streams.ensures.ran),
      ),
    )
