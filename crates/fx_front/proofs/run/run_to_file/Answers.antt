use Rattle.std.proofs.Common.{◌∙◌, sym, inl, inr}
use Rattle.fx_front.proofs.run.run_to_file.Goals as goal

pub returns-clause-ran : goal.returns-clause-ran
returns-clause-ran g c = record {
  said = c.run-status.new.err;
  between = c.say_end.ensures.0;
  own = record {
    status = c.run-status.result;
    is_blank = c.is_blank-is_blank.result;
    is_named = c.settle.result;
    is_unmade = c.is_unmade-is_unmade.result;
  };
  ran = record {
    new = c.close-new.result;
    faults = c.run-status.new.out.faults;
    ran = rw (c.new-late.ensures.held, c.new-late.ensures.faults, sym c.close-new.ensures) at c.run-status.ensures.ran;
    unmade = rw c.faults-faults.ensures at c.is_unmade-is_unmade.ensures;
    named = λ e. (
      elim (c.settle.ensures.due e) [
        | inl h ↦ inl h
        | inr h ↦ inr (sym (rw c.is.ensures at c.keeps-is_kept.ensures) ∙ h)
      ],
      c.settle.ensures.named e,
    );
    spared = c.settle.ensures.spared;
    sure = c.settle.ensures.sure;
  };
  ended = c.ended_status.ensures;
  first = c.say_end.ensures.3;
  second = c.say_end.ensures.4;
  first_line = c.say_end.ensures.1;
  second_line = c.say_end.ensures.2;
}
