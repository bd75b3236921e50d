use Rattle.std.proofs.Common.{◌≡◌, ◌∙◌, sym, true, false, refl, Ok, Err}
use Rattle.std.proofs.lemmas.Result.{err_from_is_err_and}
use Rattle.fx_hint.specs.Bounded.{left_after, outline_within}
use Rattle.fx_hint.specs.Outlines.{view_of_glyph_outline}
use Rattle.fx_hint.proofs.Bounding.{left_by_fault, left_by_runs, spent, not_spent, none_of}
use Rattle.fx_hint.proofs.bounded.outline_within.Goals as goal

pub outline_in-result-requires : goal.outline_in-result-requires
outline_in-result-requires c = record {
  held = record {
    are_true = c.new-kept.ensures.held _;
    unseen = λ room x run. let no : false ≡ true = sym c.new-kept.ensures.room ∙ room in absurd cc;
  };
}

pub returns-then-stops-clause-left : goal.returns-then-stops-clause-left
unfolding left_after
returns-then-stops-clause-left c =
    let none = sym c.stops.ensures ∙ c.if-stops.true in
    none_of _ _ none (spent (λ m. m.machine.known) (λ m. m.watcher.watcher) (λ w. w.watcher) c.args.machine.now
    c.outline_in-result.new.hinter c.outline_in-result.result _ c.outline_in-result.ensures.leads none)

pub returns-then-stops-clause-value : goal.returns-then-stops-clause-value
unfolding left_after outline_within
returns-then-stops-clause-value c =
    let all = spent (λ m. m.machine.known) (λ m. m.watcher.watcher) (λ w. w.watcher) c.args.machine.now
    c.outline_in-result.new.hinter c.outline_in-result.result _ c.outline_in-result.ensures.leads
    (sym c.stops.ensures ∙ c.if-stops.true) in
    rw all refl

pub returns-in_err-result-clause-left : goal.returns-in_err-result-clause-left
unfolding left_after
returns-in_err-result-clause-left c =
    let p = err_from_is_err_and c.from_residual.result c.from_residual.ensures.1 in
    rw (p.1, p.2) (left_by_fault (λ m. m.machine.known) (λ m. m.watcher.watcher) (λ w. w.watcher) c.args.machine.now
    c.outline_in-result.new.hinter c.in_err-result.field-0.0 _ c.in_err-result.ensures.leads)

pub returns-in_err-result-clause-value : goal.returns-in_err-result-clause-value
unfolding left_after outline_within
returns-in_err-result-clause-value c =
    let p = err_from_is_err_and c.from_residual.result c.from_residual.ensures.1 in
    rw (p.1, p.2) (not_spent (λ m. m.machine.known) (λ m. m.watcher.watcher) (λ w. w.watcher) c.args.machine.now
    c.outline_in-result.new.hinter view_of_glyph_outline (Err c.in_err-result.field-0.0) _ _ c.in_err-result.ensures.leads
    (sym c.stops.ensures ∙ c.if-stops.false) c.in_err-result.ensures.value)

pub returns-clause-left : goal.returns-clause-left
unfolding left_after
returns-clause-left c =
    left_by_runs (λ m. m.machine.known) (λ m. m.watcher.watcher) (λ w. w.watcher) c.args.machine.now
    c.outline_in-result.new.hinter _ c.in_ok-result.ensures.leads

pub returns-clause-value : goal.returns-clause-value
unfolding left_after outline_within
returns-clause-value c =
    not_spent (λ m. m.machine.known) (λ m. m.watcher.watcher) (λ w. w.watcher) c.args.machine.now
    c.outline_in-result.new.hinter view_of_glyph_outline (Ok c.in_ok-result.field-0) _ _ c.in_ok-result.ensures.leads
    (sym c.stops.ensures ∙ c.if-stops.false) c.in_ok-result.ensures.value
