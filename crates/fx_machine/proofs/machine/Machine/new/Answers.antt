use Rattle.std.proofs.Common.{◌∙◌, ap}
use Rattle.std.proofs.lemmas.Result.{err_from_is_err_and}
use Rattle.fx_machine.specs.declared.machine.FirstRun.{FirstRun}
use Rattle.fx_machine.proofs.Starting.{machine_fails, machine_is, stack_fails, stack_is, seen_failed, seen_made}
use Rattle.fx_machine.proofs.Starting.{first_fits, first_known, first_of_font}
use Rattle.fx_machine.proofs.machine.Machine.new.Goals as goal

pub returns-in_err-first-clause-value : goal.returns-in_err-first-clause-value
returns-in_err-first-clause-value g c go =
    let p = err_from_is_err_and c.from_residual-in_err-first.result c.from_residual-in_err-first.ensures.1 in
    machine_fails _ _ _ _ _ _ 0 c.of-scale.ensures (c.new.ensures ∙ c.table_or_empty-font_program.ensures.table)
    (c.new-2.ensures ∙ c.table_or_empty-prep.ensures.table) c.new-3.ensures _ _ _ p.1 p.2 (c.in_err-first.ensures.value go)

pub returns-in_err-first-clause-stack : goal.returns-in_err-first-clause-stack
returns-in_err-first-clause-stack g c go =
    let p = err_from_is_err_and c.from_residual-in_err-first.result c.from_residual-in_err-first.ensures.1 in
    stack_fails _ _ _ _ _ _ 0 c.of-scale.ensures (c.new.ensures ∙ c.table_or_empty-font_program.ensures.table)
    (c.new-2.ensures ∙ c.table_or_empty-prep.ensures.table) c.new-3.ensures _ _ _ p.1 p.2 (c.in_err-first.ensures.value go)

pub returns-in_err-first-clause-watched : goal.returns-in_err-first-clause-watched
returns-in_err-first-clause-watched g c =
    let p = err_from_is_err_and c.from_residual-in_err-first.result c.from_residual-in_err-first.ensures.1 in
    seen_failed _ _ _ _ _ _ 0 c.of-scale.ensures (c.new.ensures ∙ c.table_or_empty-font_program.ensures.table)
    (c.new-2.ensures ∙ c.table_or_empty-prep.ensures.table) c.new-3.ensures g.W.Watching.Sees _ _ FirstRun _ _ _ p.1 p.2
    c.in_err-first.ensures.watched

pub returns-clause-value : goal.returns-clause-value
returns-clause-value g c go =
    machine_is _ _ _ _ _ _ 0 c.of-scale.ensures (c.new.ensures ∙ c.table_or_empty-font_program.ensures.table)
    (c.new-2.ensures ∙ c.table_or_empty-prep.ensures.table) c.new-3.ensures _ _ _ c.in_ok-first.ensures.sizes.scale
    c.in_ok-first.ensures.prepared (c.in_ok-first.ensures.value go)

pub returns-clause-stack : goal.returns-clause-stack
returns-clause-stack g c go =
    stack_is _ _ _ _ _ _ 0 c.of-scale.ensures (c.new.ensures ∙ c.table_or_empty-font_program.ensures.table)
    (c.new-2.ensures ∙ c.table_or_empty-prep.ensures.table) c.new-3.ensures _ _ (c.in_ok-first.ensures.value go)

pub returns-clause-watched : goal.returns-clause-watched
returns-clause-watched g c =
    seen_made _ _ _ _ _ _ 0 c.of-scale.ensures (c.new.ensures ∙ c.table_or_empty-font_program.ensures.table)
    (c.new-2.ensures ∙ c.table_or_empty-prep.ensures.table) c.new-3.ensures g.W.Watching.Sees _ _ c.in_ok-first.ensures.watched

pub returns-clause-storage : goal.returns-clause-storage
returns-clause-storage g c =
    let known = first_of_font c.args.font _ _ _ _ c.of-scale.ensures c.in_ok-first.ensures.shapes c.in_ok-first.ensures.sizes
    c.in_ok-first.ensures.prepared in ap (λ n. n.storage) known.sizes

pub returns-clause-controls : goal.returns-clause-controls
returns-clause-controls g c =
    let known = first_of_font c.args.font _ _ _ _ c.of-scale.ensures c.in_ok-first.ensures.shapes c.in_ok-first.ensures.sizes
    c.in_ok-first.ensures.prepared in ap (λ n. n.cvt) known.sizes

pub returns-clause-twilight : goal.returns-clause-twilight
returns-clause-twilight g c =
    let known = first_of_font c.args.font _ _ _ _ c.of-scale.ensures c.in_ok-first.ensures.shapes c.in_ok-first.ensures.sizes
    c.in_ok-first.ensures.prepared in ap (λ n. n.twilight) known.sizes

pub invariant_of-result : goal.invariant_of-result
invariant_of-result g c =
    let known = first_known _ _ _ _ _ c.of-scale.ensures c.in_ok-first.ensures.shapes c.in_ok-first.ensures.sizes
    c.in_ok-first.ensures.prepared in (
      first_fits _ _ c.in_ok-first.ensures.prepared,
      c.in_ok-first.ensures.sizes.store.room,
      c.first_run.ensures.targets ∙ (c.in_ok-targets.ensures ∙ (c.new-4.ensures ∙ c.table_or_empty-font_program.ensures.table)),
      c.table_or_empty-prep.ensures.table,
      known.0,
      known.1,
    )
