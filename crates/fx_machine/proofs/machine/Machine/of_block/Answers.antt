use Rattle.std.proofs.Common.{◌≡◌, ap, sym, rules, Some, ◌∙◌}
use Rattle.fx_scale.specs.Scaling.{scale_of}
use Rattle.fx_machine.specs.Blocks.{IsOfFont}
use Rattle.fx_machine.proofs.BlockMachines.{origin_there, all_there, known_is, never, own_origin, said_of_font, blank_fits}
use Rattle.fx_machine.proofs.machine.Machine.of_block.Goals as goal

pub returns-in_default-clause-known : goal.returns-in_default-clause-known
returns-in_default-clause-known c = λ known f p b. absurd (origin_there c.args.font c.args.ppem c.args.block.now known f p b
    c.in_default.ensures)

pub returns-in_default-2-clause-known : goal.returns-in_default-2-clause-known
returns-in_default-2-clause-known c = λ known f p b.
    let taken = c.in_ok-prepared.ensures.taken (all_there c.args.font c.args.ppem c.args.block.now known f p b
    c.of-sizes.result c.in-Some.words.now (c.of-sizes.ensures c.args.ppem) c.in-Some.ensures) in
    absurd (never (rw c.in_default-2.is at taken))

pub invariant_of-result : goal.invariant_of-result
invariant_of-result c =
    let state = c.in_ok-state.ensures in
    let size : c.in_ok-state.state.value.scale.ppem ≡ c.args.ppem =
    ap (λ s. s.scale.ppem) state ∙ ap (λ s. s.ppem) c.of-scale.ensures in
    let read = rw c.in-Some-2.is at c.in_ok-prepared.ensures.value in
    let said = rw c.in-Some-2.is at c.in_ok-prepared.ensures.said in
    let of_font : IsOfFont c.args.font c.args.ppem c.in-Some-2.prepared.value = said_of_font c.args.font c.args.ppem
    c.of-sizes.result c.in-Some-2.prepared.value c.in-Some.words.now (c.of-sizes.ensures c.args.ppem) read said in (
      blank_fits c.args.font c.args.ppem c.in-Some-2.prepared.value c.of-scale.result c.in_ok-state.state.value c.of-scale.ensures
          state of_font,
      ap (λ s. s.store.room) state,
      search (rules, c.in_ok-targets.ensures),
      search (rules, c.table_or_empty-prep.ensures),
      ap (λ s. s.scale) state ∙ c.of-scale.ensures ∙ ap (λ n. scale_of c.args.font n) (sym size),
      rw size of_font,
    )

pub returns-clause-known : goal.returns-clause-known
returns-clause-known c = λ known f p b.
    let read = rw c.in-Some-2.is at c.in_ok-prepared.ensures.value in
    ap Some (known_is c.args.font c.args.ppem c.args.block.now known f p b
    c.in_ok-state.state.value.scale.ppem c.of-sizes.result c.in-Some.words.now c.in-Some-2.prepared.value c.usage_in-prelude.result
    (ap (λ s. s.scale.ppem) c.in_ok-state.ensures ∙ ap (λ s. s.ppem) c.of-scale.ensures) (c.of-sizes.ensures c.args.ppem)
    c.in-Some.ensures read c.usage_in-prelude.ensures)

pub returns-clause-own : goal.returns-clause-own
returns-clause-own c = λ known b s.
    own_origin c.args.font c.args.ppem c.args.block.now c.in-Some.words.now known c.in-Some.ensures b
