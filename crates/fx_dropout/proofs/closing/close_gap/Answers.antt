use Rattle.std.proofs.Common.{◌≡◌, ◌≢◌, subst, ◌-◌, ℕ, arith}
use Rattle.fx_winding.specs.Bitmaps.{word_bit}
use Rattle.fx_dropout.proofs.Gaps.{before_there, closed_before, closed_next, next_there}
use Rattle.fx_dropout.proofs.closing.close_gap.Goals as goal

pub set_bit-requires : goal.set_bit-requires
set_bit-requires c =
    let of = c.requires.of in
    let within = c.requires.segment in
    let l = next_there c.args.chooser.now c.args.is_up c.args.segment of.some (omega (arith, within, of.noted_long))
    (c.is_reached.ensures.value.0 c.if-is_reached.true) in
    omega (arith, l, of.words_long)

pub overflow_sub-segment : goal.overflow_sub-segment
overflow_sub-segment c =
    let l = before_there c.args.chooser.now c.args.is_up c.args.segment
    (λ r. absurd (grind (arith, c.is_reached.ensures.value.1 r, c.if-is_reached.false))) in
    omega (arith, l, c.distance.ensures)

pub returns-then-is_reached-clause-closed : goal.returns-then-is_reached-clause-closed
returns-then-is_reached-clause-closed c = closed_next c.args.chooser.now c.args.is_up c.args.gaps.now c.args.segment _ _
    c.set_bit.auto.words c.set_bit.ensures.here c.set_bit.ensures.others (c.is_set.ensures.0 c.if-not-is_set.false)
    (c.is_reached.ensures.value.0 c.if-is_reached.true)

pub returns-clause-closed : goal.returns-clause-closed
returns-clause-closed c =
    let new = c.set_bit-2.new.words in
    let set = subst (λ (far : ℕ). (word_bit new (c.args.segment - far) ≡ 1)
    × ((j : ℕ) → j ≢ c.args.segment - far → word_bit new j ≡ word_bit c.args.words.now j)) c.distance.ensures
    (c.set_bit-2.ensures.here, c.set_bit-2.ensures.others) in
    closed_before c.args.chooser.now c.args.is_up c.args.gaps.now c.args.segment _ new c.set_bit-2.auto.words set.0 set.1
    (c.is_set.ensures.0 c.if-not-is_set.false) (λ r. grind (arith, c.is_reached.ensures.value.1 r, c.if-is_reached.false))
