use Rattle.std.proofs.Common.{◌≡◌, ◌-◌, ◌<◌, ◌≤◌, sym, ◌∙◌, refl, arith}
use Rattle.std.proofs.lemmas.Result.{err_from_is_err_and}
use Rattle.fx_strike.specs.Careful.{character_work, prelude_size}
use Rattle.fx_strike.specs.Strike.{machine_within}
use Rattle.fx_strike.proofs.CarefulMachines.{size_over, font_over, careful_ok, careful_halt}
use Rattle.fx_strike.proofs.hinter.careful_machine.Goals as goal

pub returns-in_default : goal.returns-in_default
unfolding machine_within
returns-in_default c =
    let font = c.args.opened.now.font in
    let over : character_work < prelude_size font = omega (arith, c.in_default.ensures, c.prelude_size.ensures) in
    rw (size_over font c.args.opened.now.ppem over) refl

pub returns-then-stops : goal.returns-then-stops
unfolding machine_within
returns-then-stops c =
    let font = c.args.opened.now.font in
    let small : prelude_size font ≤ character_work = omega (arith, c.in-Some.ensures, c.prelude_size.ensures) in
    let room : c.in-Some.left ≡ character_work - prelude_size font = omega (arith, c.in-Some.ensures, c.prelude_size.ensures) in
    let saw = rw (c.shared.ensures, c.new-budget.ensures, room) at c.new-made.ensures.watched in
    rw (font_over _ _ c.new-made.new.watcher small c.new-made.result saw (sym c.stops.ensures ∙ c.if-stops.true)) refl

pub returns-in_err-made : goal.returns-in_err-made
returns-in_err-made c =
    let font = c.args.opened.now.font in
    let small : prelude_size font ≤ character_work = omega (arith, c.in-Some.ensures, c.prelude_size.ensures) in
    let room : c.in-Some.left ≡ character_work - prelude_size font = omega (arith, c.in-Some.ensures, c.prelude_size.ensures) in
    let p = err_from_is_err_and c.from_residual.result c.from_residual.ensures.1 in
    let within = sym c.stops.ensures ∙ c.if-stops.false in
    let saw = rw (c.shared.ensures, c.new-budget.ensures, room) at c.new-made.ensures.watched in
    rw (p.1, p.2) (careful_halt _ _ c.new-made.new.watcher small c.new-made.result c.in_err-made.field-0.0 c.in_err-made.was saw
    within (rw c.shared.ensures at (c.in_err-made.ensures.value within)))

pub returns : goal.returns
returns c =
    let font = c.args.opened.now.font in
    let small : prelude_size font ≤ character_work = omega (arith, c.in-Some.ensures, c.prelude_size.ensures) in
    let room : c.in-Some.left ≡ character_work - prelude_size font = omega (arith, c.in-Some.ensures, c.prelude_size.ensures) in
    let within = sym c.stops.ensures ∙ c.if-stops.false in
    let saw = rw (c.shared.ensures, c.new-budget.ensures, room) at c.in_ok-made.ensures.watched in
    careful_ok _ _ c.new-made.new.watcher small c.in_ok-made.field-0 _ saw within
    (rw c.shared.ensures at (c.in_ok-made.ensures.value within))
