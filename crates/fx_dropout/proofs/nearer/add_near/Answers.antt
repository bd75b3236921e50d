use Rattle.std.proofs.Common.{◌∙◌, sym, ap, pos, ◌+ℤ◌, ◌-ℤ◌, ◌<ℤ◌, ◌≡◌, true, ℕ, ◌<◌, arith}
use Rattle.std.specs.Prelude.{if◌then◌else◌}
use Rattle.std.proofs.lemmas.Int.{ints}
use Rattle.fx_fixed.proofs.Linear.{signed_linear}
use Rattle.fx_rows.specs.inner.Sums.{is_among}
use Rattle.fx_winding.specs.Area.{Place}
use Rattle.fx_winding.specs.Outside.{HasAll}
use Rattle.fx_winding.specs.Winding.{span_of}
use Rattle.fx_winding.proofs.Beside.{HasAll-weaker, left_off}
use Rattle.fx_winding.proofs.Turning.{left_of_all}
use Rattle.fx_dropout.specs.inner.Places.{above, count_at, place_in}
use Rattle.fx_dropout.proofs.Adding.{centre_held, off_added}
use Rattle.fx_dropout.proofs.Stretching.{held}
use Rattle.fx_dropout.proofs.nearer.add_near.Goals as goal

all_among : (n : ℕ) → n < 128 → is_among (pos 0) (pos 127) (pos n) ≡ true
all_among n l = grind (arith, ints)

pub add_run-requires-clause-small : goal.add_run-requires-clause-small
add_run-requires-clause-small c = λ n l. let small = c.requires.small n l in omega (arith, signed_linear, small)

pub returns-then-is_after-clause-added : goal.returns-then-is_after-clause-added
returns-then-is_after-clause-added c = λ n l.
    let s = span_of c.args.piece.now in
    let q = c.centre_of-first.result in
    let p = place_in c.args.pair n in
    let near = q.near_x in
    let near' = q.near_y in
    let at = c.centre_of-first.ensures ∙ centre_held c.args.pair in
    let x = ap (λ (q : Place). q.x) at in
    let y = ap (λ (q : Place). q.y) at in
    let right : HasAll (λ e. p.x <ℤ e.x) s =
    HasAll-weaker (λ e. held (held q.x +ℤ pos 127) <ℤ e.x) (λ e. p.x <ℤ e.x) (λ e h. omega (arith, signed_linear, near, x, l, h)) s
    (c.is_after.ensures.0 c.if-is_after.true) in
    let level : held q.y ≡ p.y = omega (arith, signed_linear, near', y) in
    let value = c.turn_right.ensures.value ∙ (λ i. above (level i) s.c.y -ℤ above (level i) s.a.y) ∙ sym (left_of_all p s right) in
    let size = c.turn_right.ensures.size in
    let sum = c.add_run.ensures.counts n l
    ∙ (λ i. count_at c.args.places.now n +ℤ (if all_among n l i then held c.turn_right.result else pos 0)) in
    off_added s p _ _ _ _ (left_off p s right).1 (c.add_run.ensures.marks n) (omega (arith, signed_linear, size, sum, value))
