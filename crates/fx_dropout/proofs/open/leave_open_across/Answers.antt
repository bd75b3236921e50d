use Rattle.std.proofs.Common.{◌≡◌, ap, ℕ, suc, ◌-◌, ◌<◌, ◌∷◌, get_or, length, arith}
use Rattle.std.proofs.lemmas.Bool.Decides.{nat_tests}
use Rattle.fx_dropout.proofs.Opens.{more_left, none_left, open_across}
use Rattle.fx_dropout.proofs.open.leave_open_across.Goals as goal

pub words-init : goal.words-init
words-init c =
    let old = c.args.noted.now in
    let some : 0 < length old = grind (arith, c.is_empty.ensures, c.if-is_empty.false, c.requires, nat_tests) in
    more_left (λ w. w) _ old old 0 c.gaps_of.result (none_left (λ w. w) _ old) some (λ k l e. omega (arith, l))
    (λ b l. grind (arith, l, c.gaps_of.ensures (31 - b), c.left_of.ensures b))

pub words-preserved : goal.words-preserved
words-preserved c =
    let left = c.words.invariant in
    let at : suc (c.words.w - 1) ≡ c.words.w = omega (arith, c.words.auto.w) in
    let before = ap (λ (w : ℕ). get_or (0 ∷ c.args.words.now) w 0) at in
    more_left (λ w. w) _ c.args.noted.now c.words.noted c.words.w c.gaps_of-in-words.result left
    (omega (arith, left.long, c.requires, c.words-test.true)) (λ k l e. omega (arith, l, e))
    (λ b l. grind (arith, l, c.gaps_of-in-words.ensures (31 - b), c.left_of-in-words.ensures b, before, left.others c.words.w))

pub returns : goal.returns
returns c = open_across c.args.noted.now c.args.words.now c.words.noted c.requires c.words.invariant.long
    (λ w b l m. c.words.invariant.opens w b (omega (arith, l, c.words-test.false)) m)
