use Rattle.std.proofs.lemmas.Int.{to_z-of_z}
use Rattle.std.proofs.Common.{sym, subst, arith, ◌<◌, ◌*◌, ◌/◌, ℕ}
use Rattle.fx_winding.specs.Bitmaps.{words_for}
use Rattle.fx_winding.proofs.Dotted.{number_within}
use Rattle.fx_winding.proofs.bitmap.bit_number.Goals as goal

pub returns-clause-value : goal.returns-clause-value
returns-clause-value c = grind (arith, c.steps-up.ensures, c.steps-across.ensures, c.words_for.ensures, to_z-of_z)

pub returns-clause-inside : goal.returns-clause-inside
returns-clause-inside c =
    let f = c.args.frame in
    subst (λ (n : ℕ). n / 32 < f.height * words_for f.width) (sym (returns-clause-value c))
    (number_within f c.args.col c.args.row c.requires.col c.requires.row)
