use Rattle.std.proofs.Common.{◌≤◌, ℕ, subst, sym}
use Rattle.fx_glyf.proofs.FlagSizes.{sizes_at, at_most_two}
use Rattle.fx_glyf.proofs.flags.sizes_of.Goals as goal

pub returns-clause-value : goal.returns-clause-value
returns-clause-value c = sizes_at _ c.args.flag c.from.result c.ranges.flag.fits c.from.ensures

pub returns-clause-few : goal.returns-clause-few
returns-clause-few c =
    let P : ℕ → Type 0 = λ n. n ≤ 2 in
    let s = sizes_at _ c.args.flag c.from.result c.ranges.flag.fits c.from.ensures in
    (subst P (sym s.0) (at_most_two _ _ c.args.flag), subst P (sym s.1) (at_most_two _ _ c.args.flag))
