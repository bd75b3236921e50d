use Rattle.std.proofs.Common.{◌≡◌, refl, arith, w32, to_z, of_z}
use Rattle.fx_fixed.proofs.Linear.{signed_linear}
use Rattle.fx_winding.specs.Winding.{span_of}
use Rattle.fx_rows.proofs.Counting.{clear_is_cut}
use Rattle.fx_rows.proofs.cut.clear_cut.Goals as goal

pub returns : goal.returns
returns c =
    let p = c.args.bounded.now.piece in
    let t = c.args.bounded.now.across in
    let ff : to_z w32 (of_z w32 t.first) ≡ t.first = omega (arith, signed_linear) in
    clear_is_cut (span_of p) c.args.strip _ t.first t.end c.args.bounded.now.between c.requires.clear c.requires.inner
    c.columns_before.ensures.within
    (λ k l. let b = c.columns_before.ensures.below k l in omega (arith, signed_linear, b, ff))
    (λ k l m. let b = c.columns_before.ensures.rest k l m in omega (arith, signed_linear, b, ff))
    refl
