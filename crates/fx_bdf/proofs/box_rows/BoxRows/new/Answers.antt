use Rattle.std.proofs.Common.{◌≡◌, ◌+◌, ◌∙◌, ap, arith, to_z, of_z, w32}
use Rattle.fx_fixed.proofs.Linear.{signed_linear}
use Rattle.fx_winding.specs.Bitmaps.{words_for}
use Rattle.fx_winding.specs.declared.frame.Frame.{Frame}
use Rattle.fx_winding.specs.Frames.{steps}
use Rattle.fx_bdf.proofs.HeldRows.{LieIn, are_in_box, held_rows_are}
use Rattle.fx_bdf.proofs.box_rows.BoxRows.new.Goals as goal

lie : (c : goal.After-abs_diff-2) → LieIn c.args.bitmap.now c.args.bounds c.words.result.now
    (c.abs_diff.result + c.args.bounds.height) c.abs_diff-2.result
lie c =
    let f = c.frame-frame.result in
    let b = c.args.bounds in
    let bottom : to_z w32 (of_z w32 f.bottom) ≡ f.bottom = omega (arith, signed_linear) in
    let left : to_z w32 (of_z w32 f.left) ≡ f.left = omega (arith, signed_linear) in
    let low : to_z w32 (of_z w32 b.bottom) ≡ b.bottom = omega (arith, signed_linear) in
    let first : to_z w32 (of_z w32 b.left) ≡ b.left = omega (arith, signed_linear) in
    record {
      rows = c.words.ensures.words;
      bits = c.words.ensures.value;
      boxed = c.requires;
      high = ap (λ n. n + b.height) (c.abs_diff.ensures ∙ (λ i. steps (bottom i) (low i))
          ∙ ap (λ (g : Frame). steps g.bottom b.bottom) c.frame-frame.ensures.value);
      start = c.abs_diff-2.ensures ∙ (λ i. steps (left i) (first i))
          ∙ ap (λ (g : Frame). steps g.left b.left) c.frame-frame.ensures.value;
    }

stride : (c : goal.After-abs_diff-2) → c.words_for.result ≡ words_for c.args.bitmap.now.frame.width
stride c = c.words_for.ensures ∙ ap (λ (f : Frame). words_for f.width) c.frame-frame.ensures.value

pub invariant_of-result : goal.invariant_of-result
invariant_of-result c = rw (stride c) (are_in_box _ _ _ _ _ (lie c))

pub returns : goal.returns
returns c = rw (stride c) (held_rows_are _ _ _ _ _ (lie c))
