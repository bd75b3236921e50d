use Rattle.std.proofs.Common.{◌≡◌, ◌∙◌, ap, sym, Bool, true, false, ◌*◌, ◌/◌, ◌%◌, ℕ, arith}
use Rattle.fx_winding.specs.declared.frame.Frame.{Frame}
use Rattle.fx_winding.proofs.Numbered.{turned_margin}
use Rattle.fx_dropout.specs.inner.Closing.{stride}
use Rattle.fx_dropout.specs.inner.Segments.{segment_start, start_across}
use Rattle.fx_dropout.proofs.work.segment_start.Goals as goal

up_start : (f g : Frame) (up : Bool) (m size : ℕ) → true ≡ up → size ≡ stride f → g.left ≡ f.bottom → g.bottom ≡ f.left
    → g.width ≡ f.height → g.height ≡ f.width
    → start_across g.left g.width g.bottom g.height (m / size) (m % size) ≡ segment_start up f m
up_start f g up m size is e a b c d =
    (λ t. start_across (a t) (c t) (b t) (d t) (m / e t) (m % e t)) ∙ (λ t. segment_start (is t) f m)

across_start : (f : Frame) (up : Bool) (m size : ℕ) → false ≡ up → size ≡ stride f
    → start_across f.left f.width f.bottom f.height (m % size) (m / size) ≡ segment_start up f m
across_start f up m size is e =
    (λ t. start_across f.left f.width f.bottom f.height (m % e t) (m / e t)) ∙ (λ t. segment_start (is t) f m)

pub start_across-requires : goal.start_across-requires
start_across-requires c = grind (arith, c.turned.ensures, c.requires, turned_margin)

pub returns-then-is_up : goal.returns-then-is_up
returns-then-is_up c =
    let t = c.turned.ensures in
    c.start_across.ensures ∙ up_start c.args.frame c.turned.result c.args.is_up c.args.segment _ (sym c.if-is_up.true)
    (ap (λ (w : ℕ). 32 * w) c.words_for-stride.ensures) t.left t.bottom t.width t.height

pub returns : goal.returns
returns c =
    c.start_across-2.ensures ∙ across_start c.args.frame c.args.is_up c.args.segment _ (sym c.if-is_up.false)
    (ap (λ (w : ℕ). 32 * w) c.words_for-stride.ensures)
