use Rattle.std.proofs.Common.{◌≡◌, ◌∙◌, ap}
use Rattle.std.proofs.lemmas.List.Elements.{All-set}
use Rattle.fx_hint.specs.Kept.{IsTrueOf, KeptView}
use Rattle.fx_hint.proofs.Recalling.{taken_true}
use Rattle.fx_hint.proofs.kept_glyphs.KeptGlyphs.keep.Goals as goal
use Rattle.fx_hint.proofs.kept_glyphs.KeptGlyphs.keep.Goals.{in-Some, in_default}

pub returns-after-self-clause-value : goal.returns-after-self-clause-value
returns-after-self-clause-value c h all made =
    let e = ap (λ (kept : KeptView). kept.places) (c.self-then-contours-le-KEPT_POINTS.view_is ∙ c.make_places.ensures) in
    elim c.match-self.branch [
      | in-Some w ↦ let same : w.in-Some.places.items ≡ c.args.self.now.places = rw w.in-Some.is at e in
          rw w.self-inside-is (All-set (IsTrueOf h) w.in-Some.places.items _ _
          (taken_true h _ w.take-kept.result _ w.take-kept.ensures.done w.take-kept.ensures.none made) (rw same all))
      | in_default w ↦ rw (w.self-inside-is, e) all
    ]
