-- A zone that is joined to an empty one is itself: `after_empty`.
-- For the first component of a composite.
use Rattle.std.proofs.Common.{◌≡◌, ℕ, ◌+◌, ◌<◌, List, [], ◌∷◌, length, map, refl, sym, ap, ◌∙◌, arith}
use Rattle.std.specs.List.{All}
use Rattle.std.proofs.lemmas.List.Elements.{All-head}
use Rattle.fx_zone.specs.declared.point.ZonePoint.{ZonePoint}
use Rattle.fx_zone.specs.Figures.{Figure, joined}

shifted_none : (es : List ℕ) → map (λ e. 0 + e) es ≡ es
shifted_none [] = refl
shifted_none (e ∷ es) =
    let same : 0 + e ≡ e = omega arith in
    ap (λ k. k ∷ map (λ e. 0 + e) es) same ∙ ap (λ (ks : List ℕ). e ∷ ks) (shifted_none es)

after_none : (ps : List ZonePoint) (es : List ℕ) (g : Figure) → length ps ≡ 0 → All (λ e. e < length ps) es
    → g ≡ joined (record { points = ps; ends = es }) g
after_none [] [] g n h = ap (λ (es : List ℕ). record { points = g.points; ends = es }) (sym (shifted_none g.ends))
after_none [] (e ∷ es) g n h =
    let low = All-head (λ e. e < 0) e es h in
    absurd (omega arith)
after_none (p ∷ ps) es g n h = absurd (omega arith)

pub after_empty : (f g : Figure) → length f.points ≡ 0 → All (λ e. e < length f.points) f.ends → g ≡ joined f g
after_empty f g n h = after_none f.points f.ends g n h
