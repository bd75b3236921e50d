-- The line of one point more, after those before it, is the lines up to that point: `lines_more`.
-- Serves `add_points`, `add_outline`, `add_text`.
use Rattle.std.proofs.Common.{◌≡◌, ◌∙◌, refl, sym, ap, arith, ℕ, zero, suc, ◌+◌, ◌<◌, ◌≤◌, List, [], ◌∷◌, ◌++◌, length, take, drop}
use Rattle.std.proofs.Common.{get_or, append_assoc, append-nil, length-append, Result, Ok, Err, OnOk}
use Rattle.std.specs.Fmt.{decimal, signed_decimal}
use Rattle.fx_fixed.specs.Texts.{TextView, Adds, Fails, length_of}
use Rattle.fx_fixed.specs.declared.sink.WriteFailed.{WriteFailed}
use Rattle.fx_fixed.proofs.Texts.{adds_count, adds_short, adds_stopped, adds_text, adds_then}
use Rattle.fx_outline.specs.declared.points.OutlinePoint.{OutlinePoint}
use Rattle.fx_views.specs.Outlines.{contour_at, curve_word, point_line, point_lines}
use Rattle.fx_views.specs.inner.Lengths.{AddsFew}

-- ---- few bytes

pub few_all : {m : ℕ} {was now : TextView} {bytes : List ℕ} {r : Result (Unit {0}) WriteFailed} → Adds Fails was now bytes r
    → length bytes ≤ m → AddsFew m was now bytes r
few_all {m} {was} {bytes = bytes} {r = r} h l =
    record { adds = h; few = by r; short = adds_short (length_of was + m) h (omega (arith, l)) }
  where
    by : (r : Result (Unit {0}) WriteFailed) → OnOk r (length bytes ≤ m)
    by (Ok u) = l
    by (Err e) = tt

-- some, and then more
pub few_then : {m n most : ℕ} {was now next : TextView} {a b all : List ℕ} (r : Result (Unit {0}) WriteFailed) → m + n ≤ most
    → a ++ b ≡ all → AddsFew m was now a (Ok tt) → AddsFew n now next b r → AddsFew most was next all r
few_then {a = a} {b = b} (Ok u) low e h g = record {
  adds = adds_text e (adds_then h.adds g.adds);
  few = omega (arith, low, h.few, g.few, ap length e, length-append a b);
  short = tt;
}
few_then (Err f) low e h g = record {
  adds = adds_text e (adds_then h.adds g.adds);
  few = tt;
  short = omega (arith, low, h.few, g.short, adds_count h.adds);
}

-- it stopped in the first of two
pub few_begin : {m most : ℕ} {was now : TextView} {a all : List ℕ} (b : List ℕ) {f : WriteFailed} → m ≤ most → a ++ b ≡ all
    → AddsFew m was now a (Err f) → AddsFew most was now all (Err f)
few_begin b low e h =
    record { adds = adds_text e (adds_stopped b h.adds); few = tt; short = omega (arith, low, h.short) }

-- ---- lines

-- a line is short
pub line_short : (contour number : ℕ) (p : OutlinePoint) (a b w x y : List ℕ) → a ≡ decimal contour → b ≡ decimal number
    → w ≡ curve_word p.on_curve → x ≡ signed_decimal p.x → y ≡ signed_decimal p.y → length a ≤ 20 → length b ≤ 20 → length w ≤ 5
    → length x ≤ 20 → length y ≤ 20 → length (point_line contour number p) ≤ 88
line_short contour number p a b w x y ea eb ew ex ey la lb lw lx ly =
    let five = length-append (signed_decimal p.y) (10 ∷ []) in
    let four = length-append (signed_decimal p.x) (32 ∷ (signed_decimal p.y ++ 10 ∷ [])) in
    let three = length-append (curve_word p.on_curve) (signed_decimal p.x ++ (32 ∷ (signed_decimal p.y ++ 10 ∷ []))) in
    let two = length-append (decimal number)
    (curve_word p.on_curve ++ (signed_decimal p.x ++ (32 ∷ (signed_decimal p.y ++ 10 ∷ [])))) in
    let one = length-append (decimal contour) (32 ∷ (decimal number ++
    (curve_word p.on_curve ++ (signed_decimal p.x ++ (32 ∷ (signed_decimal p.y ++ 10 ∷ [])))))) in
    omega (
      arith,
      one,
      two,
      three,
      four,
      five,
      ap length ea,
      ap length eb,
      ap length ew,
      ap length ex,
      ap length ey,
      la,
      lb,
      lw,
      lx,
      ly,
    )

-- the line of a point, with those before and after it
lines_at : (ends : List ℕ) (k n : ℕ) (ps : List OutlinePoint) (i : ℕ) (d : OutlinePoint) → i < length ps → n ≡ k + i
    → point_lines ends k ps ≡ point_lines ends k (take i ps) ++
    (point_line (contour_at ends n) n (get_or ps i d) ++ point_lines ends (n + 1) (drop (suc i) ps))
unfolding point_lines
lines_at ends k n [] i d h e = absurd (omega arith)
lines_at ends k n (p ∷ ps) zero d h e = rw (same e) refl
  where
    same : n ≡ k + 0 → n ≡ k
    same e = omega arith
lines_at ends k n (p ∷ ps) (suc i) d h e =
    ap (λ (t : List ℕ). point_line (contour_at ends k) k p ++ t) (lines_at ends (k + 1) n ps i d (omega arith) (omega arith))
    ∙ sym (append_assoc (point_line (contour_at ends k) k p) _ _)

pub lines_split : (ends : List ℕ) (ps : List OutlinePoint) (i c : ℕ) (p : OutlinePoint) → i < length ps → c ≡ contour_at ends i
    → p ≡ get_or ps i p
    → point_lines ends 0 ps ≡ point_lines ends 0 (take i ps) ++ (point_line c i p ++ point_lines ends (i + 1) (drop (suc i) ps))
lines_split ends ps i c p h contour is = grind (arith, h, contour, is, lines_at)

-- a line more
more_from : (ends : List ℕ) (k n : ℕ) (ps : List OutlinePoint) (i : ℕ) (d : OutlinePoint) → i < length ps → n ≡ k + i
    → point_lines ends k (take i ps) ++ point_line (contour_at ends n) n (get_or ps i d) ≡ point_lines ends k (take (suc i) ps)
unfolding point_lines
more_from ends k n [] i d h e = absurd (omega arith)
more_from ends k n (p ∷ ps) zero d h e = rw (same e) (sym (append-nil _))
  where
    same : n ≡ k + 0 → n ≡ k
    same e = omega arith
more_from ends k n (p ∷ ps) (suc i) d h e =
    append_assoc (point_line (contour_at ends k) k p) _ _
    ∙ ap (λ (t : List ℕ). point_line (contour_at ends k) k p ++ t) (more_from ends (k + 1) n ps i d (omega arith) (omega arith))

pub lines_more : (ends : List ℕ) (ps : List OutlinePoint) (i c : ℕ) (p : OutlinePoint) → i < length ps → c ≡ contour_at ends i
    → p ≡ get_or ps i p → point_lines ends 0 (take i ps) ++ point_line c i p ≡ point_lines ends 0 (take (i + 1) ps)
lines_more ends ps i c p h contour is = grind (arith, h, contour, is, more_from)
