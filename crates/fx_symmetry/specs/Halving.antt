-- The halves of an arc: cut at the parameter 1/2, by de Casteljau's construction, in whole numbers.
use Rattle.std.specs.Prelude.{◌≡◌, ◌↔◌, ◌⊎◌, ℤ, pos, ◌+ℤ◌, ◌*ℤ◌, if◌then◌else◌, List, ◌∷◌, ◌++◌, Option, Some, None, option_map}
use Rattle.std.specs.Prelude.{option_and_then}
use Rattle.std.specs.Int.{int_div_euclid}
use Rattle.std.specs.Ordering.{int_eq}
use Rattle.fx_winding.specs.Area.{Place, place}
use Rattle.fx_winding.specs.Winding.{Span, IsOn, crossing, region, IsCovered}

-- half of a number, if it is whole
abbrev pub half_of : ℤ → Option ℤ
half_of z = if int_eq (pos 2 *ℤ int_div_euclid z (pos 2)) z then Some (int_div_euclid z (pos 2)) else None

-- the place half way between two, if its coordinates are whole
abbrev pub middle_of : Place → Place → Option Place
middle_of p q = option_and_then (λ x. option_map (place x) (half_of (p.y +ℤ q.y))) (half_of (p.x +ℤ q.x))

-- the arcs from a to j with the control point m, and from j to c with the control point n
abbrev pub two_arcs : Place → Place → Place → Place → Place → Span × Span
two_arcs a m j n c = (record { a = a; b = Some m; c = j }, record { a = j; b = Some n; c = c })

-- the halves of the arc a b c: m half way from a to b, n from b to c, and the join j from m to n; a line has none
abbrev pub halves_of_part : Place → Option Place → Place → Option (Span × Span)
halves_of_part a None c = None
halves_of_part a (Some b) c =
    option_and_then (λ m. option_and_then (λ n. option_map (λ j. two_arcs a m j n c) (middle_of m n)) (middle_of b c))
    (middle_of a b)

-- the halves of a piece, if it is an arc and all their coordinates are whole
abbrev pub halves_of : Span → Option (Span × Span)
halves_of s = halves_of_part s.a s.b s.c

-- the law: half of a number is what gives the number when doubled, and there is none only where nothing does
abbrev pub HalfIsExact : Type 0
HalfIsExact = (z h : ℤ) → (half_of z ≡ Some h) ↔ (pos 2 *ℤ h ≡ z)

-- the law: the halves lead from the arc's start to its end, and meet on the arc
abbrev pub HalvesMeet : Type 0
HalvesMeet = (s f g : Span) → halves_of s ≡ Some (f, g) → (f.a ≡ s.a) × (f.c ≡ g.a) × (g.c ≡ s.c) × IsOn f.c s

-- the law: a place is on the arc exactly when it is on a half
abbrev pub HalvesHaveThePlaces : Type 0
HalvesHaveThePlaces = (s f g : Span) → halves_of s ≡ Some (f, g) → (p : Place) → IsOn p s ↔ (IsOn p f ⊎ IsOn p g)

-- the law: elsewhere the crossings and the regions of the halves add up to those of the arc
abbrev pub HalvesAddUp : Type 0
HalvesAddUp = (s f g : Span) → halves_of s ≡ Some (f, g) → (p : Place) → ¬ (IsOn p s)
    → (crossing p f +ℤ region p f) +ℤ (crossing p g +ℤ region p g) ≡ crossing p s +ℤ region p s

-- the law: pieces with the halves of an arc in its place cover the same places
abbrev pub HalvesKeepCover : Type 0
HalvesKeepCover = (s f g : Span) → halves_of s ≡ Some (f, g) → (before after : List Span) (p : Place)
    → IsCovered p (before ++ (f ∷ g ∷ after)) ↔ IsCovered p (before ++ (s ∷ after))
