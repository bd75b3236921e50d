-- A list of full places has a value for each place (`present_length`), also with one more (`one_more`) or one less (`one_less`).
-- For the list of composites that wait.
use Rattle.std.proofs.Common.{◌≡◌, suc, ◌<◌, List, [], ◌∷◌, ◌++◌, length, Option, Some, None, refl, ap, arith}
use Rattle.std.specs.Prelude.{IsSome, MatchOption}
use Rattle.std.specs.List.{All}
use Rattle.std.proofs.lemmas.List.Elements.{All-nil, All-cons, All-append, All-head, All-tail}
use Rattle.fx_hint.specs.declared.below.Waiting.{Waiting}
use Rattle.fx_hint.specs.inner.Places.{present}

present_after : (xs ys : List (Option Waiting)) → present (xs ++ ys) ≡ present xs ++ present ys
present_after [] ys = refl
present_after (None ∷ xs) ys = present_after xs ys
present_after (Some w ∷ xs) ys = ap (λ (zs : List Waiting). w ∷ zs) (present_after xs ys)

-- as many as there are places
pub present_length : (xs : List (Option Waiting)) → All IsSome xs → length (present xs) ≡ length xs
present_length [] h = refl
present_length (None ∷ xs) h =
    let n = All-head IsSome None xs h in
    absurd (cc)
present_length (Some w ∷ xs) h = ap suc (present_length xs (All-tail IsSome (Some w) xs h))

-- one more
pub one_more : (old new : List (Option Waiting)) (w : Waiting) → new ≡ old ++ Some w ∷ [] → present new ≡ present old ++ w ∷ []
one_more old new w e = rw e (present_after old (Some w ∷ []))

pub still_full : (old new : List (Option Waiting)) (w : Waiting) → All IsSome old → new ≡ old ++ Some w ∷ [] → All IsSome new
still_full old new w h e = rw e (All-append IsSome old (Some w ∷ []) h (All-cons IsSome (Some w) [] refl (All-nil IsSome)))

-- one less: the last
no_hole : (xs : List (Option Waiting)) → All IsSome (xs ++ None ∷ []) → ⊥
no_hole [] h =
    let n = All-head IsSome None [] h in
    cc
no_hole (x ∷ xs) h = no_hole xs (All-tail IsSome x (xs ++ None ∷ []) h)

pub one_less : (old new : List (Option Waiting)) (place : Option Waiting) → All IsSome old → old ≡ new ++ place ∷ []
    → MatchOption place (present old ≡ []) (λ w. present old ≡ present new ++ w ∷ [])
one_less old new (Some w) h e = one_more new old w e
one_less old new None h e = absurd (no_hole new (rw e at h))

pub none_left : (old : List (Option Waiting)) (place : Option (Option Waiting)) → place ≡ None → (0 < length old → IsSome place)
    → present old ≡ []
none_left [] place e h = refl
none_left (x ∷ xs) place e h =
    let n = rw e at (h (omega arith)) in
    absurd (cc)
