-- A loop over a row's points takes the last of a slice first: `loop_next`, `pairs_next`.
-- It serves ALIGNRP, IP, SHP, SHPIX and FLIPPT, and DELTAP.
use Rattle.std.proofs.Common.{◌≡◌, refl, ap, ◌∙◌, arith, ℕ, ℤ, pos, suc, ◌+◌, ◌-◌, ◌<◌, ◌≤◌, List, [], ◌∷◌, length, get_or, to_z-of_z}
use Rattle.std.proofs.Common.{take, reverse}
use Rattle.std.proofs.Math.Seq.{take-suc}
use Rattle.std.proofs.lemmas.List.{reverse-append, length-reverse, length-take-le}
use Rattle.fx_gstate.specs.Deltas.{each_pair}
use Rattle.fx_pointops.specs.declared.zones.Zones.{Zones}
use Rattle.fx_pointops.specs.Loops.{each}

-- the next point of a slice, from its end
top_first : (xs : List ℤ) (k : ℕ) (d : ℤ) → k < length xs → reverse (take (suc k) xs) ≡ get_or xs k d ∷ reverse (take k xs)
top_first xs k d h = ap reverse (take-suc xs k d h) ∙ reverse-append (take k xs) (get_or xs k d ∷ [])

-- one point more is done
pub loop_next : (steps : ℤ → Zones → Zones) (xs : List ℤ) (left : ℕ) (z : Zones) → 0 < left → left ≤ length xs
    → each steps (reverse (take left xs)) z ≡ each steps (reverse (take (left - 1) xs)) (steps (get_or xs (left - 1) (pos 0)) z)
unfolding each
loop_next steps xs left z s w =
    let l : left ≡ suc (left - 1) = omega arith in
    ap (λ n. each steps (reverse (take n xs)) z) l ∙ ap (λ l. each steps l z) (top_first xs (left - 1) (pos 0) (omega arith))

-- no point is left
pub loop_done : (steps : ℤ → Zones → Zones) (xs : List ℤ) (left : ℕ) (z : Zones) → left ≤ 0
    → each steps (reverse (take left xs)) z ≡ z
unfolding each
loop_done steps xs left z h = let e : left ≡ 0 = omega arith in ap (λ k. each steps (reverse (take k xs)) z) e

-- ---- pairs

pub pairs_next : (steps : ℤ → ℤ → Zones → Zones) (xs : List ℤ) (left : ℕ) (z : Zones) → 1 < left → left ≤ length xs
    → each_pair steps (reverse (take left xs)) z
    ≡ each_pair steps (reverse (take (left - 2) xs)) (steps (get_or xs (left - 2 + 1) (pos 0)) (get_or xs (left - 2) (pos 0)) z)
unfolding each_pair
pairs_next steps xs left z s w =
    let l : left ≡ suc (left - 2 + 1) = omega arith in
    let r : left - 2 + 1 ≡ suc (left - 2) = omega arith in
    ap (λ n. each_pair steps (reverse (take n xs)) z) l
    ∙ ap (λ l. each_pair steps l z) (top_first xs (left - 2 + 1) (pos 0) (omega arith)
    ∙ ap (λ l. get_or xs (left - 2 + 1) (pos 0) ∷ l)
    (ap (λ n. reverse (take n xs)) r ∙ top_first xs (left - 2) (pos 0) (omega arith)))

few_left : (steps : ℤ → ℤ → Zones → Zones) (xs : List ℤ) (z : Zones) → length xs ≤ 1 → each_pair steps xs z ≡ z
unfolding each_pair
few_left steps [] z h = refl
few_left steps (x ∷ []) z h = refl
few_left steps (x ∷ y ∷ xs) z h = absurd (omega (arith, h))

pub pairs_done : (steps : ℤ → ℤ → Zones → Zones) (xs : List ℤ) (left : ℕ) (z : Zones) → left ≤ 1 → left ≤ length xs
    → each_pair steps (reverse (take left xs)) z ≡ z
pairs_done steps xs left z h w =
    few_left steps (reverse (take left xs)) z (omega (arith, length-reverse (take left xs), length-take-le left xs w))

-- for loops that need no answer
pub ruleset looping = (to_z-of_z, loop_next, loop_done, pairs_next, pairs_done)
