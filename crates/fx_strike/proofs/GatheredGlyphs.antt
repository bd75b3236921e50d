-- What is gathered of glyphs and then of one more is what is gathered of them all: `gathered_push`.
-- Serves `Seeing`, `Making` and the functions of `Gathered`.
use Rattle.std.proofs.Common.{◌≡◌, ◌∙◌, ℕ, ◌*◌, ◌^◌, ◌<◌, ◌≤◌, suc, ℤ, pos, Bool, ◌&&◌, ◌||◌, List, [], ◌∷◌, ◌++◌}
use Rattle.std.proofs.Common.{length, refl, ap, ap₂, arith, Some, FitsSigned, w32, to_z, of_z}
use Rattle.std.specs.Prelude.{slice_get, unwrap_or}
use Rattle.std.proofs.lemmas.Bool.Decides.{nat_tests}
use Rattle.std.specs.List.{list_all, list_any}
use Rattle.std.specs.Int.{w128}
use Rattle.std.specs.Ordering.{int_eq}
use Rattle.std.proofs.Math.Bool.{and-true, or-false}
use Rattle.std.proofs.lemmas.List.{map-append}
use Rattle.std.proofs.lemmas.List.Folds.{list_all-append, list_any-append}
use Rattle.std.proofs.lemmas.List.Sums.{sum_by_push}
use Rattle.std.proofs.lemmas.Int.{ints}
use Rattle.std.proofs.lemmas.Nat.{div_below}
use Rattle.fx_fixed.specs.Numbers.{near_of, near_size}
use Rattle.fx_bdf.specs.X11.{are_one, mean_of, summary_of}
use Rattle.fx_strike.specs.declared.gathered.Gathered.{Gathered}
use Rattle.fx_strike.specs.Strike.{Sketch, AreGlyphsOf, Glyph}
use Rattle.fx_strike.specs.inner.Gathering.{IsGatheredOf, agrees, gathered_with, summary_with}

-- ---- one element more

any_push : {X : Type 0} (p : X → Bool) (xs : List X) (x : X) → list_any p (xs ++ x ∷ []) ≡ (list_any p xs || p x)
any_push p xs x = list_any-append p xs (x ∷ []) ∙ ap (λ (b : Bool). list_any p xs || b) (or-false (p x))

all_push : {X : Type 0} (p : X → Bool) (xs : List X) (x : X) → list_all p (xs ++ x ∷ []) ≡ (list_all p xs && p x)
all_push p xs x = list_all-append p xs (x ∷ []) ∙ ap (λ (b : Bool). list_all p xs && b) (and-true (p x))

one_push : (ns : List ℤ) (n : ℤ) → are_one (ns ++ n ∷ []) ≡ (are_one ns && agrees (slice_get ns 0) n)
one_push [] n = refl
one_push (m ∷ ms) n = all_push (λ k. int_eq k m) ms n

first_push : (ns : List ℤ) (n : ℤ) → Some (unwrap_or (slice_get ns 0) n) ≡ slice_get (ns ++ n ∷ []) 0
first_push [] n = refl
first_push (m ∷ ms) n = refl

-- ---- one glyph more

pub gathered_push : (glyphs : List Glyph) (g : Glyph) (old new : Gathered) → IsGatheredOf glyphs old
    → new ≡ gathered_with old g.code g.dwidth → IsGatheredOf (glyphs ++ g ∷ []) new
gathered_push glyphs g old new h e = grind (arith, h, e, map-append, sum_by_push, first_push, one_push, any_push)

-- ---- all glyphs

-- as many as there are sketches
pub as_many : (ss : List Sketch) (gs : List Glyph) → AreGlyphsOf ss gs → length ss ≡ length gs
as_many [] [] h = refl
as_many (s ∷ ss) (g ∷ gs) h = ap suc (as_many ss gs h.1)
as_many [] (g ∷ gs) h = absurd h
as_many (s ∷ ss) [] h = absurd h

pub summary_is : (glyphs : List Glyph) (gathered : Gathered) (count : ℕ) → IsGatheredOf glyphs gathered → count ≡ length glyphs
    → summary_with gathered count ≡ summary_of glyphs
summary_is glyphs gathered count h e = grind (arith, h, e)

-- ---- the mean

-- a mean of sizes of at most 2 ^ 25 pixels, ten times
mean_small : (total count : ℕ) → 0 < count → total ≤ 2 ^ 25 * count → near_size (10 * total) count ≤ 335544320
mean_small total count some few = grind (arith, some, few, div_below)

mean_fits : (total count : ℕ) → 0 < count → total ≤ 2 ^ 25 * count → FitsSigned w32 (near_of (pos (10 * total)) (pos count))
unfolding near_of
mean_fits total count some few = omega (arith, ints, mean_small total count some few)

-- the mean as the code casts it
mean_some : (total count : ℕ) → 0 < count → near_of (pos (10 * total)) (pos count) ≡ mean_of total count
mean_some total count h = grind (arith, h, nat_tests)

pub mean_is : (total count : ℕ) (n d r : ℤ) → r ≡ near_of n d → n ≡ pos (10 * total) → d ≡ pos count → 0 < count
    → total ≤ 2 ^ 25 * count
    → FitsSigned w32 (to_z w128 (of_z w128 r)) × (to_z w32 (of_z w32 (to_z w128 (of_z w128 r))) ≡ mean_of total count)
mean_is total count n d r e en ed some few =
    let cast = by _ (mean_fits total count some few) (e ∙ ap₂ near_of en ed) in (cast.0, cast.1 ∙ mean_some total count some)
  where
    by : (z : ℤ) → FitsSigned w32 z → r ≡ z
        → FitsSigned w32 (to_z w128 (of_z w128 r)) × (to_z w32 (of_z w32 (to_z w128 (of_z w128 r))) ≡ z)
    by z h e = (omega (arith, ints), omega (arith, ints))
