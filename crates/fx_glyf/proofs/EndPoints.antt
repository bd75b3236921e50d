-- End points are counted exactly if they do not fall: `ends_counted`, `ends_count`.
-- For `count_points` and `Simple::ends`, and for the crates above that walk over contours.
use Rattle.std.proofs.Common.{◌≡◌, ℕ, suc, ◌+◌, ◌<◌, ◌≤◌, Bool, true, false, List, [], ◌∷◌, drop, cond, Option, Some, None, refl, arith}
use Rattle.std.proofs.Common.{ap, ◌∙◌}
use Rattle.std.proofs.lemmas.Bool.{lt-ltb, le-ltb, ltb-false}
use Rattle.std.proofs.lemmas.Option.{same_Some, none-some}
use Rattle.std.specs.Prelude.{nat_lt}
use Rattle.byteorder.specs.Endian.{big_number}
use Rattle.fx_glyf.specs.Words.{words, count_from}
use Rattle.fx_glyf.specs.Grammar.{AreEnds}

pub ends_step : (start n m : ℕ) (bytes : List ℕ) → n ≡ suc m
    → count_from start (words n bytes) ≡ cond (nat_lt (big_number 2 bytes + 1) start) None
    (count_from (big_number 2 bytes + 1) (words m (drop 2 bytes)))
unfolding count_from words
ends_step start n m bytes e = ap (λ (k : ℕ). count_from start (words k bytes)) e

pub ends_fall : (start n m : ℕ) (bytes : List ℕ) → n ≡ suc m → big_number 2 bytes + 1 < start
    → count_from start (words n bytes) ≡ None
ends_fall start n m bytes e h =
    ends_step start n m bytes e
    ∙ ap (λ (b : Bool). cond b None (count_from (big_number 2 bytes + 1) (words m (drop 2 bytes)))) (lt-ltb _ _ h)

pub ends_more : (start n m : ℕ) (bytes : List ℕ) → n ≡ suc m → start ≤ big_number 2 bytes + 1
    → count_from start (words n bytes) ≡ count_from (big_number 2 bytes + 1) (words m (drop 2 bytes))
ends_more start n m bytes e h =
    ends_step start n m bytes e
    ∙ ap (λ (b : Bool). cond b None (count_from (big_number 2 bytes + 1) (words m (drop 2 bytes)))) (le-ltb _ _ h)

pub ends_none : (start n : ℕ) (bytes : List ℕ) → n ≡ 0 → count_from start (words n bytes) ≡ Some start
unfolding count_from words
ends_none start n bytes e = ap (λ (k : ℕ). count_from start (words k bytes)) e

-- a value after a test that continued
pub guarded : {X : Type 0} (b : Bool) (o : Option X) (y : X) → cond b None o ≡ Some y → (b ≡ false) × (o ≡ Some y)
guarded {X} true o y e = absurd (none-some _ e)
guarded {X} false o y e = (refl, e)

-- end points that were counted do not fall
pub ends_counted : (start : ℕ) (es : List ℕ) (n : ℕ) → count_from start es ≡ Some n → AreEnds start es n
unfolding count_from
ends_counted start [] n h = same_Some _ _ h
ends_counted start (e ∷ es) n h =
    let g = guarded _ _ _ h in
    (ltb-false _ _ g.0, ends_counted (e + 1) es n g.1)

-- end points that do not fall are counted
pub ends_count : (start : ℕ) (es : List ℕ) (n : ℕ) → AreEnds start es n → count_from start es ≡ Some n
unfolding count_from
ends_count start [] n h = ap Some h
ends_count start (e ∷ es) n h =
    ap (λ (b : Bool). cond b None (count_from (e + 1) es)) (le-ltb _ _ h.0) ∙ ends_count (e + 1) es n h.1

-- no contour begins after the last point
pub ends_reach : (start : ℕ) (es : List ℕ) (n : ℕ) → AreEnds start es n → start ≤ n
ends_reach start [] n h = omega arith
ends_reach start (e ∷ es) n h = let r = ends_reach (e + 1) es n h.1 in let s = h.0 in omega arith
