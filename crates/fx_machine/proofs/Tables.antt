-- A table that holds only its first functions has at each number what the whole one has: `filled_at`, `filled_defined`.
-- For `FunctionTable`.
use Rattle.std.proofs.Common.{◌≡◌, ℕ, zero, suc, ◌+◌, ◌-◌, ◌<◌, ◌≤◌, max, List, [], ◌∷◌, ◌++◌, length, map, take, drop, set, replicate, get_or}
use Rattle.std.proofs.Common.{Option, None, Bool, true, false, ◌&&◌, refl, ap, sym, ◌∙◌, arith}
use Rattle.std.specs.Prelude.{slice_index}
use Rattle.std.specs.List.{list_all}
use Rattle.std.proofs.lemmas.List.{take_all, map-append, take-append-drop, length-map, length-take-le, length-append}
use Rattle.std.proofs.lemmas.List.{length-replicate, length-set, replicate-append-replicate, set-append_left, append_assoc}
use Rattle.std.proofs.lemmas.List.Folds.{list_all-append}
use Rattle.fx_machine.specs.declared.definitions.Function.{Function}
use Rattle.fx_machine.specs.Words.{function_word, function_in, is_near}
use Rattle.fx_machine.specs.inner.Tables.{filled}

-- its length
pub filled_length : {X : Type 0} (count : ℕ) (items : List (Option X)) → length items ≤ count → length (filled count items) ≡ count
filled_length count items h =
    length-append items _ ∙ ap (λ (n : ℕ). length items + n) (length-replicate (count - length items) None) ∙ omega (arith, h)

-- what it has at a number
none_at : {X : Type 0} (n i : ℕ) → get_or (replicate {A = Option X} n None) i None ≡ None
none_at zero i = refl
none_at (suc n) zero = refl
none_at (suc n) (suc i) = none_at n i

none_from : {X : Type 0} (m i : ℕ) (items : List (Option X)) → get_or (items ++ replicate m None) i None ≡ get_or items i None
none_from m i [] = none_at m i
none_from m zero (x ∷ items) = refl
none_from m (suc i) (x ∷ items) = none_from m i items

pub filled_at : {X : Type 0} (count i : ℕ) (items : List (Option X)) → get_or (filled count items) i None ≡ get_or items i None
filled_at count i items = none_from (count - length items) i items

-- whether each has a word
none_near : (n : ℕ) → list_all is_near (replicate n None) ≡ true
none_near zero = refl
none_near (suc n) = none_near n

and_true : (a b : Bool) → b ≡ true → (a && b) ≡ a
and_true true b e = e
and_true false b e = refl

pub filled_near : (count : ℕ) (items : List (Option Function)) → list_all is_near (filled count items) ≡ list_all is_near items
filled_near count items = list_all-append is_near items _ ∙ and_true _ _ (none_near (count - length items))

-- the words
none_words : (n : ℕ) → map function_word (replicate n None) ≡ replicate n 0
none_words zero = refl
none_words (suc n) = ap (λ l. 0 ∷ l) (none_words n)

pub filled_words : (count : ℕ) (items : List (Option Function)) → map function_word (filled count items) ≡
    map function_word items ++ replicate (count - length items) 0
filled_words count items =
    map-append function_word items _ ∙ ap (λ l. map function_word items ++ l) (none_words (count - length items))

-- functions of words, of which the last are none
none_after : (used : ℕ) (ws : List ℕ) → ((k : ℕ) → used ≤ k → k < length ws → slice_index ws k ≡ 0)
    → map function_in (drop used ws) ≡ replicate (length ws - used) None
none_after zero [] h = refl
none_after zero (w ∷ ws) h =
    let e : suc (length ws) - 0 ≡ suc (length ws - 0) = omega arith in
    rw (
      h 0 (omega arith) (omega arith),
      none_after zero ws (λ k i j. h (suc k) (omega arith) (omega (arith, j))),
      e,
    ) refl
none_after (suc used) [] h = grind arith
none_after (suc used) (w ∷ ws) h =
    grind (arith, none_after used ws (λ k i j. h (suc k) (omega (arith, i)) (omega (arith, j))))

pub filled_in : (used : ℕ) (ws : List ℕ) (items : List (Option Function)) → used ≤ length ws
    → items ≡ map function_in (take used ws) → ((k : ℕ) → used ≤ k → k < length ws → slice_index ws k ≡ 0)
    → filled (length ws) items ≡ map function_in ws
filled_in used ws items i e h =
    let long : length items ≡ used = ap length e ∙ length-map (take used ws) function_in ∙ length-take-le used ws i in
    rw (long, e, ← none_after used ws h) (sym (map-append function_in (take used ws) (drop used ws))
    ∙ ap (map function_in) (take-append-drop used ws))

-- words that are added, with a word of 0 for each that is none
pub filled_added : (count n long : ℕ) (items : List (Option Function)) (before after new : List ℕ)
    → after ≡ before ++ map function_word items → long ≡ length after → n ≡ long + (count - length items)
    → new ≡ take n after ++ replicate (n - long) 0 → new ≡ before ++ map function_word (filled count items)
filled_added count n long items before after new a l e w =
    let left : n - long ≡ count - length items = omega (arith, e) in
    w ∙ ap (λ x. x ++ replicate (n - long) 0) (take_all n after (omega (arith, l, e)) ∙ a)
    ∙ ap (λ (x : ℕ). (before ++ map function_word items) ++ replicate x 0) left
    ∙ append_assoc before (map function_word items) (replicate (count - length items) 0)
    ∙ ap (λ x. before ++ x) (sym (filled_words count items))

-- a function of a number, for which the list was made long enough
grown_filled : {X : Type 0} (items grown : List (Option X)) (count most : ℕ) → length items ≤ most → most ≤ count
    → grown ≡ take most items ++ replicate (most - length items) None → filled count grown ≡ filled count items
grown_filled items grown count most low high e =
    let g : grown ≡ items ++ replicate (most - length items) None =
    e ∙ ap (λ l. l ++ replicate (most - length items) None) (take_all most items low) in
    let size : length grown ≡ most =
    ap length g ∙ length-append items _ ∙ ap (λ (n : ℕ). length items + n) (length-replicate (most - length items) None)
    ∙ omega (arith, low) in
    let all : (most - length items) + (count - most) ≡ count - length items = omega (arith, low, high) in
    ap (λ (n : ℕ). grown ++ replicate (count - n) None) size ∙ ap (λ l. l ++ replicate (count - most) None) g
    ∙ append_assoc items _ _
    ∙ ap (λ l. items ++ l) (replicate-append-replicate (most - length items) (count - most) None
    ∙ ap (λ (n : ℕ). replicate n None) all)

pub filled_defined : {X : Type 0} (items grown : List (Option X)) (count number most : ℕ) (f : Option X) → length items ≤ count
    → number < count → most ≡ max (length items) (number + 1)
    → grown ≡ take most items ++ replicate (most - length items) None → length grown ≡ most
    → filled count (set grown number f) ≡ set (filled count items) number f
filled_defined items grown count number most f few inside m e long =
    ap (λ (n : ℕ). set grown number f ++ replicate (count - n) None) (length-set grown number f)
    ∙ sym (set-append_left grown (replicate (count - length grown) None) number f (omega (arith, m, long)))
    ∙ ap (λ l. set l number f) (grown_filled items grown count most (omega (arith, m)) (omega (arith, m, few, inside)) e)
