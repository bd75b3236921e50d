-- Pairs and maps of `avar`, one at a time: `steps_on`, `pair_on`, `maps_on`, `mapped_on`.
-- For the loops over them.
use Rattle.std.proofs.Common.{◌≡◌, ◌≢◌, ℕ, suc, length, ◌+◌, ◌-◌, ◌<◌, ◌≤◌, ℤ, pos, ◌<ℤ◌, ◌≤ℤ◌, Bool, true, false, cond, List}
use Rattle.std.proofs.Common.{drop, refl, sym, ap, ◌∙◌, arith}
use Rattle.std.specs.Prelude.{nat_le, int_lt, int_le, ◌&&◌, ◌||◌, ◌==◌}
use Rattle.std.specs.Ordering.{int_eq}
use Rattle.std.proofs.lemmas.Bool.{and_parts, leb-true, le-leb, lt-leb, ne_eqb}
use Rattle.std.proofs.lemmas.Int.{ints}
use Rattle.fx_axes.specs.declared.records.Mapping.{Mapping}
use Rattle.fx_sfnt.specs.Fields.{field}
use Rattle.fx_axes.specs.Coordinates.{on_segment}
use Rattle.fx_axes.specs.Avar.{mapping_of, least, greatest, fixed, is_same, is_step, are_steps, has_pair, are_pairs, map_size}
use Rattle.fx_axes.specs.Avar.{is_map, are_maps, gap_of, mapped_of}

less : (k n : ℕ) → k < n → n - k ≡ suc (n - (k + 1))
less k n h = omega arith

none : (k n : ℕ) → n ≤ k → n - k ≡ 0
none k n h = omega arith

-- ---- are_steps

steps_at : (n : ℕ) (pairs : List ℕ) (b : Bool) → is_step (mapping_of pairs) (mapping_of (drop 4 pairs)) ≡ b
    → are_steps (suc n) pairs ≡ cond b (are_steps n (drop 4 pairs)) false
unfolding are_steps
steps_at n pairs b e = ap (λ (t : Bool). cond t (are_steps n (drop 4 pairs)) false) e

pub steps_on : (k n : ℕ) (rest next : List ℕ) (t : Bool) → k < n → is_step (mapping_of rest) (mapping_of (drop 4 rest)) ≡ true
    → next ≡ drop 4 rest → are_steps (n - k) rest ≡ t → are_steps (n - (k + 1)) next ≡ t
steps_on k n rest next t h e d s =
    ap (are_steps (n - (k + 1))) d ∙ sym (steps_at (n - (k + 1)) rest true e)
    ∙ sym (ap (λ (m : ℕ). are_steps m rest) (less k n h)) ∙ s

pub steps_off : (k n : ℕ) (rest : List ℕ) (t : Bool) → k < n → is_step (mapping_of rest) (mapping_of (drop 4 rest)) ≡ false
    → are_steps (n - k) rest ≡ t → false ≡ t
steps_off k n rest t h e s =
    sym (steps_at (n - (k + 1)) rest false e) ∙ sym (ap (λ (m : ℕ). are_steps m rest) (less k n h)) ∙ s

pub steps_end : (k n : ℕ) (rest : List ℕ) (t : Bool) → n ≤ k → are_steps (n - k) rest ≡ t → true ≡ t
unfolding are_steps
steps_end k n rest t h s = sym (ap (λ (m : ℕ). are_steps m rest) (none k n h)) ∙ s

-- the first step of some
pub first_step : (k n : ℕ) (rest : List ℕ) → k < n → are_steps (n - k) rest ≡ true
    → is_step (mapping_of rest) (mapping_of (drop 4 rest)) ≡ true
first_step k n rest h s = by (is_step (mapping_of rest) (mapping_of (drop 4 rest))) refl
  where
    by : (b : Bool) → is_step (mapping_of rest) (mapping_of (drop 4 rest)) ≡ b
        → is_step (mapping_of rest) (mapping_of (drop 4 rest)) ≡ true
    by true e = e
    by false e = absurd (cc (steps_off k n rest true h e s))

-- what a step is
pub record Step (p q : Mapping) : Type 0 where
  pub from : p.from <ℤ q.from
  pub to : p.to ≤ℤ q.to
  pub most : q.to ≤ℤ pos 16384

pub step_of : (p q : Mapping) → is_step p q ≡ true → Step p q
step_of p q e =
    let a = and_parts (int_lt p.from q.from && int_le p.to q.to) (int_le q.from greatest && int_le q.to greatest) e in
    let b = and_parts (int_lt p.from q.from) (int_le p.to q.to) a.0 in
    let c = and_parts (int_le q.from greatest) (int_le q.to greatest) a.1 in
    record { from = omega (arith, ints, b.0); to = omega (arith, ints, b.1); most = omega (arith, ints, c.1) }

pub next_step : (k n : ℕ) (rest next : List ℕ) (p q : Mapping) → k < n → are_steps (n - k) rest ≡ true → next ≡ drop 4 rest
    → p ≡ mapping_of rest → q ≡ mapping_of next → Step p q
next_step k n rest next p q h s d ep eq =
    step_of p q (rw (ep, eq, d) (first_step k n rest h s))

-- ---- has_pair

pair_at : (c : Mapping) (n : ℕ) (pairs : List ℕ) (b : Bool) → is_same c (mapping_of pairs) ≡ b
    → has_pair c (suc n) pairs ≡ cond b true (has_pair c n (drop 4 pairs))
unfolding has_pair
pair_at c n pairs b e = ap (λ (t : Bool). cond t true (has_pair c n (drop 4 pairs))) e

pub pair_on : (c : Mapping) (k n : ℕ) (rest next : List ℕ) (t : Bool) → k < n → is_same c (mapping_of rest) ≡ false
    → next ≡ drop 4 rest → has_pair c (n - k) rest ≡ t → has_pair c (n - (k + 1)) next ≡ t
pair_on c k n rest next t h e d s =
    ap (has_pair c (n - (k + 1))) d ∙ sym (pair_at c (n - (k + 1)) rest false e)
    ∙ sym (ap (λ (m : ℕ). has_pair c m rest) (less k n h)) ∙ s

pub pair_hit : (c : Mapping) (k n : ℕ) (rest : List ℕ) (t : Bool) → k < n → is_same c (mapping_of rest) ≡ true
    → has_pair c (n - k) rest ≡ t → true ≡ t
pair_hit c k n rest t h e s =
    sym (pair_at c (n - (k + 1)) rest true e) ∙ sym (ap (λ (m : ℕ). has_pair c m rest) (less k n h)) ∙ s

pub pair_end : (c : Mapping) (k n : ℕ) (rest : List ℕ) (t : Bool) → n ≤ k → has_pair c (n - k) rest ≡ t → false ≡ t
unfolding has_pair
pair_end c k n rest t h s = sym (ap (λ (m : ℕ). has_pair c m rest) (none k n h)) ∙ s

-- ---- are_maps

maps_at : (n : ℕ) (bytes : List ℕ) (b : Bool) → is_map bytes ≡ b
    → are_maps (suc n) bytes ≡ cond b (are_maps n (drop (map_size bytes) bytes)) false
unfolding are_maps
maps_at n bytes b e = ap (λ (t : Bool). cond t (are_maps n (drop (map_size bytes) bytes)) false) e

pub maps_on : (k n : ℕ) (rest next : List ℕ) (t : Bool) → k < n → is_map rest ≡ true → next ≡ drop (map_size rest) rest
    → are_maps (n - k) rest ≡ t → are_maps (n - (k + 1)) next ≡ t
maps_on k n rest next t h e d s =
    ap (are_maps (n - (k + 1))) d ∙ sym (maps_at (n - (k + 1)) rest true e)
    ∙ sym (ap (λ (m : ℕ). are_maps m rest) (less k n h)) ∙ s

pub maps_off : (k n : ℕ) (rest : List ℕ) (t : Bool) → k < n → is_map rest ≡ false → are_maps (n - k) rest ≡ t → false ≡ t
maps_off k n rest t h e s =
    sym (maps_at (n - (k + 1)) rest false e) ∙ sym (ap (λ (m : ℕ). are_maps m rest) (less k n h)) ∙ s

pub maps_end : (k n : ℕ) (rest : List ℕ) (t : Bool) → n ≤ k → are_maps (n - k) rest ≡ t → true ≡ t
unfolding are_maps
maps_end k n rest t h s = sym (ap (λ (m : ℕ). are_maps m rest) (none k n h)) ∙ s

pub first_map : (k n : ℕ) (rest : List ℕ) → k < n → are_maps (n - k) rest ≡ true → is_map rest ≡ true
first_map k n rest h s = by (is_map rest) refl
  where
    by : (b : Bool) → is_map rest ≡ b → is_map rest ≡ true
    by true e = e
    by false e = absurd (cc (maps_off k n rest true h e s))

-- ---- is_map

are_whole : (bytes : List ℕ) → is_map bytes ≡ true → (nat_le 2 (length bytes) && nat_le (map_size bytes) (length bytes)) ≡ true
unfolding is_map
are_whole bytes e = (and_parts (nat_le 2 (length bytes) && nat_le (map_size bytes) (length bytes)) (are_pairs (field 2 bytes 0)
    (drop 2 bytes)) e).0

pub map_header : (bytes : List ℕ) → is_map bytes ≡ true → 2 ≤ length bytes
map_header bytes e = leb-true _ _ (and_parts (nat_le 2 (length bytes)) (nat_le (map_size bytes) (length bytes))
    (are_whole bytes e)).0

pub map_inside : (bytes : List ℕ) → is_map bytes ≡ true → map_size bytes ≤ length bytes
map_inside bytes e = leb-true _ _ (and_parts (nat_le 2 (length bytes)) (nat_le (map_size bytes) (length bytes))
    (are_whole bytes e)).1

pairs_of_map : (bytes : List ℕ) → is_map bytes ≡ true → are_pairs (field 2 bytes 0) (drop 2 bytes) ≡ true
unfolding is_map
pairs_of_map bytes e =
    (and_parts (nat_le 2 (length bytes) && nat_le (map_size bytes) (length bytes)) (are_pairs (field 2 bytes 0)
    (drop 2 bytes)) e).1

-- what pairs are, if there are any
record Pairs (n : ℕ) (pairs : List ℕ) : Type 0 where
  first : (mapping_of pairs).to ≡ least
  steps : are_steps (n - 1) pairs ≡ true

same_number : (x y : ℤ) → int_eq x y ≡ true → x ≡ y
same_number x y e = grind (arith, ints, e)

or_second : (a b : Bool) → a ≡ false → (a || b) ≡ true → b ≡ true
or_second a b f e = sym (ap (λ (t : Bool). t || b) f) ∙ e

pairs_are : (n : ℕ) (pairs : List ℕ) → n ≢ 0 → are_pairs n pairs ≡ true → Pairs n pairs
unfolding are_pairs
pairs_are n pairs z e =
    let first = is_same (fixed least) (mapping_of pairs) in
    let three = first && are_steps (n - 1) pairs && has_pair (fixed (pos 0)) n pairs in
    let a = and_parts three (has_pair (fixed greatest) n pairs)
    (or_second (n == 0) (three && has_pair (fixed greatest) n pairs) (ne_eqb n 0 z) e) in
    let b = and_parts (first && are_steps (n - 1) pairs) (has_pair (fixed (pos 0)) n pairs) a.0 in
    let c = and_parts first (are_steps (n - 1) pairs) b.0 in
    let d = and_parts (int_eq (mapping_of pairs).from least) (int_eq (mapping_of pairs).to least) c.0 in
    record { first = same_number (mapping_of pairs).to least d.1; steps = c.1 }

pub map_steps : (bytes : List ℕ) → field 2 bytes 0 ≢ 0 → is_map bytes ≡ true
    → are_steps (field 2 bytes 0 - 1) (drop 2 bytes) ≡ true
map_steps bytes z e = (pairs_are _ _ z (pairs_of_map bytes e)).steps

pub map_first : (bytes : List ℕ) → field 2 bytes 0 ≢ 0 → is_map bytes ≡ true → (mapping_of (drop 2 bytes)).to ≡ least
map_first bytes z e = (pairs_are _ _ z (pairs_of_map bytes e)).first

pub ruleset map_facts = (map_header, map_inside, map_steps, map_first)

-- ---- mapped_of

mapped_at : (d r n : ℕ) (pairs : List ℕ) (p q : Mapping) (g : ℕ) (b : Bool) → p ≡ mapping_of pairs → q ≡ mapping_of (drop 4 pairs)
    → g ≡ gap_of d p q → nat_le r g ≡ b
    → mapped_of d r (suc n) pairs ≡ cond b (on_segment r g p q) (mapped_of d (r - g) n (drop 4 pairs))
unfolding mapped_of
mapped_at d r n pairs p q g b ep eq eg e = rw (sym e, eg, ep, eq) refl

pub mapped_here : (d r k n : ℕ) (rest : List ℕ) (p q : Mapping) (g : ℕ) (t : ℤ) → k < n → p ≡ mapping_of rest
    → q ≡ mapping_of (drop 4 rest)
    → g ≡ gap_of d p q → r ≤ g → mapped_of d r (n - k) rest ≡ t → on_segment r g p q ≡ t
mapped_here d r k n rest p q g t h ep eq eg e s =
    sym (mapped_at d r (n - (k + 1)) rest p q g true ep eq eg (le-leb _ _ e))
    ∙ sym (ap (λ (m : ℕ). mapped_of d r m rest) (less k n h)) ∙ s

pub mapped_on : (d r k n : ℕ) (rest next : List ℕ) (p q : Mapping) (g : ℕ) (t : ℤ) → k < n → p ≡ mapping_of rest
    → q ≡ mapping_of (drop 4 rest) → g ≡ gap_of d p q → g < r → next ≡ drop 4 rest → mapped_of d r (n - k) rest ≡ t
    → mapped_of d (r - g) (n - (k + 1)) next ≡ t
mapped_on d r k n rest next p q g t h ep eq eg e dn s =
    ap (mapped_of d (r - g) (n - (k + 1))) dn
    ∙ sym (mapped_at d r (n - (k + 1)) rest p q g false ep eq eg (lt-leb _ _ e))
    ∙ sym (ap (λ (m : ℕ). mapped_of d r m rest) (less k n h)) ∙ s

pub mapped_end : (d r k n : ℕ) (rest : List ℕ) (t : ℤ) → n ≤ k → mapped_of d r (n - k) rest ≡ t → (mapping_of rest).to ≡ t
unfolding mapped_of
mapped_end d r k n rest t h s = sym (ap (λ (m : ℕ). mapped_of d r m rest) (none k n h)) ∙ s
