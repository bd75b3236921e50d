-- Bytes are read as the points that the grammar describes, both ways: `found_points`, `only_points`.
-- For the clauses of `read` on simple glyphs.
use Rattle.std.proofs.Common.{◌≡◌, ℕ, zero, suc, ◌-◌, ◌<◌, ◌≤◌, Bool, true, false, List, [], ◌∷◌, ◌++◌, length, take, drop}
use Rattle.std.proofs.Common.{replicate, Some, None, cond, refl, sym, ap, ◌∙◌, arith, subst, append_assoc}
use Rattle.std.specs.Prelude.{option_and_then}
use Rattle.std.specs.List.{flat_map}
use Rattle.std.proofs.lemmas.Option.{option_and_then_some, same_Some, none-some}
use Rattle.std.proofs.lemmas.Bool.{both_ways, ltb-false, le-ltb}
use Rattle.std.proofs.lemmas.List.{take-append-drop, length-take-le, length-append, drop_at}
use Rattle.byteorder.specs.Endian.{big_number}
use Rattle.byteorder.specs.Numbers.{big_from-take, big_from-append}
use Rattle.fx_glyf.proofs.Outlines.{of_flags, of_xs, of_ys}
use Rattle.fx_glyf.specs.declared.point.GlyphPoint.{GlyphPoint}
use Rattle.fx_glyf.specs.Points.{Cursor, x_short_vector, x_is_same_or_positive_x_short_vector, y_short_vector}
use Rattle.fx_glyf.specs.Points.{y_is_same_or_positive_y_short_vector, repeat_flag, next_flag, flags_from, delta_of, delta_by}
use Rattle.fx_glyf.specs.Points.{deltas_from, glyph_points_of, start}
use Rattle.fx_glyf.specs.Words.{with_front, has}
use Rattle.fx_glyf.specs.Grammar.{FlagRun, run_bytes, run_flags, AreRuns, SpellsBy, SpellsAll, DescribesPoints}
use Rattle.fx_glyf.proofs.Steps.{front_is}

-- the state of reading flags
abbrev cursor : ℕ → ℕ → List ℕ → Cursor
cursor again flag bytes = record { again = again; flag = flag; bytes = bytes }

abbrev run : ℕ → ℕ → FlagRun
run flag again = record { flag = flag; again = again }

-- a flag that is read is a run
record Ran (bytes : List ℕ) (d : Cursor) : Type 0 where
  bytes_are : bytes ≡ run_bytes (run d.flag d.again) ++ d.bytes
  once : has d.flag repeat_flag ≡ false → d.again ≡ 0

ran_long : (t : Bool) (f r : ℕ) (bytes : List ℕ) (d : Cursor) → has f repeat_flag ≡ t
    → cond t (Some (cursor r f bytes)) (Some (cursor 0 f (r ∷ bytes))) ≡ Some d → Ran (f ∷ r ∷ bytes) d
ran_long true f r bytes d h e = grind (arith, same_Some, both_ways)
ran_long false f r bytes d h e = grind (arith, same_Some)

ran_short : (t : Bool) (f : ℕ) (d : Cursor) → has f repeat_flag ≡ t → cond t None (Some (cursor 0 f [])) ≡ Some d → Ran (f ∷ []) d
ran_short true f d h e = absurd (none-some _ e)
ran_short false f d h e = grind (arith, same_Some)

one_run : (flag : ℕ) (bytes : List ℕ) (d : Cursor) → next_flag (cursor 0 flag bytes) ≡ Some d → Ran bytes d
unfolding next_flag
one_run flag [] d e = absurd (none-some _ e)
one_run flag (f ∷ []) d e = ran_short _ f d refl e
one_run flag (f ∷ r ∷ bytes) d e = ran_long _ f r bytes d refl e

run_one_by : (t : Bool) (flag f a : ℕ) (rest : List ℕ) → has f repeat_flag ≡ t → (t ≡ false → a ≡ 0)
    → next_flag (cursor 0 flag (cond t (f ∷ a ∷ []) (f ∷ []) ++ rest)) ≡ Some (cursor a f rest)
unfolding next_flag
run_one_by true flag f a rest h g = ap (λ (b : Bool). cond b (Some (cursor a f rest)) (Some (cursor 0 f (a ∷ rest)))) h
run_one_by false flag f a [] h g = grind arith
run_one_by false flag f a (x ∷ xs) h g = grind arith

run_one : (flag : ℕ) (r : FlagRun) (rest : List ℕ) → (has r.flag repeat_flag ≡ false → r.again ≡ 0)
    → next_flag (cursor 0 flag (run_bytes r ++ rest)) ≡ Some (cursor r.again r.flag rest)
run_one flag r rest h = run_one_by _ flag r.flag r.again rest refl h

-- flags that are read are those of runs
record Runs (n again flag : ℕ) (bytes fs rest : List ℕ) : Type 0 where
  runs : List FlagRun
  split : bytes ≡ flat_map run_bytes runs ++ rest
  are : AreRuns (n - again) runs
  flags : fs ≡ take n (replicate again flag ++ flat_map run_flags runs)

same_tail : {X Y : Type 0} (x y : X × Y) → x ≡ y → x.1 ≡ y.1
same_tail {X} {Y} x y e = ap (λ (p : X × Y). p.1) e

same_head : {X Y : Type 0} (x y : X × Y) → x ≡ y → x.0 ≡ y.0
same_head {X} {Y} x y e = ap (λ (p : X × Y). p.0) e

runs_of : (n again flag : ℕ) (bytes fs rest : List ℕ) → flags_from n (cursor again flag bytes) ≡ Some (fs, rest)
    → Runs n again flag bytes fs rest
unfolding flags_from next_flag
runs_of zero again flag bytes fs rest e = grind (arith, same_Some, same_tail, same_head)
runs_of (suc n) (suc again) flag bytes fs rest e =
    let f = front_is flag _ fs rest e in
    let i = runs_of n again flag bytes f.0 rest f.1 in
    let P : ℕ → Type 0 = λ m. AreRuns m i.runs in
    let less : n - again ≡ suc n - suc again = omega arith in
    record { runs = i.runs; split = i.split; are = subst P less i.are; flags = f.2 ∙ ap (λ (hs : List ℕ). flag ∷ hs) i.flags }
runs_of (suc n) zero flag bytes fs rest e =
    option_and_then_some (λ (d : Cursor). with_front d.flag (flags_from n d)) (next_flag (cursor 0 flag bytes)) (fs, rest) e
    (λ d q w.
    let f = front_is d.flag _ fs rest w in
    let i = runs_of n d.again d.flag d.bytes f.0 rest f.1 in
    let r = one_run flag bytes d q in
    let P : ℕ → Type 0 = λ m. AreRuns m i.runs in
    let Q : ℕ → Type 0 = λ m. AreRuns m (run d.flag d.again ∷ i.runs) in
    let less : n - d.again ≡ suc n - suc d.again = omega arith in
    let same : suc n ≡ suc n - 0 = omega arith in
    let more : 0 < suc n = omega arith in
    record {
      runs = run d.flag d.again ∷ i.runs;
      split = r.bytes_are ∙ ap (λ (x : List ℕ). run_bytes (run d.flag d.again) ++ x) i.split
          ∙ sym (append_assoc (run_bytes (run d.flag d.again)) (flat_map run_bytes i.runs) rest);
      are = subst Q same (more, r.once, subst P less i.are);
      flags = f.2 ∙ ap (λ (hs : List ℕ). d.flag ∷ hs) i.flags;
    })

-- runs are read
runs_read : (n again flag : ℕ) (runs : List FlagRun) (rest : List ℕ) → AreRuns (n - again) runs
    → flags_from n (cursor again flag (flat_map run_bytes runs ++ rest)) ≡ Some
    (take n (replicate again flag ++ flat_map run_flags runs), rest)
unfolding flags_from next_flag
runs_read zero again flag [] rest h = refl
runs_read zero again flag (r ∷ rs) rest h = let g : 0 < 0 - again = h.0 in absurd (omega arith)
runs_read (suc n) (suc again) flag runs rest h =
    let P : ℕ → Type 0 = λ m. AreRuns m runs in
    let less : suc n - suc again ≡ n - again = omega arith in
    ap (with_front flag) (runs_read n again flag runs rest (subst P less h))
runs_read (suc n) zero flag [] rest h = let g : suc n - 0 ≡ 0 = h in absurd (omega arith)
runs_read (suc n) zero flag (r ∷ rs) rest h =
    let P : ℕ → Type 0 = λ m. AreRuns m rs in
    let less : suc n - 0 - suc r.again ≡ n - r.again = omega arith in
    ap (λ (bs : List ℕ). flags_from (suc n) (cursor 0 flag bs)) (append_assoc (run_bytes r) (flat_map run_bytes rs) rest)
    ∙ ap (option_and_then (λ (d : Cursor). with_front d.flag (flags_from n d))) (run_one flag r (flat_map run_bytes rs ++ rest) h.1)
    ∙ ap (with_front r.flag) (runs_read n r.again r.flag rs rest (subst P less h.2))

guard_ok : {X : Type 0} (b : Bool) (x y : X) → cond b None (Some x) ≡ Some y → (b ≡ false) × (x ≡ y)
guard_ok {X} true x y e = absurd (none-some _ e)
guard_ok {X} false x y e = (refl, same_Some _ _ e)

-- a delta that is read is spelled so
record Spelled (short same : Bool) (bytes : List ℕ) (d : ℕ) (rest : List ℕ) : Type 0 where
  front : List ℕ
  split : bytes ≡ front ++ rest
  spells : SpellsBy short same d front

spelled : (short same : Bool) (bytes : List ℕ) (d : ℕ) (rest : List ℕ) → delta_by short same bytes ≡ Some (d, rest)
    → Spelled short same bytes d rest
unfolding delta_by
spelled true same [] d rest e = absurd (none-some _ e)
spelled true same (b ∷ bytes) d rest e =
    let q = same_Some _ _ e in
    record { front = b ∷ []; split = ap (λ (x : List ℕ). b ∷ x) (same_tail _ _ q); spells = (b, refl, sym (same_head _ _ q)) }
spelled false true bytes d rest e = grind (arith, same_Some, same_tail, same_head)
spelled false false bytes d rest e =
    let g = guard_ok _ _ _ e in
    let two : 2 ≤ length bytes = ltb-false _ _ g.0 in
    record {
      front = take 2 bytes;
      split = sym (take-append-drop 2 bytes) ∙ ap (λ (x : List ℕ). take 2 bytes ++ x) (same_tail _ _ g.1);
      spells = (length-take-le 2 bytes two, sym (same_head _ _ g.1) ∙ sym (big_from-take 0 2 2 bytes (omega arith)));
    }

-- a delta that is spelled so is read
delta_read : (short same : Bool) (d : ℕ) (front rest : List ℕ) → SpellsBy short same d front
    → delta_by short same (front ++ rest) ≡ Some (d, rest)
unfolding delta_by
delta_read true same d front rest h = grind arith
delta_read false true d front rest h = grind arith
delta_read false false d front rest h =
    let two : 2 ≤ length (front ++ rest) = omega (arith, length-append front rest, h.0) in
    ap (λ (b : Bool). cond b None (Some (big_number 2 (front ++ rest), drop 2 (front ++ rest)))) (le-ltb _ _ two)
    ∙ ap (λ (n : ℕ). Some (n, drop 2 (front ++ rest))) (big_from-append 2 front rest (omega (arith, h.0)) ∙ sym h.1)
    ∙ ap (λ (x : List ℕ). Some (d, x)) (drop_at front rest 2 h.0)

record AllSpelled (short same : ℕ) (fs bytes ds rest : List ℕ) : Type 0 where
  front : List ℕ
  split : bytes ≡ front ++ rest
  spells : SpellsAll short same fs ds front

all_spelled : (short same : ℕ) (fs bytes ds rest : List ℕ) → deltas_from short same fs bytes ≡ Some (ds, rest)
    → AllSpelled short same fs bytes ds rest
unfolding deltas_from
all_spelled short same [] bytes ds rest e = grind (arith, same_Some, same_tail, same_head)
all_spelled short same (f ∷ fs) bytes ds rest e =
    option_and_then_some (λ (d : ℕ × List ℕ). with_front d.0 (deltas_from short same fs d.1)) (delta_of short same f bytes)
    (ds, rest) e (λ d q w.
    let g = front_is d.0 _ ds rest w in
    let s = spelled _ _ bytes d.0 d.1 q in
    let i = all_spelled short same fs d.1 g.0 rest g.1 in
    let P : List ℕ → Type 0 = λ xs. SpellsAll short same (f ∷ fs) xs (s.front ++ i.front) in
    record {
      front = s.front ++ i.front;
      split = s.split ∙ ap (λ (x : List ℕ). s.front ++ x) i.split ∙ sym (append_assoc s.front i.front rest);
      spells = subst P (sym g.2) (s.front, i.front, refl, s.spells, i.spells);
    })

all_read : (short same : ℕ) (fs ds front rest : List ℕ) → SpellsAll short same fs ds front
    → deltas_from short same fs (front ++ rest) ≡ Some (ds, rest)
unfolding deltas_from
all_read short same [] [] front rest h = ap (λ (x : List ℕ). Some ([], x ++ rest)) h
all_read short same [] (d ∷ ds) front rest h = absurd h
all_read short same (f ∷ fs) [] front rest h = absurd h
all_read short same (f ∷ fs) (d ∷ ds) front rest h =
    ap (λ (x : List ℕ). deltas_from short same (f ∷ fs) x) (ap (λ (x : List ℕ). x ++ rest) h.2 ∙ append_assoc h.0 h.1 rest)
    ∙ ap (option_and_then (λ (d : ℕ × List ℕ). with_front d.0 (deltas_from short same fs d.1)))
    (delta_read _ _ d h.0 (h.1 ++ rest) h.3)
    ∙ ap (with_front d) (all_read short same fs ds h.1 rest h.4)

-- what is read is described by the bytes
pub found_points : (count : ℕ) (bytes : List ℕ) (points : List GlyphPoint) → glyph_points_of count bytes ≡ Some points
    → DescribesPoints count bytes points
unfolding glyph_points_of
found_points count bytes points e =
    option_and_then_some of_flags (flags_from count (start bytes)) points e (λ fs qf wf.
    option_and_then_some (of_xs fs.0) (deltas_from x_short_vector x_is_same_or_positive_x_short_vector fs.0 fs.1) points wf
    (λ xs qx wx.
    option_and_then_some (of_ys fs.0 xs.0) (deltas_from y_short_vector y_is_same_or_positive_y_short_vector fs.0 xs.1) points wx
    (λ ys qy wy.
    let r = runs_of count 0 0 bytes fs.0 fs.1 qf in
    let x = all_spelled x_short_vector x_is_same_or_positive_x_short_vector fs.0 fs.1 xs.0 xs.1 qx in
    let y = all_spelled y_short_vector y_is_same_or_positive_y_short_vector fs.0 xs.1 ys.0 ys.1 qy in
    let P : ℕ → Type 0 = λ n. AreRuns n r.runs in
    let same : count - 0 ≡ count = omega arith in
    record {
      runs = r.runs;
      flags = fs.0;
      dxs = xs.0;
      dys = ys.0;
      xs = x.front;
      ys = y.front;
      after = ys.1;
      split = r.split ∙ ap (λ (b : List ℕ). flat_map run_bytes r.runs ++ b) (x.split ∙ ap (λ (b : List ℕ). x.front ++ b) y.split);
      are_runs = subst P same r.are;
      flags_are = r.flags;
      xs_are = x.spells;
      ys_are = y.spells;
      points_are = sym (same_Some _ _ wy);
    })))

-- what the bytes describe is read
pub only_points : (count : ℕ) (bytes : List ℕ) (points : List GlyphPoint) → DescribesPoints count bytes points
    → glyph_points_of count bytes ≡ Some points
unfolding glyph_points_of
only_points count bytes points d = grind (arith, of_flags, runs_read, of_xs, all_read, of_ys)
