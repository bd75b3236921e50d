-- A buffer that is filled one by one has what was put at its front: `ids_front`.
-- Serves `put_ids` and `put_points`.
use Rattle.std.proofs.Common.{◌≡◌, refl, sym, ap, ◌∙◌, arith, ℕ, ◌+◌, ◌<◌, ◌≤◌, min, Bool, true, false}
use Rattle.std.proofs.Common.{List, [], ◌∷◌, ◌++◌, length, take, drop, get_or, set, map}
use Rattle.std.specs.Prelude.{nat_le}
use Rattle.std.proofs.lemmas.List.{length-map, take_all, take_more_set, take-map, drop_all, drop-drop, drop-set-lt, map_more}
use Rattle.std.proofs.lemmas.Bool.Decides.{nat_tests}
use Rattle.mkstrike_c.specs.Drawn.{HasFront}

pub front_more : {X Y : Type 0} (f : X → Y) (chars : List X) (glyphs : List Y) (i : ℕ) (x : X) (v : Y) → i < length chars
    → i < length glyphs → v ≡ f (get_or chars i x) → take i glyphs ≡ map f (take i chars)
    → take (i + 1) (set glyphs i v) ≡ map f (take (i + 1) chars)
front_more f chars glyphs i x v within room is so_far =
    take_more_set glyphs i v room ∙ (λ j. so_far j ++ is j ∷ []) ∙ sym (map_more f chars i x within)

pub rest_more : {Y : Type 0} (glyphs old : List Y) (i : ℕ) (v : Y) → i < length glyphs
    → drop i glyphs ≡ drop i old
    → drop (i + 1) (set glyphs i v) ≡ drop (i + 1) old
rest_more glyphs old i v room h =
    drop-set-lt (i + 1) glyphs i v (omega arith) ∙ sym (drop-drop 1 i glyphs) ∙ ap (drop 1) h ∙ drop-drop 1 i old

pub ids_front : {X Y : Type 0} (f : X → Y) (chars : List X) (old new : List Y) (i : ℕ) → length new ≡ length old
    → i ≡ min (length chars) (length old) → take i new ≡ map f (take i chars) → drop i new ≡ drop i old
    → HasFront (map f chars) old new
ids_front f chars old new i same is front rest = by_length (nat_le (length chars) (length old)) refl
  where
    long : length (map f chars) ≡ length chars
    long = length-map chars f

    by_length : (b : Bool) → nat_le (length chars) (length old) ≡ b → HasFront (map f chars) old new
    by_length true e =
        let fits : length chars ≤ length old = grind (arith, nat_tests) in
        let all : i ≡ length chars = omega (arith, is, fits) in
        record {
          front =
              ap (λ (n : ℕ). take n new) (long ∙ sym all) ∙ front
              ∙ ap (map f) (take_all i chars (omega (arith, all)))
              ∙ sym (take_all (length old) (map f chars) (omega (arith, long, fits)));
          rest = ap (λ (n : ℕ). drop n new) (long ∙ sym all) ∙ rest ∙ ap (λ (n : ℕ). drop n old) (all ∙ sym long);
        }
    by_length false e =
        let over : length old ≤ length chars = grind (arith, nat_tests) in
        let all : i ≡ length old = omega (arith, is, over) in
        record {
          front =
              take_all (length (map f chars)) new (omega (arith, long, same, over))
              ∙ sym (take_all i new (omega (arith, same, all)))
              ∙ front ∙ sym (take-map f i chars) ∙ ap (λ (n : ℕ). take n (map f chars)) all;
          rest =
              drop_all (length (map f chars)) new (omega (arith, long, same, over))
              ∙ sym (drop_all (length (map f chars)) old (omega (arith, long, over)));
        }
