-- A machine that is read from a block knows what the machine knew that wrote the block: `known_is`.
-- For a machine that is made of a block.
use Rattle.std.proofs.Common.{◌≡◌, ℕ, ◌*◌, ◌≤◌, map, List, ◌∷◌, ◌++◌, length, take, drop, refl, ap, sym, ◌∙◌, Bool, true}
use Rattle.std.proofs.Common.{false, ◌==◌, arith}
use Rattle.std.proofs.Common.{subst, Some, None, if◌then◌else◌, ◌&&◌}
use Rattle.std.specs.Prelude.{nat_le, codes}
use Rattle.std.proofs.lemmas.Bool.{eqb-true, eq-eqb, le-leb, and_parts}
use Rattle.std.proofs.lemmas.List.{length-replicate, length-map, length-drop, length-take-le, append_assoc}
use Rattle.fx_sfnt.specs.Tables.{Face, table_or_empty}
use Rattle.fx_scale.specs.Scaling.{scale_of}
use Rattle.fx_machine.specs.declared.state.State.{State}
use Rattle.fx_machine.specs.declared.usage.Usage.{Usage}
use Rattle.fx_machine.specs.declared.prepared.Prepared.{Prepared}
use Rattle.fx_machine.specs.Prepared.{Fits}
use Rattle.fx_machine.specs.Known.{Known}
use Rattle.fx_machine.specs.declared.sizes.Sizes.{Sizes}
use Rattle.fx_machine.specs.inner.Blank.{blank_state}
use Rattle.fx_machine.specs.Words.{number_in, function_in}
use Rattle.fx_machine.specs.Blocks.{AreParts, IsOfFont, SaysAll, IsBlockOf, state_words}
use Rattle.fx_machine.specs.Blocks.{storage_words, cvt_words, twilight_words, functions_words, opcodes_words}
use Rattle.fx_machine.proofs.PointsMore.{points_count}
use Rattle.fx_scale.specs.declared.scale.Scale.{Scale}
use Rattle.fx_machine.specs.Blocks.{origin_words, sizes_of}
use Rattle.fx_machine.specs.Blocks.{block_form, has_origin, font_sizes, sizes_in, usage_in, prepared_in, checksum_of}
use Rattle.fx_machine.specs.Blocks.{after_origin}
use Rattle.fx_machine.proofs.BlocksBack.{prepared_back, usage_back, all_said}

same_some : {x y : List ℕ} → Some x ≡ Some y → x ≡ y
same_some e = cc

-- ---- the words that tell the font

equal : (n : ℕ) → (n == n) ≡ true
equal n = eq-eqb n n refl

origin_said : (face : Face) (ppem : ℕ) (ws : List ℕ) → has_origin face ppem (origin_words face ppem ++ ws) ≡ true
origin_said face ppem ws = rw (
  equal ppem,
  equal (checksum_of face),
  equal (length (table_or_empty face (codes "fpgm"))),
  equal (length (table_or_empty face (codes "prep"))),
) refl

five_there : (a b c d e : ℕ) (ws : List ℕ) → nat_le 5 (length (a ∷ b ∷ c ∷ d ∷ e ∷ ws)) ≡ true
five_there a b c d e ws = le-leb 5 _ (omega arith)

origin_back : (face : Face) (ppem : ℕ) (ws : List ℕ) → after_origin face ppem (origin_words face ppem ++ ws) ≡ Some ws
unfolding after_origin
origin_back face ppem ws = rw (
  five_there block_form ppem (checksum_of face) (length (table_or_empty face (codes "fpgm")))
      (length (table_or_empty face (codes "prep"))) ws,
  origin_said face ppem ws,
) refl

module _ (face : Face) (ppem : ℕ) (block : List ℕ) (known : Known) (ef : known.face ≡ face) (ep : known.ppem ≡ ppem)
    (b : IsBlockOf known block) where
  words_there : after_origin face ppem block ≡ Some (state_words known.prepared known.prelude ++ b.rest)
  words_there =
      rw (
        b.block_is,
        append_assoc (origin_words known.face known.ppem) (state_words known.prepared known.prelude) b.rest,
        ← ef,
        ← ep,
      ) (origin_back known.face known.ppem (state_words known.prepared known.prelude ++ b.rest))

  -- they are there
  pub origin_there : None ≡ after_origin face ppem block → ⊥
  origin_there e =
      let f : None ≡ Some (state_words known.prepared known.prelude ++ b.rest) = e ∙ words_there in
      cc

  sizes_there : font_sizes face ppem ≡ sizes_of known.prepared
  sizes_there = rw (← ef, ← ep) (sym b.of_font.sizes)

  -- and say all of it
  pub all_there : (n : Sizes) (ws : List ℕ) → n ≡ font_sizes face ppem → Some ws ≡ after_origin face ppem block → SaysAll n ws
  all_there n ws z e =
      let w : ws ≡ state_words known.prepared known.prelude ++ b.rest = same_some (e ∙ words_there) in
      let t : n ≡ sizes_of known.prepared = z ∙ sizes_there in
      rw (w, t) (all_said known.prepared known.prelude b.rest b.numbered)

  pub known_is : (size : ℕ) (n : Sizes) (ws : List ℕ) (new : Prepared) (u : Usage) → size ≡ ppem → n ≡ font_sizes face ppem
      → Some ws ≡ after_origin face ppem block → new ≡ prepared_in n ws → u ≡ usage_in ws
      → ◌≡◌ {A = Known} (record { face = face; ppem = size; prepared = new; prelude = u }) known
  known_is size n ws new u s z e read used =
      let p = known.prepared in
      let w : ws ≡ state_words p known.prelude ++ b.rest = same_some (e ∙ words_there) in
      let prepared : new ≡ p = read ∙ (ap (λ m. prepared_in m ws) (z ∙ sizes_there) ∙ (ap (prepared_in (sizes_of p)) w
      ∙ prepared_back p known.prelude b.rest b.numbered b.of_font.ends b.of_font.carried)) in
      let usage : u ≡ known.prelude = used ∙ (ap usage_in w ∙ usage_back p known.prelude b.rest) in
      λ i. record { face = sym ef i; ppem = (s ∙ sym ep) i; prepared = prepared i; prelude = usage i }

pub never : false ≡ true → ⊥
never e = cc

-- a block that is taken is one of this size, and of a font with this checksum
if_some : (x : Bool) (a ws : List ℕ) → Some ws ≡ (if x then Some a else None) → x ≡ true
if_some true a ws e = refl
if_some false a ws e = cc

second_two : (a b c d e : Bool) → (a && b && c && d && e) ≡ true → (b ≡ true) × (c ≡ true)
second_two true true true d e h = (refl, refl)
second_two true true false d e h = cc
second_two true false c d e h = cc
second_two false b c d e h = cc

pub own_origin : (face : Face) (ppem : ℕ) (block ws : List ℕ) (known : Known) → Some ws ≡ after_origin face ppem block
    → IsBlockOf known block → (known.ppem ≡ ppem) × (checksum_of known.face ≡ checksum_of face)
unfolding after_origin
own_origin face ppem block ws known e b =
    let all = (and_parts (nat_le 5 (length block)) (has_origin face ppem block) (if_some _ (drop 5 block) ws e)).1 in
    let p : block ≡ origin_words known.face known.ppem ++ (state_words known.prepared known.prelude ++ b.rest) =
    b.block_is ∙ append_assoc (origin_words known.face known.ppem) (state_words known.prepared known.prelude) b.rest in
    let told : has_origin face ppem (origin_words known.face known.ppem ++ (state_words known.prepared known.prelude ++ b.rest)) ≡
    true =
    subst (λ w. has_origin face ppem w ≡ true) p all in
    let two = second_two (block_form == block_form) (known.ppem == ppem) (checksum_of known.face == checksum_of face)
    (length (table_or_empty known.face (codes "fpgm")) == length (table_or_empty face (codes "fpgm")))
    (length (table_or_empty known.face (codes "prep")) == length (table_or_empty face (codes "prep"))) told in
    (eqb-true known.ppem ppem two.0, eqb-true (checksum_of known.face) (checksum_of face) two.1)

-- ---- tables of a font's sizes

-- those that words say something for
cut : {X : Type 0} (f : ℕ → X) (n : ℕ) (ws : List ℕ) → n ≤ length ws → length (map f (take n ws)) ≡ n
cut f n ws h = length-map (take n ws) f ∙ length-take-le n ws h

pub said_sizes : (n : Sizes) (ws : List ℕ) → SaysAll n ws → sizes_of (prepared_in n ws) ≡ n
said_sizes n ws h =
    let a = length-drop 20 ws in
    let b = length-drop n.storage (storage_words ws) in
    let c = length-drop n.cvt (cvt_words n ws) in
    let d = length-drop (5 * n.twilight) (twilight_words n ws) in
    let e = length-drop n.functions (functions_words n ws) in
    λ i. record {
      storage = cut number_in n.storage (storage_words ws) (omega (arith, a, h.enough)) i;
      cvt = cut number_in n.cvt (cvt_words n ws) (omega (arith, a, b, h.enough)) i;
      twilight = points_count n.twilight (take (5 * n.twilight) (twilight_words n ws)) i;
      functions = cut function_in n.functions (functions_words n ws) (omega (arith, a, b, c, d, h.enough)) i;
      opcodes = cut function_in n.opcodes (opcodes_words n ws) (omega (arith, a, b, c, d, e, h.enough)) i;
    }

pub twilight_said : (n : Sizes) (ws t : List ℕ) → SaysAll n ws
    → t ≡ take (5 * (sizes_in ws).twilight) (twilight_words (sizes_in ws) ws) → length t ≡ 5 * n.twilight
twilight_said n ws t h e =
    let a = length-drop 20 ws in
    let b = length-drop n.storage (storage_words ws) in
    let c = length-drop n.cvt (cvt_words n ws) in
    ap length (e ∙ ap (λ (m : Sizes). take (5 * m.twilight) (twilight_words m ws)) h.sizes)
    ∙ length-take-le (5 * n.twilight) (twilight_words n ws) (omega (arith, a, b, c, h.enough))

pub said_of_font : (face : Face) (ppem : ℕ) (n : Sizes) (p : Prepared) (ws : List ℕ) → n ≡ font_sizes face ppem
    → p ≡ prepared_in n ws → SaysAll n ws → IsOfFont face ppem p
said_of_font face ppem n p ws z e h = record {
  sizes = ap sizes_of e ∙ said_sizes n ws h ∙ z;
  ends = ap (λ q. q.twilight.ends) e;
  carried = rw e refl;
}

-- a state that holds nothing yet has tables of these sizes
pub blank_fits : (face : Face) (ppem : ℕ) (p : Prepared) (scale : Scale) (s : State) → scale ≡ scale_of face ppem
    → s ≡ blank_state face scale → IsOfFont face ppem p → Fits p s
blank_fits face ppem p scale s z e h =
    let t : s ≡ blank_state face (scale_of face ppem) = e ∙ ap (blank_state face) z in record {
      storage = ap (λ x. length x.store.storage) t ∙ (length-replicate _ _ ∙ sym (ap (λ n. n.storage) h.sizes));
      cvt = ap (λ x. length x.store.cvt) t ∙ (length-replicate _ _ ∙ sym (ap (λ n. n.cvt) h.sizes));
      functions = ap (λ x. length x.definitions.functions) t ∙ (length-replicate _ _ ∙ sym (ap (λ n. n.functions) h.sizes));
      opcodes = ap (λ x. length x.definitions.opcodes) t ∙ sym (ap (λ n. n.opcodes) h.sizes);
      twilight = record {
        points = ap (λ x. length x.zones.twilight.points) t ∙ (length-replicate _ _ ∙ sym (ap (λ n. n.twilight) h.sizes));
        ends = ap (λ x. x.zones.twilight.ends) t ∙ sym h.ends;
      };
    }

-- ---- the words of each list, cut one after the other

pub parts_are : (n : Sizes) (ws a ra b rb c rc d rd e : List ℕ) → a ≡ take n.storage (drop 20 ws)
    → ra ≡ drop n.storage (drop 20 ws)
    → b ≡ take n.cvt ra → rb ≡ drop n.cvt ra → c ≡ take (5 * n.twilight) rb → rc ≡ drop (5 * n.twilight) rb
    → d ≡ take n.functions rc → rd ≡ drop n.functions rc → e ≡ take n.opcodes rd → AreParts n ws a b c d e
parts_are n ws a ra b rb c rc d rd e f h i k l o p r s = record {
  storage_is = f;
  cvt_is = i ∙ ap (take n.cvt) h;
  twilight_is = l ∙ ap (take (5 * n.twilight)) (k ∙ ap (drop n.cvt) h);
  functions_is = p ∙ ap (take n.functions) (o ∙ ap (drop (5 * n.twilight)) (k ∙ ap (drop n.cvt) h));
  opcodes_is = s ∙ ap (take n.opcodes) (r ∙ ap (drop n.functions) (o ∙ ap (drop (5 * n.twilight)) (k ∙ ap (drop n.cvt) h)));
}

-- ---- words that are added one after the other

pub all_added : (w x y z u v a b c d e : List ℕ) → x ≡ w ++ a → y ≡ x ++ b → z ≡ y ++ c → u ≡ z ++ d → v ≡ u ++ e
    → v ≡ w ++ (a ++ (b ++ (c ++ (d ++ e))))
all_added w x y z u v a b c d e f g h i j = rw (j, i, h, g, f) (simp append_assoc)
