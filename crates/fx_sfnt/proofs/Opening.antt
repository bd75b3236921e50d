-- A font that was opened has the tables and the room that its fields say: `opened`.
-- For the clauses of a `Font`'s methods on its fields.
use Rattle.std.proofs.Common.{◌≡◌, ℕ, ◌+◌, ◌*◌, ◌<◌, ◌≤◌, true, not, ◌==◌, ◌||◌, nat_lt, List, length, Some, Ok, refl, sym, ◌∙◌}
use Rattle.std.proofs.Common.{subst, codes, arith}
use Rattle.std.proofs.lemmas.Option.{same_Some}
use Rattle.std.proofs.lemmas.Bool.{and_parts, or_parts, leb-true, ltb-false, eqb-false, not-false}
use Rattle.fx_fixed.proofs.Chain.{refuse_then, bind_then, wanted_then, same_Ok}
use Rattle.fx_sfnt.specs.Fields.{field}
use Rattle.fx_sfnt.specs.Tables.{Face, face_at, fields_of, head_of, maxp_of, hhea_of, table_of, is_directory}
use Rattle.fx_sfnt.specs.declared.fault.FontFault.TheVariants.{NotTrueType, TableMissing, TableShort, BadMaxp}
use Rattle.fx_sfnt.specs.declared.records.Head.{Head}
use Rattle.fx_sfnt.specs.declared.records.Hhea.{Hhea}
use Rattle.fx_sfnt.specs.declared.records.Maxp.{Maxp}

-- the file of a directory includes its records
pub directory_records : (directory : List ℕ) → is_directory directory ≡ true → 12 + 16 * field 2 directory 4 ≤ length directory
directory_records directory h = leb-true _ _ ((and_parts _ _ h).1)

-- what was checked of a file that is a font's
pub record Opened (file directory : List ℕ) (face : Face) : Type 0 where
  pub records : 12 + 16 * field 2 directory 4 ≤ length directory
  pub head : List ℕ
  pub maxp : List ℕ
  pub hmtx : List ℕ
  pub head_is : head_of head ≡ Ok face.head
  pub maxp_is : maxp_of maxp ≡ Ok face.maxp
  pub hmtx_is : table_of file directory (codes "hmtx") ≡ Some hmtx
  pub pairs : 0 < face.hhea.number_of_h_metrics
  pub inside : 4 * face.hhea.number_of_h_metrics ≤ length hmtx

pub opened : {file directory : List ℕ} {face : Face} → face_at file directory ≡ Ok face → Opened file directory face
unfolding face_at fields_of
opened {file} {directory} {face} h =
    refuse_then (not (is_directory directory)) NotTrueType _ face h (λ readable h.
    wanted_then (table_of file directory (codes "head")) (TableMissing (codes "head")) _ face h (λ head _ h.
    wanted_then (table_of file directory (codes "maxp")) (TableMissing (codes "maxp")) _ face h (λ maxp _ h.
    wanted_then (table_of file directory (codes "hhea")) (TableMissing (codes "hhea")) _ face h (λ hhea _ h.
    wanted_then (table_of file directory (codes "hmtx")) (TableMissing (codes "hmtx")) _ face h (λ hmtx hmtx_is h.
    wanted_then (table_of file directory (codes "loca")) (TableMissing (codes "loca")) _ face h (λ loca _ h.
    wanted_then (table_of file directory (codes "glyf")) (TableMissing (codes "glyf")) _ face h (λ glyf _ h.
    bind_then (fields_of head maxp hhea hmtx) _ face h (λ fields fields_are h.
    bind_then (head_of head) _ fields fields_are (λ head_fields head_is e.
    bind_then (maxp_of maxp) _ fields e (λ maxp_fields maxp_is e.
    bind_then (hhea_of hhea) _ fields e (λ hhea_fields _ e.
    refuse_then (hhea_fields.number_of_h_metrics == 0 || nat_lt (length hmtx) (4 * hhea_fields.number_of_h_metrics))
    (TableShort (codes "hmtx")) _ fields e (λ tests e.
    let both = or_parts (hhea_fields.number_of_h_metrics == 0) (nat_lt (length hmtx) (4 * hhea_fields.number_of_h_metrics)) tests in
    let some : hhea_fields.number_of_h_metrics ≡ 0 → ⊥ = eqb-false hhea_fields.number_of_h_metrics 0 both.0 in
    let inside : 4 * hhea_fields.number_of_h_metrics ≤ length hmtx =
    ltb-false (length hmtx) (4 * hhea_fields.number_of_h_metrics) both.1 in
    subst (Opened file directory) (same_Ok _ _ refl h)
    (subst (λ (fields : Head × Maxp × Hhea). Opened file directory
    (record { file = file; directory = directory; head = fields.0; maxp = fields.1; hhea = fields.2 }))
    (same_Ok _ _ refl e) (record {
      records = directory_records directory (not-false _ readable);
      head = head;
      maxp = maxp;
      hmtx = hmtx;
      head_is = head_is;
      maxp_is = maxp_is;
      hmtx_is = hmtx_is;
      pairs = omega arith;
      inside = inside;
    }))
    ))))))))))))

-- the glyphs of `maxp`
pub maxp_glyphs : (table : List ℕ) (maxp : Maxp) → maxp_of table ≡ Ok maxp → 0 < maxp.num_glyphs
unfolding maxp_of
maxp_glyphs table maxp h =
    refuse_then (nat_lt (length table) 32) (TableShort (codes "maxp")) _ maxp h (λ _ h.
    refuse_then (not (field 4 table 0 == 0x00010000)) BadMaxp _ maxp h (λ _ h.
    refuse_then (field 2 table 4 == 0) BadMaxp _ maxp h (λ test h.
    let some : field 2 table 4 ≡ 0 → ⊥ = eqb-false (field 2 table 4) 0 test in
    let above : 0 < field 2 table 4 = omega arith in
    subst (λ (maxp : Maxp). 0 < maxp.num_glyphs) (same_Ok _ _ refl h) above)))

-- the glyphs of a font
pub font_glyphs : {file directory : List ℕ} {face : Face} → Opened file directory face → 0 < face.maxp.num_glyphs
font_glyphs {face = face} o = maxp_glyphs o.maxp face.maxp o.maxp_is

-- `hmtx` has its pairs
pub font_pairs : {file directory : List ℕ} {face : Face} {hmtx : List ℕ} → Opened file directory face
    → table_of file directory (codes "hmtx") ≡ Some hmtx
    → 4 * face.hhea.number_of_h_metrics ≤ length hmtx
font_pairs {face = face} {hmtx = hmtx} o t =
    let same : o.hmtx ≡ hmtx = same_Some _ _ (sym o.hmtx_is ∙ t) in
    subst (λ (table : List ℕ). 4 * face.hhea.number_of_h_metrics ≤ length table) same o.inside
