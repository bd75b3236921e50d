-- What is made by the words of a block is what is made without them: `set_at`, `numbered_found`, `own_found`.
-- Serves `block_of`, `one_by`, `numbered_by`, `gathered_by`, and the calls by a block.
use Rattle.std.proofs.Common.{◌≡◌, refl, ap, sym, ◌∙◌, subst, arith, inr, ℕ, ◌<◌, min, Bool, true, List, [], ◌∷◌, ◌++◌, Option, Some, None, Result, Ok, Err}
use Rattle.std.specs.Prelude.{IfOk, IfErr, IfSome, OnOk, ◌≤◌}
use Rattle.fx_fixed.specs.Chain.{◌>>=◌, map_ok}
use Rattle.fx_sfnt.specs.Collections.{FontFileView, face_in}
use Rattle.fx_bdf.specs.Glyphs as bits
use Rattle.fx_machine.specs.Known.{Known}
use Rattle.fx_machine.specs.Blocks.{IsBlockOf, checksum_of}
use Rattle.fx_request.specs.declared.request.Mode.{Mode}
use Rattle.fx_request.specs.declared.request.OnRefused.TheVariants.{Stop}
use Rattle.fx_request.specs.declared.refusal.Refusal.{Refusal}
use Rattle.fx_request.specs.declared.refusal.Refusal.TheVariants.{OutOfMemory}
use Rattle.fx_strike.specs.declared.opened.Opened.{Opened}
use Rattle.fx_strike.specs.Faults.{Fails}
use Rattle.fx_strike.specs.Blocks.{IsBlockIn, opened_in}
use Rattle.fx_strike.specs.Blocks as block
use Rattle.fx_strike.specs.Strike.{Sketch, Setting, Opening, bounded_for, checked_chars, machine_for, one_in, one_of, one_with, opened_after}
use Rattle.fx_strike.specs.Strike.{opened_at, opened_many_of, opened_one_of, setting_for, setting_in, setting_of, setting_with, basis_of}
use Rattle.fx_strike.specs.Headline.{IsOneOf, Late, character_with}
use Rattle.fx_strike.specs.Numbered.{numbered_with}
use Rattle.fx_strike.proofs.BlockSettings.{known_is}
use Rattle.fx_strike.proofs.Sketching.{fails_on}
use Rattle.mkstrike_c.specs.declared.gathered.Drawn.{Drawn}
use Rattle.mkstrike_c.specs.declared.gathered.GlyphBuffers.{GlyphBuffers}
use Rattle.mkstrike_c.specs.declared.gathered.Placed.{Placed}
use Rattle.mkstrike_c.specs.declared.gathered.Wanted.{Wanted}
use Rattle.fx_request.specs.Refusals.{number_of}
use Rattle.mkstrike_c.specs.declared.glyph.GlyphInfo.{GlyphInfo}
use Rattle.mkstrike_c.specs.declared.refused.Refused.{Refused}
use Rattle.mkstrike_c.specs.Prepared.{AreOwn, AreWordsOf, IsBlock, IsFor, IsOwn, IsRefusedBy, origin_words}
use Rattle.mkstrike_c.specs.Refused.{IsReason, refused_of}
use Rattle.mkstrike_c.specs.Shown.{by_id}
use Rattle.mkstrike_c.specs.inner.Gathering.{AreGathered, AreTold, IsGathered}
use Rattle.mkstrike_c.specs.inner.Showing.{FindsById, IsFoundBy, IsTold}
use Rattle.mkstrike_c.proofs.Gathering.{gathered_from, opened_late, refused_later}
use Rattle.mkstrike_c.proofs.Showing.{by_id_set, late_at}

-- ---- the setting of words

pub record IsSetBy (due : Result Setting Refusal) (words : List ℕ) : Type 0 where
  pub setting : Setting
  pub is : due ≡ Ok setting
  pub block : IsBlockIn setting words

in_set : (o : Opened) (mode : Mode) (m : Option Known) → machine_for o.font o.ppem mode.hinting mode.careful ≡ Ok m
    → setting_in o mode ≡ Ok (setting_with (basis_of o mode) m)
unfolding setting_in
in_set o mode m h = ap (λ (r : Result (Option Known) Refusal). r >>= λ m. Ok (setting_with (basis_of o mode) m)) h

pub set_at : (file : FontFileView) (ppem : ℕ) (mode : Mode) (words : List ℕ) → AreWordsOf file ppem mode words
    → IsSetBy (setting_of file ppem mode) words
unfolding setting_of
set_at file ppem mode words w = record {
  setting = setting_with (basis_of w.opened mode) w.machine;
  is = ap (λ (o : Opening). o >>= λ o. setting_in o mode) w.opens ∙ in_set w.opened mode w.machine w.runs;
  block = w.of_machine;
}

pub set_for : (file : FontFileView) (ppem : ℕ) (chars : List ℕ) (mode : Mode) (words : List ℕ)
    → AreWordsOf file ppem mode words → Ok tt ≡ checked_chars chars → IsSetBy (setting_for file ppem chars mode) words
unfolding setting_for
set_for file ppem chars mode words w pass = record {
  setting = setting_with (basis_of w.opened mode) w.machine;
  is =
      ap (λ (o : Opening). o >>= λ o. setting_in o mode)
      (ap (λ (k : Result (Unit {0}) Refusal). opened_after ppem k file) (sym pass) ∙ w.opens)
      ∙ in_set w.opened mode w.machine w.runs;
  block = w.of_machine;
}

not_none : (made : Option Setting) (s : Setting) → made ≡ None → made ≡ Some s → ⊥
not_none made s n e = let f : None ≡ Some s = sym n ∙ e in cc

same_made : {x y : Setting} → Some x ≡ Some y → x ≡ y
same_made e = cc

-- words of a block are taken
pub taken_at : (file : FontFileView) (ppem : ℕ) (mode : Mode) (words : List ℕ) (made : Option Setting) → made ≡ None
    → ((s : Setting) → setting_of file ppem mode ≡ Ok s → IsBlockIn s words → made ≡ Some s)
    → AreWordsOf file ppem mode words → ⊥
taken_at file ppem mode words made n t w =
    let k = set_at file ppem mode words w in not_none made k.setting n (t k.setting k.is k.block)

pub taken_for : (file : FontFileView) (ppem : ℕ) (chars : List ℕ) (mode : Mode) (words : List ℕ) (made : Option Setting)
    → made ≡ None → Ok tt ≡ checked_chars chars
    → ((s : Setting) → setting_for file ppem chars mode ≡ Ok s → IsBlockIn s words → made ≡ Some s)
    → AreWordsOf file ppem mode words → ⊥
taken_for file ppem chars mode words made n pass t w =
    let k = set_for file ppem chars mode words w pass in not_none made k.setting n (t k.setting k.is k.block)

-- and give the setting that is due
set_by : (due : Result Setting Refusal) (words : List ℕ) (made : Option Setting) (striker : Setting) → made ≡ Some striker
    → ((s : Setting) → due ≡ Ok s → IsBlockIn s words → made ≡ Some s) → IsSetBy due words → due ≡ Ok striker
set_by due words made striker is t k =
    k.is ∙ ap (λ (s : Setting). Ok s) (same_made (sym (t k.setting k.is k.block) ∙ is))

-- ---- one character

pub one_fails : (file : FontFileView) (ppem code : ℕ) (mode : Mode) (d : Refusal) → Fails d (opened_one_of file ppem code)
    → Fails d (one_of file ppem code mode)
unfolding one_of
one_fails file ppem code mode d f =
    fails_on d (opened_one_of file ppem code) (one_of file ppem code mode)
    (λ e k. ap (λ (o : Opening). o >>= λ o. one_in o code mode) k) f

one_set : (file : FontFileView) (ppem code : ℕ) (mode : Mode) (s : Setting) → setting_for file ppem (code ∷ []) mode ≡ Ok s
    → one_of file ppem code mode ≡ one_with s code
unfolding one_of one_in setting_for
one_set file ppem code mode s h = by_opened (opened_one_of file ppem code) h
  where
    by_opened : (o : Opening) → (o >>= λ o. setting_in o mode) ≡ Ok s
        → (o >>= λ o. setting_in o mode >>= λ s. one_with s code) ≡ one_with s code
    by_opened (Ok o) h = ap (λ (r : Result Setting Refusal). r >>= λ s. one_with s code) h
    by_opened (Err e) h = absurd (cc)

one_is : (s : Setting) (code : ℕ) → Ok tt ≡ checked_chars (code ∷ []) → character_with s code ≡ one_with s code
unfolding character_with
one_is s code pass = ap (λ (r : Result (Unit {0}) Refusal). r >>= λ _. one_with s code) (sym pass)

pub one_found : (file : FontFileView) (ppem code : ℕ) (mode : Mode) (words : List ℕ) (made : Option Setting) (striker : Setting)
    (r : Result (Option bits.Glyph) Refusal) → made ≡ Some striker → Ok tt ≡ checked_chars (code ∷ [])
    → ((s : Setting) → setting_for file ppem (code ∷ []) mode ≡ Ok s → IsBlockIn s words → made ≡ Some s)
    → IfOk r (IsOneOf (character_with striker code)) → IfErr r (λ d. Fails d (character_with striker code))
    → AreWordsOf file ppem mode words
    → IsFoundBy (IsOneOf (one_of file ppem code mode)) (IsReason (opened_one_of file ppem code) (one_of file ppem code mode))
    (Some r)
one_found file ppem code mode words made striker r is pass t glyph cause w =
    let set = set_by (setting_for file ppem (code ∷ []) mode) words made striker is t
    (set_for file ppem (code ∷ []) mode words w pass) in
    let same : character_with striker code ≡ one_of file ppem code mode =
    one_is striker code pass ∙ sym (one_set file ppem code mode striker set) in
    by_result r glyph cause (opened_late file ppem (code ∷ []) mode striker set) same
  where
    by_result : (r : Result (Option bits.Glyph) Refusal) → IfOk r (IsOneOf (character_with striker code))
        → IfErr r (λ d. Fails d (character_with striker code)) → Late (opened_one_of file ppem code)
        → character_with striker code ≡ one_of file ppem code mode
        → IsFoundBy (IsOneOf (one_of file ppem code mode)) (IsReason (opened_one_of file ppem code) (one_of file ppem code mode))
        (Some r)
    by_result (Ok g) glyph cause late same =
        let P : Result (Option Sketch) Refusal → Type 0 = λ due. IsOneOf due g in subst P same glyph
    by_result (Err d) glyph cause late same =
        let P : Result (Option Sketch) Refusal → Type 0 = λ due. Fails d due in (subst P same cause, λ m. late)

-- ---- a glyph by its number

pub numbered_found : (file : FontFileView) (ppem glyph : ℕ) (mode : Mode) (words : List ℕ) (made : Option Setting)
    (striker : Setting) (r : Result (Option bits.Glyph) Refusal) → made ≡ Some striker
    → ((s : Setting) → setting_of file ppem mode ≡ Ok s → IsBlockIn s words → made ≡ Some s)
    → IfOk r (FindsById (map_ok Some (numbered_with striker (min glyph 65535))))
    → IfErr r (λ d. Fails d (map_ok Some (numbered_with striker (min glyph 65535))))
    → AreWordsOf file ppem mode words
    → IsFoundBy (FindsById (by_id file ppem glyph mode)) (IsReason (opened_at file ppem) (by_id file ppem glyph mode)) (Some r)
numbered_found file ppem glyph mode words made striker r is t found cause w =
    let set = set_by (setting_of file ppem mode) words made striker is t (set_at file ppem mode words w) in
    by_result r found cause (late_at file ppem mode striker set) (sym (by_id_set file ppem glyph mode striker set))
  where
    by_result : (r : Result (Option bits.Glyph) Refusal)
        → IfOk r (FindsById (map_ok Some (numbered_with striker (min glyph 65535))))
        → IfErr r (λ d. Fails d (map_ok Some (numbered_with striker (min glyph 65535))))
        → Late (opened_at file ppem)
        → map_ok Some (numbered_with striker (min glyph 65535)) ≡ by_id file ppem glyph mode
        → IsFoundBy (FindsById (by_id file ppem glyph mode)) (IsReason (opened_at file ppem) (by_id file ppem glyph mode)) (Some r)
    by_result (Ok g) found cause late same =
        let P : Result (Option Sketch) Refusal → Type 0 = λ due. FindsById due g in subst P same found
    by_result (Err d) found cause late same =
        let P : Result (Option Sketch) Refusal → Type 0 = λ due. Fails d due in (subst P same cause, λ m. late)

-- ---- many characters

pub gathered_fails : (file : FontFileView) (ppem : ℕ) (chars : List ℕ) (mode : Mode) (d : Refusal)
    → Fails d (opened_many_of file ppem chars) → Fails d (setting_for file ppem chars mode)
unfolding setting_for
gathered_fails file ppem chars mode d f =
    fails_on d (opened_many_of file ppem chars) (setting_for file ppem chars mode)
    (λ e k. ap (λ (o : Opening). o >>= λ o. setting_in o mode) k) f

pub gathered_found : (file : FontFileView) (ppem : ℕ) (chars : List ℕ) (mode : Mode) (wanted : Wanted) (words : List ℕ)
    (made : Option Setting) (striker : Setting) (r : Result GlyphBuffers Refusal) → made ≡ Some striker
    → Ok tt ≡ checked_chars chars
    → ((s : Setting) → setting_for file ppem chars mode ≡ Ok s → IsBlockIn s words → made ≡ Some s)
    → IfOk r (AreGathered (bounded_for striker Stop chars) chars wanted) → IfErr r (λ d. d ≡ OutOfMemory)
    → AreWordsOf file ppem mode words
    → IsFoundBy (IsGathered wanted (setting_for file ppem chars mode) chars)
    (IsReason (opened_many_of file ppem chars) (setting_for file ppem chars mode)) (Some r)
gathered_found file ppem chars mode wanted words made striker r is pass t are memory w =
    let set = set_by (setting_for file ppem chars mode) words made striker is t (set_for file ppem chars mode words w pass) in
    by_result r (gathered_from (setting_for file ppem chars mode) chars striker wanted r set are)
    (refused_later file ppem chars mode striker r set memory)
  where
    by_result : (r : Result GlyphBuffers Refusal) → IfOk r (IsGathered wanted (setting_for file ppem chars mode) chars)
        → IfErr r (IsReason (opened_many_of file ppem chars) (setting_for file ppem chars mode))
        → IsFoundBy (IsGathered wanted (setting_for file ppem chars mode) chars)
        (IsReason (opened_many_of file ppem chars) (setting_for file ppem chars mode)) (Some r)
    by_result (Ok g) found why = found
    by_result (Err d) found why = why

-- ---- the block of a font

same_setting : {x y : Setting} → ◌≡◌ {A = Result Setting Refusal} (Ok x) (Ok y) → x ≡ y
same_setting e = cc

opened_set : (o : Opened) (mode : Mode) (s : Setting) → setting_in o mode ≡ Ok s
    → machine_for o.font o.ppem mode.hinting mode.careful ≡ Ok s.machine
unfolding setting_in
opened_set o mode s h = by_machine (machine_for o.font o.ppem mode.hinting mode.careful) h
  where
    by_machine : (m : Result (Option Known) Refusal) → (m >>= λ m. Ok (setting_with (basis_of o mode) m)) ≡ Ok s
        → m ≡ Ok s.machine
    by_machine (Ok m) h =
        let k : setting_with (basis_of o mode) m ≡ s = same_setting h in ap (λ (t : Setting). Ok t.machine) k
    by_machine (Err e) h = absurd (cc)

words_of_setting : (file : FontFileView) (ppem : ℕ) (mode : Mode) (s : Setting) (words : List ℕ)
    → setting_of file ppem mode ≡ Ok s → IsBlockIn s words → AreWordsOf file ppem mode words
unfolding setting_of
words_of_setting file ppem mode s words h b = by_opened (opened_at file ppem) refl h
  where
    by_opened : (o : Opening) → opened_at file ppem ≡ o → (o >>= λ o. setting_in o mode) ≡ Ok s
        → AreWordsOf file ppem mode words
    by_opened (Ok o) e h = record {
      opened = o;
      machine = s.machine;
      opens = e;
      runs = opened_set o mode s h;
      of_machine = b;
    }
    by_opened (Err d) e h = absurd (cc)

-- memory was refused after the font opened
pub unmade : {A : Type 0} (file : FontFileView) (ppem : ℕ) (mode : Mode) (s : Setting) (r : Result A Refusal) (e : Refusal)
    → r ≡ Err e → e ≡ OutOfMemory → setting_of file ppem mode ≡ Ok s
    → IfErr r (IsReason (opened_at file ppem) (setting_of file ppem mode))
unmade file ppem mode s r e p q k =
    let P : Result _ Refusal → Type 0 = λ r. IfErr r (IsReason (opened_at file ppem) (setting_of file ppem mode)) in
    subst P (sym (p ∙ ap (λ (d : Refusal). Err d) q)) (tt, λ m. late_at file ppem mode s k)

pub block_made : (file : List ℕ) (face ppem : ℕ) (mode : Mode) (s : Setting) (words made : List ℕ)
    → setting_of (face_in file face) ppem mode ≡ Ok s → IsBlockIn s words
    → made ≡ origin_words file face ppem mode.hinting ++ words → IsBlock file face ppem mode made
block_made file face ppem mode s words made k b is =
    record { words = words; are = words_of_setting (face_in file face) ppem mode s words k b; is = is }

-- ---- of no font with another checksum

same_opening : {x y : Opened} → ◌≡◌ {A = Opening} (Ok x) (Ok y) → x ≡ y
same_opening e = cc

own_at : (file : FontFileView) (ppem : ℕ) (hinting : Bool) (words : List ℕ) (s : Setting)
    → opened_at file ppem ≡ Ok (opened_in s)
    → ((known : Known) → IsBlockOf known words → hinting ≡ true → block.IsOwn known s.font s.ppem) → AreOwn file ppem hinting words
own_at file ppem hinting words s e t f size mode o p w h g i j =
    let face : w.opened ≡ o = same_opening (sym w.opens ∙ i) in
    let k = known_is w.opened.font w.opened.ppem mode.careful words w.machine (rw h at w.runs) w.of_machine in
    ap checksum_of (sym (k.face_is ∙ ap (λ (x : Opened). x.font) face))
    ∙ (t k.known k.of_known g).1
    ∙ ap (λ (x : Opened). checksum_of x.font) (same_opening (sym e ∙ j))

own_for : (file : FontFileView) (ppem : ℕ) (chars : List ℕ) (hinting : Bool) (words : List ℕ) (s : Setting)
    → opened_many_of file ppem chars ≡ Ok (opened_in s) → Ok tt ≡ checked_chars chars
    → ((known : Known) → IsBlockOf known words → hinting ≡ true → block.IsOwn known s.font s.ppem) → AreOwn file ppem hinting words
own_for file ppem chars hinting words s e pass t =
    own_at file ppem hinting words s (ap (λ (k : Result (Unit {0}) Refusal). opened_after ppem k file) pass ∙ e) t

on_ok : {A : Type 0} {X : Type 0} (r : Result A Refusal) → X → OnOk r X
on_ok (Ok a) x = x
on_ok (Err e) x = tt

pub own_striker : {A : Type 0} (file : FontFileView) (ppem : ℕ) (mode : Mode) (words : List ℕ) (made : Option Setting)
    (striker : Setting) (r : Result A Refusal) → made ≡ Some striker
    → IfSome made (λ s. opened_at file ppem ≡ Ok (opened_in s))
    → IfSome made (λ s. (known : Known) → IsBlockOf known words → mode.hinting ≡ true → block.IsOwn known s.font s.ppem)
    → OnOk r (AreOwn file ppem mode.hinting words)
own_striker file ppem mode words made striker r is opened own =
    let P : Option Setting → Type 0 = λ m. IfSome m (λ s. opened_at file ppem ≡ Ok (opened_in s)) in
    let Q : Option Setting → Type 0 =
    λ m. IfSome m (λ s. (known : Known) → IsBlockOf known words → mode.hinting ≡ true → block.IsOwn known s.font s.ppem) in
    on_ok r (own_at file ppem mode.hinting words striker (subst P is opened) (subst Q is own))

pub own_striker_for : {A : Type 0} (file : FontFileView) (ppem : ℕ) (chars : List ℕ) (mode : Mode) (words : List ℕ)
    (made : Option Setting) (striker : Setting) (r : Result A Refusal) → made ≡ Some striker → Ok tt ≡ checked_chars chars
    → IfSome made (λ s. opened_many_of file ppem chars ≡ Ok (opened_in s))
    → IfSome made (λ s. (known : Known) → IsBlockOf known words → mode.hinting ≡ true → block.IsOwn known s.font s.ppem)
    → OnOk r (AreOwn file ppem mode.hinting words)
own_striker_for file ppem chars mode words made striker r is pass opened own =
    let P : Option Setting → Type 0 = λ m. IfSome m (λ s. opened_many_of file ppem chars ≡ Ok (opened_in s)) in
    let Q : Option Setting → Type 0 =
    λ m. IfSome m (λ s. (known : Known) → IsBlockOf known words → mode.hinting ≡ true → block.IsOwn known s.font s.ppem) in
    on_ok r (own_for file ppem chars mode.hinting words striker (subst P is opened) pass (subst Q is own))

-- so is the block
pub own_found : {A : Type 0} (file : List ℕ) (face ppem : ℕ) (hinting : Bool) (block words : List ℕ) (found : Result A Refusal)
    (result : ℕ) → IsFor file face ppem hinting block
    → ((f : List ℕ) (i s : ℕ) (m : Mode) → IsBlock f i s m block → AreWordsOf (face_in f i) s m words)
    → OnOk found (AreOwn (face_in file face) ppem hinting words) → IfErr found (λ r. 10 ≤ result) → result ≤ 1
    → IsOwn file face ppem hinting block
own_found file face ppem hinting block words (Ok a) result for_this are own least small =
    (for_this, λ f i s m o p b h g e k. own (face_in f i) s m o p (are f i s m b) h g e k)
own_found file face ppem hinting block words (Err e) result for_this are own least small = absurd (omega (arith, least, small))

-- what was found is what is due
pub found_due : {A : Type 0} (D : A → Type 0) (W : Refusal → Type 0) (r : Result A Refusal) → IsFoundBy D W (Some r) → IfOk r D
found_due D W (Ok a) h = h
found_due D W (Err e) h = tt

-- ---- the number of a refused call

-- whatever the words are, a glyph was told, or a refusal is named
pub glyph_named : (known packed : Bool) (old new : List ℕ) (old_info new_info : GlyphInfo)
    (found : Result (Option bits.Glyph) Refusal) (result : ℕ) (refused : Refused) → known ≡ true
    → IfOk found (λ made. IsTold packed made old new old_info new_info result)
    → IfErr found (λ r. (result ≡ number_of r) × (refused ≡ refused_of r)) → 1 < result → IsRefusedBy known result refused
glyph_named known packed old new old_info new_info (Ok (Some g)) result refused k put named big =
    absurd (omega (arith, put.0, big))
glyph_named known packed old new old_info new_info (Ok None) result refused k put named big = absurd (omega (arith, put.0, big))
glyph_named known packed old new old_info new_info (Err r) result refused k put named big = rw k (inr (r, named.0, named.1))

-- the same of many
pub glyphs_named : (known : Bool) (old_entries new_entries : List Placed) (old new : List ℕ) (drawn : Drawn)
    (old_refused refused : Refused) (found : Result GlyphBuffers Refusal) (result : ℕ) → known ≡ true
    → IfOk found (λ g. AreTold g old_entries new_entries old new drawn old_refused refused result)
    → IfErr found (λ r. (result ≡ number_of r) × (refused ≡ refused_of r)) → 0 < result → IsRefusedBy known result refused
glyphs_named known old_entries new_entries old new drawn old_refused refused (Ok g) result k told named big =
    absurd (omega (arith, told.done, big))
glyphs_named known old_entries new_entries old new drawn old_refused refused (Err r) result k told named big =
    rw k (inr (r, named.0, named.1))
