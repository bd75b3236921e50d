-- Names that are alike open the same strike: `same_opened`, `same_plan`.
-- Serves `name_of`, `text_for`, `text_of`.
use Rattle.std.proofs.Common.{◌≡◌, ◌∙◌, refl, sym, ap, inl, inr, arith, true≢false, ℕ, zero, suc, nat_le, nat_lt}
use Rattle.std.proofs.Common.{Bool, true, false, not, List, [], ◌∷◌, length, Result, Ok, Err, IsUtf8, IsAscii}
use Rattle.std.specs.Prelude.{IsOk}
use Rattle.std.specs.List.{list_all}
use Rattle.std.proofs.lemmas.Bool.{and_parts, leb-true}
use Rattle.std.proofs.lemmas.Str.{IsUtf8-from_ascii}
use Rattle.fx_fixed.specs.Chain.{◌>>=◌, refuse, wanted}
use Rattle.fx_fixed.specs.Sizes.{ppem_of}
use Rattle.fx_sfnt.specs.Collections.{FontFileView}
use Rattle.fx_sfnt.specs.Tables.{Face}
use Rattle.fx_cmap.specs.declared.mapping.Mapping.{Mapping}
use Rattle.fx_bdf.specs.Printed.{is_printed}
use Rattle.fx_bdf.specs.Properties.{first_bad_after}
use Rattle.fx_bdf.specs.Text.{is_name}
use Rattle.fx_request.specs.declared.refusal.Refusal.{Refusal}
use Rattle.fx_request.specs.declared.request.Mode.{Mode}
use Rattle.fx_request.specs.declared.request.OnRefused.{OnRefused}
use Rattle.fx_request.specs.declared.request.OnRefused.TheVariants.{Stop}
use Rattle.fx_request.specs.declared.refusal.Refusal.TheVariants.{BadSize, BadName}
use Rattle.fx_strike.specs.declared.opened.Opened.{Opened}
use Rattle.fx_strike.specs.Title.{Title}
use Rattle.fx_strike.specs.Strike.{Opening, Plan, checked_chars, checked_properties, checked_text, checked_title, font_with_map}
use Rattle.fx_strike.specs.Strike.{opened_after, opened_of, plan_in, plan_of}
use Rattle.mkstrike_c.specs.Made.{AreNamesAlike, called}
use Rattle.mkstrike_c.specs.Modes.{is_x11, mode_of}

-- ---- a name that is none

printed_ascii : (bs : List ℕ) → list_all is_printed bs ≡ true → IsAscii bs
printed_ascii [] h i = omega arith
printed_ascii (b ∷ bs) h zero =
    omega (arith, leb-true b 126 (and_parts (nat_le 32 b) (nat_le b 126) (and_parts (is_printed b) _ h).0).1)
printed_ascii (b ∷ bs) h (suc i) = printed_ascii bs (and_parts (is_printed b) _ h).1 i

-- what is not UTF-8 is none
not_name : (name : List ℕ) → (IsUtf8 name → ⊥) → is_name name ≡ false
unfolding is_name
not_name name other = by_test (is_name name) refl
  where
    by_test : (t : Bool) → is_name name ≡ t → is_name name ≡ false
    by_test false h = h
    by_test true h =
        let short = (and_parts (nat_le (length name) 255) _ (and_parts (nat_lt 0 (length name)) _ h).1).1 in
        absurd (other (IsUtf8-from_ascii name (printed_ascii name (and_parts (list_all is_printed name) _ short).0)))

pub no_text : (name : List ℕ) → (IsUtf8 name → ⊥) → AreNamesAlike name []
unfolding is_name
no_text name other = inr (not_name name other, refl)

-- the checks of characters and a name, and an opening after checks
abbrev with_name : Bool → Result (Unit {0}) Refusal → Result (Unit {0}) Refusal
with_name b r = r >>= λ _. refuse (not b) BadName >>= λ _. Ok tt

abbrev pub opening : Result ℕ Refusal → Result (Unit {0}) Refusal → Result (Face × Mapping) Refusal → Opening
opening r checks f = r >>= λ size. checks >>= λ _. f >>= λ font. Ok (record { ppem = size; font = font.0; map = font.1 })

-- a name that is none is the cause after the characters
unnamed : (r : Result (Unit {0}) Refusal) (b : Bool) → b ≡ false → with_name b r ≡ (r >>= λ _. Err BadName)
unnamed (Ok u) false h = refl
unnamed (Ok u) true h = absurd (true≢false h)
unnamed (Err e) b h = refl

-- whatever follows
stopped : {Y : Type 0} (r : Result ℕ Refusal) (k : Result (Unit {0}) Refusal) (f : Result (Face × Mapping) Refusal)
    (g h : Opened → Result Y Refusal)
    → (opening r (k >>= λ _. Err BadName) f >>= g) ≡ (opening r (k >>= λ _. Err BadName) f >>= h)
stopped (Ok size) (Ok u) f g h = refl
stopped (Ok size) (Err e) f g h = refl
stopped (Err e) k f g h = refl

none_checked : (k : ℕ) (a chars : List ℕ) → is_name a ≡ false
    → checked_text (called k a) chars ≡ (checked_chars chars >>= λ _. Err BadName)
unfolding checked_text checked_title checked_properties first_bad_after
none_checked k a chars p = unnamed (checked_chars chars) (is_name a) p

none_opened : (file : FontFileView) (ppem k : ℕ) (a chars : List ℕ) → is_name a ≡ false
    → opened_of file ppem (called k a) chars ≡ opened_after ppem (checked_chars chars >>= λ _. Err BadName) file
none_opened file ppem k a chars p =
    ap (λ (k : Result (Unit {0}) Refusal). opened_after ppem k file) (none_checked k a chars p)

pub same_opened : (file : FontFileView) (ppem k : ℕ) (a b chars : List ℕ) → AreNamesAlike a b
    → opened_of file ppem (called k b) chars ≡ opened_of file ppem (called k a) chars
same_opened file ppem k a b chars (inl same) = ap (λ (n : List ℕ). opened_of file ppem (called k n) chars) same
same_opened file ppem k a b chars (inr none) =
    none_opened file ppem k b chars none.1 ∙ sym (none_opened file ppem k a chars none.0)

pub same_plan : (file : FontFileView) (ppem k : ℕ) (a b chars : List ℕ) (mode : Mode) → AreNamesAlike a b
    → plan_of file ppem (called k b) chars mode Stop ≡ plan_of file ppem (called k a) chars mode Stop
unfolding opened_after plan_of
same_plan file ppem k a b chars mode (inl same) = ap (λ (n : List ℕ). plan_of file ppem (called k n) chars mode Stop) same
same_plan file ppem k a b chars mode (inr none) =
    ap (λ (o : Opening). o >>= λ o. plan_in o (called k b) chars mode Stop) (none_opened file ppem k b chars none.1)
    ∙ stopped (wanted (ppem_of ppem) BadSize) (checked_chars chars) (font_with_map file)
    (λ o. plan_in o (called k b) chars mode Stop) (λ o. plan_in o (called k a) chars mode Stop)
    ∙ sym (ap (λ (o : Opening). o >>= λ o. plan_in o (called k a) chars mode Stop) (none_opened file ppem k a chars none.0))

-- ---- a number that says how

-- a title and a mode made of a number's parts are those that it says
pub asked_opened : (file : FontFileView) (ppem k : ℕ) (a chars : List ℕ) (x : Bool) → x ≡ is_x11 k
    → opened_of file ppem (record { name = a; properties = []; x11 = x }) chars ≡ opened_of file ppem (called k a) chars
asked_opened file ppem k a chars x e =
    ap (λ (x : Bool). opened_of file ppem (record { name = a; properties = []; x11 = x }) chars) e

pub asked_plan : (file : FontFileView) (ppem k : ℕ) (a chars : List ℕ) (x : Bool) (m : Mode) → x ≡ is_x11 k → m ≡ mode_of k
    → plan_of file ppem (record { name = a; properties = []; x11 = x }) chars m Stop
    ≡ plan_of file ppem (called k a) chars (mode_of k) Stop
asked_plan file ppem k a chars x m e f =
    ap (λ (x : Bool). plan_of file ppem (record { name = a; properties = []; x11 = x }) chars m Stop) e
    ∙ ap (λ (m : Mode). plan_of file ppem (called k a) chars m Stop) f

-- ---- a strike's opening

-- a font with a strike was opened
pub opened_if_made : (file : FontFileView) (ppem : ℕ) (title : Title) (chars : List ℕ) (mode : Mode)
    (refused : OnRefused) (plan : Plan) → plan_of file ppem title chars mode refused ≡ Ok plan
    → IsOk (opened_of file ppem title chars)
unfolding plan_of
opened_if_made file ppem title chars mode refused plan made = by_opening (opened_of file ppem title chars) made
  where
    by_opening : (o : Opening) → (o >>= λ o. plan_in o title chars mode refused) ≡ Ok plan → IsOk o
    by_opening (Ok o) h = refl
    by_opening (Err e) h = absurd (cc)
