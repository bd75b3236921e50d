-- Characters made one after the other are gathered as far as there is room: `made_at`, `gathered_from`.
-- Serves `size`, `push_within`, `append_within`, `GlyphBuffers`, `gather`, `gathered_of`, `proved_mkstrike_glyphs`.
use Rattle.std.proofs.Common.{◌≡◌, refl, sym, ap, ◌∙◌, subst, arith, true≢false, ℕ, zero, suc, ◌+◌, ◌*◌, ◌<◌, ◌≤◌}
use Rattle.std.proofs.Common.{Bool, true, false}
use Rattle.std.proofs.Common.{List, [], ◌∷◌, ◌++◌, length, take, get_or, length-append, add-zero, zero-add}
use Rattle.std.proofs.Common.{Option, Some, None, Result, Ok, Err, All}
use Rattle.std.specs.Prelude.{nat_le, IfOk, IfErr, if◌then◌else◌, unwrap_or}
use Rattle.std.specs.Option.{option_or}
use Rattle.std.specs.List.{flat_map, count_by, range_with_len}
use Rattle.std.proofs.lemmas.List.{append-nil, length-map, length-take-le, take_all, take_more, drop_all}
use Rattle.std.proofs.lemmas.List.Elements.{All-head, All-tail}
use Rattle.std.proofs.lemmas.List.FromFn.{length-range_with_len}
use Rattle.std.proofs.lemmas.List.Concat.{flat_map-append}
use Rattle.std.proofs.lemmas.List.Sums.{sum_by-cons, sum_by_push}
use Rattle.std.proofs.lemmas.Bool.Decides.{nat_tests}
use Rattle.fx_fixed.specs.Chain.{◌>>=◌}
use Rattle.fx_sfnt.specs.Collections.{FontFileView}
use Rattle.fx_bdf.specs.Glyphs as bits
use Rattle.fx_request.specs.declared.refusal.Refusal.{Refusal}
use Rattle.fx_request.specs.declared.request.Mode.{Mode}
use Rattle.fx_request.specs.declared.request.OnRefused.TheVariants.{Stop}
use Rattle.fx_request.specs.declared.refusal.Refusal.TheVariants.{WriteFailed, ReadFailed, BadHex, InputTooLarge}
use Rattle.fx_request.specs.declared.refusal.Refusal.TheVariants.{OutOfMemory}
use Rattle.fx_strike.specs.Faults.{Fails}
use Rattle.fx_strike.specs.Strike.{Sketch, Setting, Opening, bounded_for, one_among, opened_many_of, setting_for}
use Rattle.fx_strike.specs.Strike.{setting_in}
use Rattle.fx_strike.specs.Headline.{IsOneOf, Late}
use Rattle.mkstrike_c.specs.declared.gathered.Drawn.{Drawn}
use Rattle.mkstrike_c.specs.declared.gathered.Placed.{Placed}
use Rattle.mkstrike_c.specs.declared.gathered.Wanted.{Wanted}
use Rattle.mkstrike_c.specs.declared.gathered.GlyphBuffers.{GlyphBuffers}
use Rattle.mkstrike_c.specs.declared.refused.Refused.{Refused}
use Rattle.mkstrike_c.specs.Refused.{IsReason}
use Rattle.mkstrike_c.specs.Pixels.{row_byte, row_bytes, size_of, stride_of}
use Rattle.mkstrike_c.specs.Drawn.{AreDrawn, AreOutcomesOf, HasFront, IsOutcomeOf, Outcome, all_pixels, drawn_of, entries_from}
use Rattle.mkstrike_c.specs.Drawn.{entry_of, first_refused, is_made, is_missing, is_refused, pixels_of, refused_in}
use Rattle.mkstrike_c.specs.inner.Gathering.{AreGathered, AreTold, Holds, IsGathered, is_memory, with_one}

-- ---- lists with room

-- what fits of a list, then more
take_then : {A : Type 0} (room : ℕ) (xs ys : List A) → take room (take room xs ++ ys) ≡ take room (xs ++ ys)
take_then zero xs ys = refl
take_then (suc n) [] ys = refl
take_then (suc n) (x ∷ xs) ys = ap (λ (zs : List _). x ∷ zs) (take_then n xs ys)

-- ---- the pixels of a glyph

rows_long : (packed : Bool) (w : ℕ) (rows : List (List Bool)) → All (λ row. length row ≡ w) rows
    → length (flat_map (row_bytes packed) rows) ≡ length rows * stride_of packed w
rows_long packed w [] h = omega arith
rows_long packed w (row ∷ rows) h =
    let P : List Bool → Type 0 = λ (r : List Bool). length r ≡ w in
    let one : length (row_bytes packed row) ≡ stride_of packed w =
    length-map (range_with_len 0 (stride_of packed (length row))) (row_byte packed row)
    ∙ length-range_with_len 0 (stride_of packed (length row))
    ∙ ap (stride_of packed) (All-head P row rows h) in
    omega (
      arith,
      length-append (row_bytes packed row) (flat_map (row_bytes packed) rows),
      one,
      rows_long packed w rows (All-tail P row rows h),
    )

pub pixels_long : (packed : Bool) (g : bits.Glyph) → bits.IsFormed g
    → length (flat_map (row_bytes packed) g.rows) ≡ size_of packed g
pixels_long packed g h = rows_long packed g.box.width g.rows h.width ∙ ap (λ (n : ℕ). n * stride_of packed g.box.width) h.height

-- ---- one character more

entries_push : (packed : Bool) (offset : ℕ) (outcomes : List Outcome) (o : Outcome)
    → entries_from packed offset (outcomes ++ o ∷ []) ≡
    entries_from packed offset outcomes ++ entry_of packed (offset + length (all_pixels packed outcomes)) o ∷ []
entries_push packed offset [] o = ap (λ (n : ℕ). entry_of packed n o ∷ []) (sym (add-zero offset))
entries_push packed offset (x ∷ xs) o =
    let here = length (pixels_of packed x) in
    let there = length (all_pixels packed xs) in
    let sum : offset + here + there ≡ offset + length (all_pixels packed (x ∷ xs)) =
    omega (arith, length-append (pixels_of packed x) (all_pixels packed xs)) in
    ap (λ (es : List Placed). entry_of packed offset x ∷ es) (entries_push packed (offset + here) xs o
    ∙ ap (λ (n : ℕ). entries_from packed (offset + here) xs ++ entry_of packed n o ∷ []) sum)

pixels_push : (packed : Bool) (outcomes : List Outcome) (o : Outcome)
    → all_pixels packed (outcomes ++ o ∷ []) ≡ all_pixels packed outcomes ++ pixels_of packed o
pixels_push packed outcomes o =
    flat_map-append (pixels_of packed) outcomes (o ∷ [])
    ∙ ap (λ (bs : List ℕ). all_pixels packed outcomes ++ bs) (append-nil (pixels_of packed o))

count_push : (p : Outcome → Bool) (outcomes : List Outcome) (o : Outcome)
    → count_by p (outcomes ++ o ∷ []) ≡ count_by p outcomes + (if p o then 1 else 0)
count_push p outcomes o = sum_by_push (λ x. if p x then 1 else 0) outcomes o

drawn_push : (packed : Bool) (outcomes : List Outcome) (o : Outcome)
    → drawn_of packed (outcomes ++ o ∷ []) ≡ with_one packed (drawn_of packed outcomes) o
drawn_push packed outcomes o =
    let bytes : length (all_pixels packed (outcomes ++ o ∷ []))
    ≡ length (all_pixels packed outcomes) + length (pixels_of packed o) =
    ap length (pixels_push packed outcomes o) ∙ length-append (all_pixels packed outcomes) (pixels_of packed o) in
    λ i. record {
      bytes = bytes i;
      glyphs = count_push is_made outcomes o i;
      missing = count_push is_missing outcomes o i;
      refused = count_push is_refused outcomes o i;
    }

-- each character was counted once
one_each : (o : Outcome) → (if is_made o then 1 else 0) + (if is_missing o then 1 else 0) + (if is_refused o then 1 else 0) ≡ 1
one_each (Ok (Some g)) = refl
one_each (Ok None) = refl
one_each (Err r) = refl

all_counted : (outcomes : List Outcome)
    → count_by is_made outcomes + count_by is_missing outcomes + count_by is_refused outcomes ≡ length outcomes
all_counted [] = refl
all_counted (o ∷ os) =
    let made = sum_by-cons (λ x. if is_made x then 1 else 0) o os in
    let missing = sum_by-cons (λ x. if is_missing x then 1 else 0) o os in
    let refused = sum_by-cons (λ x. if is_refused x then 1 else 0) o os in
    omega (arith, made, missing, refused, one_each o, all_counted os)

-- the first that was refused
first_push : (i : ℕ) (cs : List ℕ) (os : List Outcome) (c : ℕ) (o : Outcome) → length cs ≡ length os
    → first_refused i (cs ++ c ∷ []) (os ++ o ∷ []) ≡ option_or (first_refused i cs os) (refused_in (i + length os) c o)
first_push i [] [] c (Ok made) h = refl
first_push i [] [] c (Err r) h = ap (λ (n : ℕ). refused_in n c (Err r)) (sym (add-zero i))
first_push i (x ∷ xs) (Ok made ∷ os) c o h =
    let sum : i + 1 + length os ≡ i + length (Ok made ∷ os) = omega arith in
    first_push (i + 1) xs os c o (omega (arith, h))
    ∙ ap (λ (n : ℕ). option_or (first_refused (i + 1) xs os) (refused_in n c o)) sum
first_push i (x ∷ xs) (Err r ∷ os) c o h = refl
first_push i [] (p ∷ os) c o h = absurd (omega (arith, h))
first_push i (x ∷ xs) [] c o h = absurd (omega (arith, h))

-- what was added is what holds then
pub holds_push : (wanted : Wanted) (codes : List ℕ) (outcomes : List Outcome) (code : ℕ) (o : Outcome) (old new : GlyphBuffers)
    → length codes ≡ length outcomes → Holds wanted codes outcomes old → new.wanted ≡ old.wanted
    → new.entries.items ≡ take old.wanted.entries (old.entries.items ++ entry_of old.wanted.packed old.drawn.bytes o ∷ [])
    → new.pixels.items ≡ take old.wanted.pixels (old.pixels.items ++ pixels_of old.wanted.packed o)
    → new.drawn ≡ with_one old.wanted.packed old.drawn o
    → new.first ≡ option_or old.first (refused_in (old.drawn.glyphs + old.drawn.missing + old.drawn.refused) code o)
    → Holds wanted (codes ++ code ∷ []) (outcomes ++ o ∷ []) new
holds_push wanted codes outcomes code o old new long h same entries pixels drawn first =
    let w = wanted.packed in
    record {
      wanted_is = same ∙ h.wanted_is;
      entries =
          entries
          ∙ (λ i. take (h.wanted_is i).entries
          (h.entries i ++ entry_of (h.wanted_is i).packed (h.drawn i).bytes o ∷ []))
          ∙ take_then wanted.entries (entries_from w 0 outcomes) (entry_of w (length (all_pixels w outcomes)) o ∷ [])
          ∙ ap (take wanted.entries) (ap (λ (n : ℕ). entries_from w 0 outcomes ++ entry_of w n o ∷ [])
          (sym (zero-add (length (all_pixels w outcomes)))) ∙ sym (entries_push w 0 outcomes o));
      pixels =
          pixels
          ∙ (λ i. take (h.wanted_is i).pixels (h.pixels i ++ pixels_of (h.wanted_is i).packed o))
          ∙ take_then wanted.pixels (all_pixels w outcomes) (pixels_of w o)
          ∙ ap (take wanted.pixels) (sym (pixels_push w outcomes o));
      drawn =
          drawn ∙ (λ i. with_one (h.wanted_is i).packed (h.drawn i) o) ∙ sym (drawn_push w outcomes o);
      first =
          first
          ∙ (λ i. option_or (h.first i) (refused_in ((h.drawn i).glyphs + (h.drawn i).missing + (h.drawn i).refused) code o))
          ∙ ap (λ (n : ℕ). option_or (first_refused 0 codes outcomes) (refused_in n code o))
          (all_counted outcomes ∙ sym (zero-add (length outcomes)))
          ∙ sym (first_push 0 codes outcomes code o long);
    }

-- ---- many characters

outcomes_push : (setting : Setting) (cs : List ℕ) (os : List Outcome) (c : ℕ) (o : Outcome)
    → AreOutcomesOf setting cs os → IsOutcomeOf (one_among setting c) o → AreOutcomesOf setting (cs ++ c ∷ []) (os ++ o ∷ [])
outcomes_push setting [] [] c o h k = (k, tt)
outcomes_push setting (x ∷ xs) (p ∷ ps) c o h k = (h.0, outcomes_push setting xs ps c o h.1 k)
outcomes_push setting [] (p ∷ ps) c o h k = absurd h
outcomes_push setting (x ∷ xs) [] c o h k = absurd h

outcomes_long : (setting : Setting) (cs : List ℕ) (os : List Outcome) → AreOutcomesOf setting cs os → length cs ≡ length os
outcomes_long setting [] [] h = refl
outcomes_long setting (x ∷ xs) (p ∷ ps) h = ap suc (outcomes_long setting xs ps h.1)
outcomes_long setting [] (p ∷ ps) h = absurd h
outcomes_long setting (x ∷ xs) [] h = absurd h

-- a refusal other than of memory is the one that is due
cause_is : (due : Result (Option Sketch) Refusal) (d : Refusal) → Fails d due → is_memory (Err d) ≡ false → due ≡ Err d
cause_is due OutOfMemory f n = absurd (true≢false n)
cause_is due (WriteFailed k) f n = absurd f
cause_is due ReadFailed f n = absurd f
cause_is due BadHex f n = absurd f
cause_is due InputTooLarge f n = absurd f
cause_is due d f n = f

outcome_is : (due : Result (Option Sketch) Refusal) (o : Outcome) → IfOk o (IsOneOf due) → IfErr o (λ d. Fails d due)
    → is_memory o ≡ false → IsOutcomeOf due o
outcome_is due (Ok made) h f n = h
outcome_is due (Err d) h f n = cause_is due d f n

-- none is made yet
pub none_made : (setting : Setting) (g : GlyphBuffers) → Holds g.wanted [] [] g → AreGathered setting [] g.wanted g
none_made setting g h = record { outcomes = []; are = tt; holds = h }

-- the character there was made and added
pub made_at : (setting : Setting) (chars : List ℕ) (i : ℕ) (wanted : Wanted) (old new : GlyphBuffers) (o : Outcome)
    → i < length chars → AreGathered setting (take i chars) wanted old
    → IfOk o (IsOneOf (one_among setting (get_or chars i 0)))
    → IfErr o (λ d. Fails d (one_among setting (get_or chars i 0))) → is_memory o ≡ false
    → ((wanted : Wanted) (codes : List ℕ) (outcomes : List Outcome) → length codes ≡ length outcomes
    → Holds wanted codes outcomes old → Holds wanted (codes ++ get_or chars i 0 ∷ []) (outcomes ++ o ∷ []) new)
    → AreGathered setting (take (i + 1) chars) wanted new
made_at setting chars i wanted old new o l so_far is fails passed adds =
    let c = get_or chars i 0 in
    let P : List ℕ → Type 0 = λ codes. AreGathered setting codes wanted new in
    let long = outcomes_long setting (take i chars) so_far.outcomes so_far.are in
    subst P (sym (take_more chars i 0 l)) (record {
      outcomes = so_far.outcomes ++ o ∷ [];
      are = outcomes_push setting (take i chars) so_far.outcomes c o so_far.are
          (outcome_is (one_among setting c) o is fails passed);
      holds = adds wanted (take i chars) so_far.outcomes long so_far.holds;
    })

-- ---- from a file

pub opened_late : (file : FontFileView) (ppem : ℕ) (chars : List ℕ) (mode : Mode) (s : Setting)
    → setting_for file ppem chars mode ≡ Ok s → Late (opened_many_of file ppem chars)
unfolding setting_for
opened_late file ppem chars mode s h = by_opened (opened_many_of file ppem chars) h
  where
    by_opened : (o : Opening) → (o >>= λ o. setting_in o mode) ≡ Ok s → Late o
    by_opened (Ok o) h = refl
    by_opened (Err e) h = absurd (cc)

-- ---- why there are none

-- the reason of a result
abbrev pub HasReason : FontFileView → ℕ → List ℕ → Mode → Result GlyphBuffers Refusal → Type 0
HasReason file ppem chars mode r =
    IfErr r (IsReason (opened_many_of file ppem chars) (setting_for file ppem chars mode))

-- a check did not pass, the font was not opened, or its programs halted
pub refused_unset : (file : FontFileView) (ppem : ℕ) (chars : List ℕ) (mode : Mode) (r : Result GlyphBuffers Refusal)
    (e d : Refusal) → r ≡ Err e → e ≡ d → Fails d (setting_for file ppem chars mode)
    → (d ≡ OutOfMemory → Late (opened_many_of file ppem chars)) → HasReason file ppem chars mode r
refused_unset file ppem chars mode r e d p q f late =
    let P : Result GlyphBuffers Refusal → Type 0 = λ r. HasReason file ppem chars mode r in
    subst P (sym (p ∙ ap (λ (d : Refusal). Err d) q)) (f, late)

-- memory was refused then
pub refused_memory : (file : FontFileView) (ppem : ℕ) (chars : List ℕ) (mode : Mode) (s : Setting) (r : Result GlyphBuffers Refusal)
    (e : Refusal) → r ≡ Err e → e ≡ OutOfMemory → setting_for file ppem chars mode ≡ Ok s → HasReason file ppem chars mode r
refused_memory file ppem chars mode s r e p q k =
    refused_unset file ppem chars mode r e OutOfMemory p q tt (λ m. opened_late file ppem chars mode s k)

pub refused_later : (file : FontFileView) (ppem : ℕ) (chars : List ℕ) (mode : Mode) (s : Setting) (r : Result GlyphBuffers Refusal)
    → setting_for file ppem chars mode ≡ Ok s → IfErr r (λ d. d ≡ OutOfMemory) → HasReason file ppem chars mode r
refused_later file ppem chars mode s (Ok g) k f = tt
refused_later file ppem chars mode s (Err d) k f = refused_memory file ppem chars mode s (Err d) d refl f k

-- all are there
pub gathered_from : (due : Result Setting Refusal) (codes : List ℕ) (s : Setting) (wanted : Wanted)
    (r : Result GlyphBuffers Refusal) → due ≡ Ok s → IfOk r (AreGathered (bounded_for s Stop codes) codes wanted)
    → IfOk r (IsGathered wanted due codes)
gathered_from due codes s wanted (Ok g) k are = record { setting = s; is = k; are = are }
gathered_from due codes s wanted (Err e) k are = tt

-- ---- what is told

-- what was copied of a list as far as there is room is what fits of the whole
front_of : {A : Type 0} (whole copied old new : List A) → copied ≡ take (length old) whole → length new ≡ length old
    → HasFront copied old new → HasFront whole old new
front_of whole copied old new is same h = by_length (nat_le (length whole) (length old)) refl
  where
    by_length : (b : Bool) → nat_le (length whole) (length old) ≡ b → HasFront whole old new
    by_length true e =
        let fits : length whole ≤ length old = grind (arith, nat_tests) in
        let P : List _ → Type 0 = λ c. HasFront c old new in
        subst P (is ∙ take_all (length old) whole fits) h
    by_length false e =
        let long : length old ≤ length whole = grind (arith, nat_tests) in
        let full : length copied ≡ length old = ap length is ∙ length-take-le (length old) whole long in
        record {
          front =
              take_all (length whole) new (omega (arith, same, long))
              ∙ sym (take_all (length copied) new (omega (arith, same, full)))
              ∙ h.front ∙ take_all (length old) copied (omega (arith, full)) ∙ is;
          rest =
              drop_all (length whole) new (omega (arith, same, long))
              ∙ sym (drop_all (length whole) old long);
        }

pub all_drawn : (wanted : Wanted) (due : Result Setting Refusal) (codes : List ℕ) (found : Result GlyphBuffers Refusal)
    (old_entries new_entries : List Placed) (old new : List ℕ) (drawn : Drawn) (old_refused new_refused : Refused) (result : ℕ)
    → wanted.entries ≡ length old_entries → wanted.pixels ≡ length old → length new_entries ≡ length old_entries
    → length new ≡ length old → IfOk found (IsGathered wanted due codes)
    → IfOk found (λ g. AreTold g old_entries new_entries old new drawn old_refused new_refused result)
    → IfErr found (λ r. 10 ≤ result) → result ≡ 0
    → AreDrawn wanted.packed due codes old_entries new_entries old new drawn old_refused new_refused
all_drawn wanted due codes (Ok g) old_entries new_entries old new drawn old_refused new_refused result p q same_entries same h told
    least done =
    let o = h.are.outcomes in
    record {
      setting = h.setting;
      outcomes = o;
      is = h.is;
      are = h.are.are;
      entries = front_of (entries_from wanted.packed 0 o) g.entries.items old_entries new_entries
          (h.are.holds.entries ∙ ap (λ (n : ℕ). take n (entries_from wanted.packed 0 o)) p) same_entries told.entries;
      pixels = front_of (all_pixels wanted.packed o) g.pixels.items old new
          (h.are.holds.pixels ∙ ap (λ (n : ℕ). take n (all_pixels wanted.packed o)) q) same told.pixels;
      drawn_is = told.drawn_is ∙ h.are.holds.drawn;
      refused_is = told.refused_is ∙ ap (λ (f : Option Refused). unwrap_or f old_refused) h.are.holds.first;
    }
all_drawn wanted due codes (Err r) old_entries new_entries old new drawn old_refused new_refused result p q same_entries same h told
    least done =
    absurd (omega (arith, least, done))
