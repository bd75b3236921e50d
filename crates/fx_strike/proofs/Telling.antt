-- The notices heard character by character are those of the strike, up to the refusal that stops it: `told_strike`.
-- Serves `see_fate`, `see`, `first_pass`, `write_strike` and `make_strike_in`.
use Rattle.std.proofs.Common.{◌≡◌, refl, sym, ap, ◌∙◌, subst, ℕ, ◌+◌, ◌<◌, List, [], ◌∷◌, ◌++◌, length, arith}
use Rattle.std.proofs.Common.{take, drop, Result, Ok, Err}
use Rattle.std.specs.Prelude.{IsErrAnd}
use Rattle.std.specs.List.{flat_map}
use Rattle.std.proofs.Math.Seq.{take-append_seam, take-length}
use Rattle.std.proofs.lemmas.List.{take_more, take-append-drop, append-nil}
use Rattle.std.proofs.lemmas.Grind.{flat_map-append}
use Rattle.fx_fixed.specs.Chain.{◌>>=◌, map_chain}
use Rattle.fx_request.specs.declared.refusal.Refusal.TheVariants.{Halted, WriteFailed, ReadFailed, BadHex, InputTooLarge, OutOfMemory}
use Rattle.fx_request.specs.declared.request.OnRefused.TheVariants.{Stop, LeaveOut, Unhinted}
use Rattle.fx_request.specs.Notices.{AreTold, HearsAll, Told}
use Rattle.fx_strike.specs.Headline.{notices_of}
use Rattle.fx_strike.specs.Strike.{Sketch, Setting, Plan, Fate, notices_in, fate_by, glyph_fate_of, fates_of, glyph_sketch_of}
use Rattle.fx_strike.specs.Strike.{machineless, plan_within, Notice, Refusal, OnRefused, rising, Fails, Title}
use Rattle.fx_strike.specs.inner.Surveying.{HearsBy, notices_by, notices_about}
use Rattle.fx_strike.specs.inner.Mapping.{fates_in, mapped_fate_of, mapped_in, mapped_of, Mapped}
use Rattle.fx_strike.proofs.OnePart.{chain_parts}
use Rattle.fx_strike.proofs.Mapping.{fates_are}

-- ---- listeners

-- it hears more
pub hears_more : {L : Type 0} (Hears : L → Notice → L → Type 0) (ns : List Notice) (was now next : L) (ms : List Notice)
    → HearsAll Hears was ns now → HearsAll Hears now ms next → HearsAll Hears was (ns ++ ms) next
hears_more {L} Hears [] was now next ms h g =
    let P : L → Type 0 = λ x. HearsAll Hears x ms next in subst P h g
hears_more Hears (n ∷ ns) was now next ms h g = (h.0, h.1, hears_more Hears ns h.0 now next ms h.2 g)

-- nothing, however a step ends
pub hears_none : {L : Type 0} (Hears : L → Notice → L → Type 0) (was : L) (r : Result (Unit {0}) Refusal)
    → HearsBy Hears was was [] r
hears_none Hears was (Ok u) = refl
hears_none Hears was (Err d) = refl

-- ---- characters

-- a refusal of the strike tells nothing, whatever its other characters
silent : (code : ℕ) (second first : Result Sketch Refusal) → notices_by (fate_by Stop code second first) ≡ []
silent code second (Ok s) = refl
silent code second (Err cause) = refl

-- only a request that stops is refused for a character
stops : (refused : OnRefused) (code : ℕ) (second first : Result Sketch Refusal) (cause : Refusal)
    → fate_by refused code second first ≡ Err cause → refused ≡ Stop
stops Stop code second first cause h = refl
stops refused code second (Ok sketch) cause h = absurd (cc)
stops LeaveOut code second (Err d) cause h = absurd (cc)
stops Unhinted code second (Err (Halted halt)) cause h = absurd (cc)
stops Unhinted code second (Err d) cause h = absurd (cc)

stops_of : (setting : Setting) (refused : OnRefused) (m : Mapped) (cause : Refusal)
    → mapped_fate_of setting refused m ≡ Err cause → refused ≡ Stop
unfolding glyph_fate_of
stops_of setting refused m cause h =
    stops refused m.code (glyph_sketch_of (machineless setting) m.code m.glyph) (glyph_sketch_of setting m.code m.glyph) cause h

silent_of : (setting : Setting) (m : Mapped) → notices_by (mapped_fate_of setting Stop m) ≡ []
unfolding glyph_fate_of
silent_of setting m =
    silent m.code (glyph_sketch_of (machineless setting) m.code m.glyph) (glyph_sketch_of setting m.code m.glyph)

-- a chain is refused for one of its steps
chain_failed : {A B : Type 0} (f : A → Result B Refusal) (xs : List A) (d : Refusal) → map_chain f xs ≡ Err d
    → (x : A) × (f x ≡ Err d)
chain_failed f [] d h = absurd (cc)
chain_failed {A} {B} f (x ∷ xs) d h = by (f x) (map_chain f xs) refl refl h (λ k. chain_failed f xs d k)
  where
    by : (r : Result B Refusal) (s : Result (List B) Refusal) → f x ≡ r → map_chain f xs ≡ s
        → (r >>= λ y. s >>= λ ys. Ok (y ∷ ys)) ≡ Err d → (map_chain f xs ≡ Err d → (z : A) × (f z ≡ Err d))
        → (z : A) × (f z ≡ Err d)
    by (Ok y) (Ok ys) e g k rest = absurd (cc (k))
    by (Ok y) (Err c) e g k rest = rest (g ∙ k)
    by (Err c) s e g k rest = let same : c ≡ d = cc (k) in (x, e ∙ ap Err same)

none_told : (setting : Setting) (mapped : List Mapped) → notices_about setting Stop mapped ≡ []
none_told setting [] = refl
none_told setting (m ∷ ms) = rw (silent_of setting m) (none_told setting ms)

-- if the strike is refused there is nothing to tell
quiet : (setting : Setting) (refused : OnRefused) (mapped others : List Mapped) (d : Refusal)
    → fates_in setting refused mapped ≡ Err d → notices_about setting refused others ≡ []
quiet setting refused mapped others d h = grind (arith, h, chain_failed, stops_of, none_told)

-- ---- the strike

notices_chain : {A : Type 0} (f : A → Result Fate Refusal) (xs : List A) (fates : List Fate) → map_chain f xs ≡ Ok fates
    → flat_map notices_in fates ≡ flat_map (λ x. notices_by (f x)) xs
notices_chain f [] fates h = let none : fates ≡ [] = cc in rw none refl
notices_chain f (x ∷ xs) fates h =
    let p = chain_parts f x xs fates h in
    rw (p.4, p.2) (ap (λ (ns : List Notice). notices_in p.0 ++ ns) (notices_chain f xs p.1 p.3))

-- the notices of a strike are those about its characters
notices_are : (setting : Setting) (title : Title) (chars : List ℕ) (refused : OnRefused)
    → notices_of (plan_within setting title chars refused) ≡ notices_about setting refused (mapped_of setting.map (rising chars))
unfolding plan_within
notices_are setting title chars refused = by_fates (fates_of setting refused (rising chars)) refl
  where
    by_fates : (r : Result (List Fate) Refusal) → fates_of setting refused (rising chars) ≡ r
        → notices_of (plan_within setting title chars refused)
        ≡ notices_about setting refused (mapped_of setting.map (rising chars))
    by_fates (Ok fates) h =
        rw h (notices_chain (mapped_fate_of setting refused) _ fates (fates_are setting refused (rising chars) ∙ h))
    by_fates (Err d) h = rw h (sym (quiet setting refused _ _ d (fates_are setting refused (rising chars) ∙ h)))

-- ---- a part of the characters

notices_append : (setting : Setting) (refused : OnRefused) (xs ys : List Mapped)
    → notices_about setting refused (xs ++ ys) ≡ notices_about setting refused xs ++ notices_about setting refused ys
notices_append setting refused xs ys = flat_map-append (λ m. notices_by (mapped_fate_of setting refused m)) xs ys

-- what was told before a refusal
told_until : (Y : Type 0) (setting : Setting) (refused : OnRefused) (mapped : List Mapped) (i : ℕ) (d : Refusal)
    → Fails d (fates_in setting refused mapped)
    → AreTold {Y = Y} (notices_about setting refused mapped) (notices_about setting refused (take i mapped)) (Err d)
told_until Y setting refused mapped i OutOfMemory f =
    let all : notices_about setting refused mapped
    ≡ notices_about setting refused (take i mapped) ++ notices_about setting refused (drop i mapped) =
    ap (notices_about setting refused) (sym (take-append-drop i mapped))
    ∙ notices_append setting refused (take i mapped) (drop i mapped)
    in (
      length (notices_about setting refused (take i mapped)),
      sym (ap (take (length (notices_about setting refused (take i mapped)))) all ∙ take-append_seam _ _),
    )
told_until Y setting refused mapped i (WriteFailed n) f = absurd f
told_until Y setting refused mapped i ReadFailed f = absurd f
told_until Y setting refused mapped i BadHex f = absurd f
told_until Y setting refused mapped i InputTooLarge f = absurd f
told_until Y setting refused mapped i d f =
    quiet setting refused mapped (take i mapped) d f ∙ sym (quiet setting refused mapped mapped d f)

-- one character more
told_more : (setting : Setting) (refused : OnRefused) (mapped : List Mapped) (i : ℕ) → i < length mapped
    → notices_about setting refused (take (i + 1) mapped)
    ≡ notices_about setting refused (take i mapped) ++ notices_by (mapped_fate_of setting refused (mapped_in mapped i))
told_more setting refused mapped i l =
    ap (notices_about setting refused) (take_more mapped i (record { code = 0; glyph = 0 }) l)
    ∙ notices_append setting refused (take i mapped) (mapped_in mapped i ∷ [])
    ∙ ap (λ (ns : List Notice). notices_about setting refused (take i mapped) ++ ns)
    (append-nil (notices_by (mapped_fate_of setting refused (mapped_in mapped i))))

-- ---- a call

-- nothing was told before a refusal
pub untold : {L Y : Type 0} {Hears : L → Notice → L → Type 0} {was now : L} (strike : Result Plan Refusal) (d : Refusal) → now ≡ was
    → Fails d strike → Told {L = L} {Y = Y} Hears was now (notices_of strike) (Err d)
untold {L} {Y} strike d e f = grind (arith, strike, d, e, f)

-- nothing was told before memory ran out
pub told_none : {L Y : Type 0} {Hears : L → Notice → L → Type 0} {was : L} {all : List Notice} (r : Result Y Refusal)
    → IsErrAnd r (λ e. e ≡ OutOfMemory) → Told Hears was was all r
told_none (Ok y) h = absurd h
told_none {L} {Y} {Hears} {was} {all} (Err e) h = grind (arith, h)

-- the same of another value, or another's refusal
pub told_on : {L X Y : Type 0} {Hears : L → Notice → L → Type 0} {was now : L} {all : List Notice} {d : Refusal}
    → Told {Y = X} Hears was now all (Err d) → Told {Y = Y} Hears was now all (Err d)
told_on {L} {X} {Y} {Hears} {was} {now} {all} {d} t = grind (arith, t)

-- all was told, whatever comes after
pub told_all : {L X Y : Type 0} {Hears : L → Notice → L → Type 0} {was now : L} {all : List Notice} {x : X} (r : Result Y Refusal)
    → Told Hears was now all (Ok x) → Told Hears was now all r
told_all {L} {X} {Y} {Hears} {was} {now} {all} {x} r t = record { told = t.told; heard = t.heard; are = by_result r }
  where
    by_result : (r : Result Y Refusal) → AreTold all t.told r
    by_result (Ok y) = t.are
    by_result (Err OutOfMemory) = (
      length all,
      t.are ∙ sym (take-length all),
    )
    by_result (Err d) = t.are

-- ---- the first pass

-- the characters so far, and nothing of the one that was refused
pub told_so_far : {L Y : Type 0} {Hears : L → Notice → L → Type 0} {was now next : L} (setting : Setting) (refused : OnRefused)
    (mapped : List Mapped) (i : ℕ) (d : Refusal) → HearsAll Hears was (notices_about setting refused (take i mapped)) now
    → next ≡ now → Fails d (fates_in setting refused mapped)
    → Told {L = L} {Y = Y} Hears was next (notices_about setting refused mapped) (Err d)
told_so_far {L} {Y} {Hears} {was} setting refused mapped i d h e f = grind (arith, refused, mapped, i, d, h, e, f, told_until)

-- one character more
pub heard_at : {L : Type 0} (Hears : L → Notice → L → Type 0) (was now next : L) (setting : Setting) (refused : OnRefused)
    (mapped : List Mapped) (i : ℕ) → i < length mapped
    → HearsAll Hears was (notices_about setting refused (take i mapped)) now
    → HearsAll Hears now (notices_by (mapped_fate_of setting refused (mapped_in mapped i))) next
    → HearsAll Hears was (notices_about setting refused (take (i + 1) mapped)) next
heard_at {L} Hears was now next setting refused mapped i l h g = grind (arith, i, l, h, g, told_more, hears_more)

-- of the strike
pub told_strike : {L Y : Type 0} {Hears : L → Notice → L → Type 0} {was now : L} (setting : Setting) (title : Title)
    (chars : List ℕ) (refused : OnRefused) {mapped : List Mapped} {r : Result Y Refusal}
    → mapped ≡ mapped_of setting.map (rising chars)
    → Told Hears was now (notices_about setting refused mapped) r
    → Told Hears was now (notices_of (plan_within setting title chars refused)) r
told_strike {L} {Y} {Hears} {was} {now} setting title chars refused {mapped} {r} c t =
    grind (arith, setting, title, chars, refused, c, t, notices_are)
