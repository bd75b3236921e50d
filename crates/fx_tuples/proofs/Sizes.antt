-- A header has a coordinate for each axis, as `header_sizes` says.
-- For `next_tuple`.
use Rattle.std.proofs.Common.{◌≡◌, ℕ, ◌+◌, ◌*◌, ◌%◌, ◌<◌, ◌≤◌, Bool, true, false, List, length, take, drop, Option, Some, None}
use Rattle.std.proofs.Common.{refl}
use Rattle.std.proofs.Common.{sym, ap, ◌∙◌, subst, arith, cond}
use Rattle.std.specs.Prelude.{option_and_then, nat_lt, if◌then◌else◌}
use Rattle.std.proofs.lemmas.Option.{same_Some, none-some}
use Rattle.std.proofs.lemmas.List.{length-take-le, length-drop}
use Rattle.std.proofs.lemmas.Bool.{lt-ltb}
use Rattle.fx_sfnt.specs.Fields.{field}
use Rattle.fx_glyf.specs.Words.{has}
use Rattle.fx_tuples.specs.Headers.{HeaderView, HasRegion, own_size, between_size, peaks_of, with_peaks, header_of}

pub not_less : (a b : ℕ) → nat_lt a b ≡ false → b ≤ a
not_less a b e = let f : a < b → ⊥ = λ h. absurd (cc (sym (lt-ltb a b h) ∙ e)) in omega (arith, f)

-- a part of bytes that hold it has its size
sized : (bytes : List ℕ) (at width : ℕ) → at + width ≤ length bytes → width ≤ length (take width (drop at bytes))
sized bytes at width h =
    let room : width ≤ length (drop at bytes) = omega (arith, h, length-drop at bytes) in
    omega (arith, length-take-le width (drop at bytes) room)

-- what a header that was read tells of the tests
picked : (s t : Bool) (o : Option (List ℕ)) (f : List ℕ → HeaderView) (h : HeaderView)
    → Some h ≡ (if s then None else (if t then None else option_and_then (λ p. Some (f p)) o))
    → (t ≡ false) × ((p : List ℕ) × (o ≡ Some p) × (h ≡ f p))
picked true t o f h e = absurd (none-some _ (sym e))
picked false true o f h e = absurd (none-some _ (sym e))
picked false false None f h e = absurd (none-some _ (sym e))
picked false false (Some p) f h e = (refl, (p, refl, same_Some _ _ e))

peaks_sized : (b t : Bool) (own far peaks : List ℕ) (width : ℕ) → (b ≡ true → width ≤ length own) → (t ≡ false
    → width ≤ length far)
    → (if b then Some own else (if t then None else Some far)) ≡ Some peaks → width ≤ length peaks
peaks_sized true t own far peaks width a f e = let P : List ℕ
    → Type 0 = λ l. width ≤ length l in subst P (same_Some _ _ e) (a refl)
peaks_sized false true own far peaks width a f e = absurd (none-some _ e)
peaks_sized false false own far peaks width a f e = let P : List ℕ
    → Type 0 = λ l. width ≤ length l in subst P (same_Some _ _ e) (f refl)

when : (b : Bool) (x : ℕ) → b ≡ true → cond b x 0 ≡ x
when b x e = ap (λ (t : Bool). cond t x 0) e

peaks_wide : (shared bytes peaks : List ℕ) (width index : ℕ) → 4 + own_size width index ≤ length bytes
    → peaks_of shared width index bytes ≡ Some peaks → width ≤ length peaks
unfolding peaks_of
peaks_wide shared bytes peaks width index h e =
    peaks_sized (has index 0x8000) (nat_lt (length shared) (width * (index % 4096) + width)) (take width (drop 4 bytes))
    (take width (drop (width * (index % 4096)) shared)) peaks width
    (λ b. sized bytes 4 width (omega (arith, h, when (has index 0x8000) width b)))
    (λ t. sized shared (width * (index % 4096)) width (not_less _ _ t)) e

pub header_sizes : (shared bytes : List ℕ) (width : ℕ) (h : HeaderView) → Some h ≡ header_of shared width bytes → HasRegion width h
unfolding header_of
header_sizes shared bytes width h e =
    let index = field 2 bytes 2 in
    let own = own_size width index in
    let between = between_size width index in
    let r = picked (nat_lt (length bytes) 4) (nat_lt (length bytes) (4 + own + between)) (peaks_of shared width index bytes)
    (with_peaks width index bytes) h e in
    let room : 4 + own + between ≤ length bytes = not_less (length bytes) (4 + own + between) r.0 in
    let P : HeaderView → Type 0 = HasRegion width in
    subst P (sym r.1.2) (record {
      peaks = peaks_wide shared bytes r.1.0 width index (omega (arith, room)) r.1.1;
      starts = λ b. sized bytes (4 + own) width (omega (arith, room, when (has index 0x4000) (2 * width) b));
      ends = λ b. sized bytes (4 + own + width) width (omega (arith, room, when (has index 0x4000) (2 * width) b));
    })
