-- The programs of a font keep the number of points and the contours: `programs_keep`.
-- For the law of `Hinter` at a machine, and so for the limits of an outline.
use Rattle.std.proofs.Common.{◌≡◌, ℕ, ◌≤◌, List, length, take, Bool, true, false, Option, Ok, refl, ◌∙◌, subst, arith, length-append}
use Rattle.std.specs.Prelude.{◌||◌, nat_eq}
use Rattle.std.proofs.lemmas.List.{append-nil}
use Rattle.std.proofs.lemmas.Grind.{common_steps}
use Rattle.fx_fixed.specs.Chain.{map_fault}
use Rattle.fx_fixed.proofs.Chain.{bind_ok, map_fault_ok, ok_injective}
use Rattle.fx_zone.specs.declared.point.ZonePoint.{ZonePoint}
use Rattle.fx_zone.specs.Figures.{Figure, HasShape}
use Rattle.fx_scale.specs.Phantoms.{in_order}
use Rattle.fx_gstate.specs.declared.scan.ScanType.{ScanType}
use Rattle.fx_machine.specs.Known.{Known, glyph_ran}
use Rattle.fx_machine.proofs.KeptShapes.{glyphs_keep}
use Rattle.fx_machine.specs.declared.usage.Usage.{Usage}
use Rattle.fx_hint.specs.declared.made.Made.{Made}
use Rattle.fx_hint.specs.declared.fault.HintFault.TheVariants.{Halted}
use Rattle.fx_hint.specs.Hinting.{KeepsShape}
use Rattle.fx_hint.specs.Programmed.{with_phantoms, parted, program_run, hinted, hinting_of}

-- as many points, and the same contours
abbrev IsKept : Made → Made × Usage → Type 0
IsKept made ran = (length ran.0.zone.points ≡ length made.zone.points) × (ran.0.zone.ends ≡ made.zone.ends)

front_length : (xs : List ZonePoint) (n : ℕ) → n ≤ length xs → length (take n xs) ≡ n
front_length xs n h = grind (arith, common_steps)

parted_keeps : (made : Made) (wish : Option ScanType) (f : Figure) (usage : Usage) → HasShape (with_phantoms made) f
    → IsKept made (parted (length made.zone.points) wish f, usage)
parted_keeps made wish f usage h =
    let n = h.points in
    let m = length-append made.zone.points (in_order made.phantoms) in
    (front_length f.points (length made.zone.points) (omega arith), h.ends ∙ append-nil made.zone.ends)

run_keeps : (known : Known) (g : ℕ) (code : List ℕ) (made : Made) (ran : Made × Usage) → program_run known g code made ≡ Ok ran
    → IsKept made ran
unfolding program_run
run_keeps known g code made ran e =
    let b = bind_ok (map_fault Halted (glyph_ran known g code (with_phantoms made)))
    (λ r. Ok (parted (length made.zone.points) r.0.wish r.1, r.0.usage)) ran e in
    let k = glyphs_keep known g code (with_phantoms made) b.0
    (map_fault_ok Halted (glyph_ran known g code (with_phantoms made)) b.0 b.1) in
    let P : Made × Usage → Type 0 = λ q. IsKept made q in
    subst P (ok_injective _ _ b.2) (parted_keeps made b.0.0.wish b.0.1 b.0.0.usage k)

hinted_keeps : (known : Known) (g : ℕ) (code : List ℕ) (made : Made) (skips : Bool)
    → (known.prepared.flags.no_programs || nat_eq (length code) 0) ≡ skips → (ran : Made × Usage)
    → hinted known g code made ≡ Ok ran → IsKept made ran
unfolding hinted
hinted_keeps known g code made true h ran e =
    let P : Made × Usage → Type 0 = λ q. IsKept made q in
    subst P (ok_injective _ _ (rw h at e)) (refl, refl)
hinted_keeps known g code made false h ran e = run_keeps known g code made ran (rw h at e)

pub programs_keep : (known : Known) → KeepsShape (hinting_of known)
programs_keep known g code made ran e = hinted_keeps known g code made _ refl ran e
