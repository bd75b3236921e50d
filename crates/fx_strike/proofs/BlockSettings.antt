-- What is read from a block of a font's setting is its machine, and with it the setting: `known_is`.
-- Serves the calls that open a font by a block.
use Rattle.std.proofs.Common.{◌≡◌, refl, sym, ap, ◌∙◌, ℕ, List, Bool, true, false, ◌&&◌, Option, Some, None, Result, Ok, Err, arith}
use Rattle.std.specs.Prelude.{option_map}
use Rattle.fx_fixed.specs.Chain.{◌>>=◌, refuse, map_ok, map_fault}
use Rattle.fx_fixed.proofs.Chain.{ok_injective}
use Rattle.fx_sfnt.specs.Tables.{Face}
use Rattle.fx_machine.specs.declared.halt.MachineFault.{MachineFault}
use Rattle.fx_machine.specs.Known.{Known, MachineView, machine_of, font_ran, prepared_from}
use Rattle.fx_machine.specs.Blocks.{IsBlockOf}
use Rattle.fx_machine.specs.declared.state.State.{State}
use Rattle.fx_machine.specs.declared.usage.Usage.{Usage}
use Rattle.fx_request.specs.Faults.{of_machine}
use Rattle.fx_request.specs.declared.refusal.Refusal.TheVariants.{TooMuchWork}
use Rattle.fx_strike.specs.Careful.{is_font_over}
use Rattle.fx_strike.specs.declared.opened.Basis.{Basis}
use Rattle.fx_strike.specs.Strike.{basis_of, Setting, machine_for, machine_within, opened_many_of, setting_for, setting_in}
use Rattle.fx_strike.specs.Strike.{setting_with, FontFileView, Mode, Refusal, Opened}
use Rattle.fx_strike.specs.Blocks.{IsBlockFor}

-- ---- the machine

ran_is : (face : Face) (ppem : ℕ) (ran : Result (Usage × State) MachineFault) (known : Known)
    → (ran >>= λ r. Ok (record { face = face; ppem = ppem; prepared = prepared_from r.1; prelude = r.0 })) ≡ Ok known
    → (known.face ≡ face) × (known.ppem ≡ ppem)
ran_is face ppem (Ok r) known e = grind (arith, e, ok_injective)
ran_is face ppem (Err f) known e = cc

-- the machine of a font at a size is of this font and size
machine_is_of : (face : Face) (ppem : ℕ) (known : Known) → machine_of face ppem ≡ Ok known
    → (known.face ≡ face) × (known.ppem ≡ ppem)
unfolding machine_of
machine_is_of face ppem known e = ran_is face ppem (font_ran face ppem) known e

record IsRun (x : Result Known MachineFault) (machine : Option Known) : Type 0 where
  known : Known
  run : x ≡ Ok known
  machine_is : machine ≡ Some known

run_is : (x : Result Known MachineFault) (machine : Option Known) → map_ok Some (map_fault of_machine x) ≡ Ok machine
    → IsRun x machine
run_is (Ok k) machine e = record { known = k; run = refl; machine_is = sym (ok_injective _ _ e) }
run_is (Err f) machine e = cc

-- its programs did no more work than they may, if that was asked
passed : (b : Bool) (x : Result Known Refusal) (machine : Option Known)
    → map_ok Some (refuse b TooMuchWork >>= λ _. x) ≡ Ok machine → map_ok Some x ≡ Ok machine
passed true x machine e = absurd (cc (e))
passed false x machine e = e

ran_for : (face : Face) (ppem : ℕ) (careful : Bool) (machine : Option Known) → machine_for face ppem true careful ≡ Ok machine
    → IsRun (machine_of face ppem) machine
unfolding machine_for machine_within
ran_for face ppem careful machine e =
    run_is (machine_of face ppem) machine (passed (careful && is_font_over face ppem) _ machine e)

is_taken : (made : Option MachineView) (known : Known) → option_map (λ m. m.known) made ≡ Some known
    → option_map (λ m. Some m.known) made ≡ Some (Some known)
is_taken (Some m) known e = ap (option_map Some) e
is_taken None known e = cc

-- with hinting on it is the one that is read
pub on_is : (face : Face) (ppem : ℕ) (hinting careful : Bool) (block : List ℕ) (machine : Option Known) (made : Option MachineView)
    → hinting ≡ true → machine_for face ppem hinting careful ≡ Ok machine → IsBlockFor machine block
    → ((known : Known) → known.face ≡ face → known.ppem ≡ ppem → IsBlockOf known block
    → option_map (λ m. m.known) made ≡ Some known)
    → option_map (λ m. Some m.known) made ≡ Some machine
on_is face ppem hinting careful block machine made h e b t =
    let r = ran_for face ppem careful machine (rw h at e) in
    let of = machine_is_of face ppem r.known r.run in
    let taken = t r.known of.0 of.1 (rw r.machine_is at b) in
    is_taken made r.known taken ∙ ap Some (sym r.machine_is)

-- with hinting on there is one, of this font
pub record IsKnown (face : Face) (block : List ℕ) : Type 0 where
  pub known : Known
  pub face_is : known.face ≡ face
  pub of_known : IsBlockOf known block

pub known_is : (face : Face) (ppem : ℕ) (careful : Bool) (block : List ℕ) (machine : Option Known)
    → machine_for face ppem true careful ≡ Ok machine
    → IsBlockFor machine block → IsKnown face block
known_is face ppem careful block machine e b =
    let r = ran_for face ppem careful machine e in record {
      known = r.known;
      face_is = (machine_is_of face ppem r.known r.run).0;
      of_known = rw r.machine_is at b;
    }

-- ---- the setting

pub record IsSet (t : Basis) (x : Result (Option Known) Refusal) (s : Setting) : Type 0 where
  pub machine : x ≡ Ok s.machine
  pub setting : setting_with t s.machine ≡ s

parts : (t : Basis) (x : Result (Option Known) Refusal) (s : Setting)
    → (x >>= λ m. Ok (setting_with t m)) ≡ Ok s
    → IsSet t x s
parts t (Ok m) s e = grind (arith, e, ok_injective)
parts t (Err d) s e = cc

pub setting_parts : (o : Opened) (mode : Mode) (s : Setting) → setting_in o mode ≡ Ok s
    → IsSet (basis_of o mode) (machine_for o.font o.ppem mode.hinting mode.careful) s
unfolding setting_in
setting_parts o mode s e = parts (basis_of o mode) (machine_for o.font o.ppem mode.hinting mode.careful) s e

-- the setting of a font file is that of the opened font
pub for_opened : (file : FontFileView) (ppem : ℕ) (chars : List ℕ) (mode : Mode) (o : Opened) (s : Setting)
    → Ok o ≡ opened_many_of file ppem chars → setting_for file ppem chars mode ≡ Ok s → setting_in o mode ≡ Ok s
unfolding setting_for
for_opened file ppem chars mode o s h e = rw (sym h) at e
