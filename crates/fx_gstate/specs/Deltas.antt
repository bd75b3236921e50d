-- What an argument of a delta instruction says.
-- Apple TrueType Reference Manual, DELTAP1, "Delta instructions", SDB, SDS.
use Rattle.std.specs.Prelude.{ℕ, ◌/◌, ◌%◌, ◌^◌, nat_lt, if◌then◌else◌, ℤ, pos, ◌+ℤ◌, ◌-ℤ◌, ◌*ℤ◌, List, [], ◌∷◌}
use Rattle.std.specs.Ordering.{int_eq}
use Rattle.fx_gstate.specs.declared.deltas.Delta.{Delta}
use Rattle.fx_gstate.specs.declared.deltas.DeltaForm.{DeltaForm}
use Rattle.fx_gstate.specs.declared.deltas.DeltaForm.TheVariants.{First, Second, Third}
use Rattle.fx_gstate.specs.Rounding.{low_byte}

-- how many pixels per em above the delta base the sizes of a form begin
abbrev pub form_start : DeltaForm → ℕ
form_start First = 0
form_start Second = 16
form_start Third = 32

-- the low nibble: 0 to 7 are -8 to -1 steps, 8 to 15 are 1 to 8 steps
abbrev pub steps_of : ℕ → ℤ
steps_of low = if nat_lt (low % 16) 8 then pos (low % 16) -ℤ pos 8 else pos (low % 16) -ℤ pos 7

-- a step, in 26.6
abbrev pub step_of : ℕ → ℕ
step_of shift = 64 / 2 ^ shift

-- the high nibble above the base of the form is the size at which it acts, in pixels per em
abbrev pub acting_size : DeltaForm → ℤ → ℕ → ℤ
acting_size form base low = base +ℤ pos (form_start form) +ℤ pos (low / 16)

-- the low nibble is by how much it moves
abbrev pub amount_of : ℕ → ℕ → ℤ
amount_of shift low = steps_of low *ℤ pos (step_of shift)

-- what an argument says in a form, at a delta base and a delta shift
unfoldable pub delta_of : DeltaForm → ℤ → ℕ → ℤ → Delta
delta_of form base shift argument = record {
  ppem = acting_size form base (low_byte argument);
  amount = amount_of shift (low_byte argument);
}

-- ---- pairs, of which DELTAP moves points and DELTAC control values

-- a change by the amount of an argument, if it acts at this size; if not nothing is looked at
abbrev pub acted : {S : Type 0} → (ℤ → S → S) → ℕ → Delta → S → S
acted change ppem d s = if int_eq d.ppem (pos ppem) then change d.amount s else s

-- the steps for each pair, the top of the stack first: a number, and below it its argument
unfoldable pub each_pair : {S : Type 0} → (ℤ → ℤ → S → S) → List ℤ → S → S
each_pair steps [] s = s
each_pair steps (number ∷ []) s = s
each_pair steps (number ∷ argument ∷ pairs) s = each_pair steps pairs (steps number argument s)
