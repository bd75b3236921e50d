-- The row that code finds for an opcode is the row of the instruction with its data: `row_there`, `row_cut`.
-- It serves the step: the row of the opcode alone is that of the instruction with its data; and PUSHB, which takes its bytes.
use Rattle.std.proofs.Common.{◌≡◌, ◌≢◌, ℕ, ◌+◌, ◌-◌, ◌<◌, ◌≤◌, Bool, true, false, List, length, Result, Err, inl, inr, refl, arith}
use Rattle.std.specs.List.{slice_range}
use Rattle.std.proofs.lemmas.Bool.{ne_eqb, le-leb}
use Rattle.std.proofs.lemmas.Bool.Decides.{leb_tells}
use Rattle.fx_code.specs.Chain.{opcode_at, next_address, size_at}
use Rattle.fx_code.specs.Numbers.{numbers}
use Rattle.fx_code.proofs.Onward.{next_above}
use Rattle.fx_machine.specs.declared.program.Program.{Program}
use Rattle.fx_machine.specs.declared.halt.Cause.{Cause}
use Rattle.fx_machine.specs.declared.halt.Cause.TheVariants.{CodeEnd}
use Rattle.fx_machine.specs.declared.action.Action.{Action}
use Rattle.fx_machine.specs.declared.state.State.{State}
use Rattle.fx_machine.specs.Effects.{Fails}
use Rattle.fx_machine.specs.Actions.{Leads}
use Rattle.fx_machine.specs.inner.Bytes.{bytes_then}
use Rattle.fx_machine.specs.Table.{is_push, push_at, row_of, row_here, row_in, settled}

-- an opcode that pushes nothing has no data
lone : (code : List ℕ) (p : ℕ) → is_push (opcode_at code p) ≡ false → size_at code p ≡ 1
unfolding size_at
lone code p e = grind arith

there_by : (b : Bool) (w : Program) (p : ℕ) (s : State) (code : List ℕ) → is_push (opcode_at code p) ≡ b → p < length code
    → settled (row_here (opcode_at code p) code w p s) ≡ row_in code w p s
unfolding row_in row_here row_of push_at
there_by true w p s code e h = elim (leb_tells (next_address code p) (length code)) [
  | inl y ↦ rw (e, ne_eqb p (length code) (λ z. omega arith), y.0) refl
  | inr y ↦ rw (e, ne_eqb p (length code) (λ z. omega arith), y.0) refl
]
there_by false w p s code e h = grind (arith, lone code p e)

-- the row of the opcode at an address inside
pub row_there : (w : Program) (p : ℕ) (s : State) (x : Result (Action × State) Cause) (code : List ℕ) (op : ℕ)
    → p < length code → op ≡ opcode_at code p → x ≡ row_here op code w p s → settled x ≡ row_in code w p s
row_there w p s x code op h eo m = rw (m, eo) (there_by (is_push (opcode_at code p)) w p s code refl h)

-- and where its data are cut
pub row_cut : (w : Program) (p : ℕ) (s : State) (code : List ℕ) → p ≢ length code → length code ≤ p
    → Fails CodeEnd ≡ row_in code w p s
unfolding row_in
row_cut w p s code n h = grind (arith, next_above code p)

-- ---- the bytes of PUSHB

-- it is as long as its opcode says
bytes_size : (code : List ℕ) (p : ℕ) → 0xB0 ≤ opcode_at code p → opcode_at code p ≤ 0xB7
    → size_at code p ≡ 1 + (opcode_at code p - 0xB0 + 1)
unfolding size_at
bytes_size code p l h = grind arith

-- the opcode says no more of them
bytes_alike : (op : ℕ) (bytes : List ℕ) → 0xB0 ≤ op → op ≤ 0xB7 → numbers 0xB0 bytes ≡ numbers op bytes
unfolding numbers
bytes_alike op bytes l h = grind arith

-- its row, if its data are there
whole_here : (code : List ℕ) (p next : ℕ) (s t : State) (r : Result Action Cause) → 0xB0 ≤ opcode_at code p
    → opcode_at code p ≤ 0xB7 → next ≡ p + 1 + (opcode_at code p - 0xB0) + 1 → next ≤ length code
    → Leads (bytes_then next (slice_range code (p + 1) next)) s t r → Leads (push_at code p) s t r
unfolding push_at
whole_here code p next s t r l h e m k =
    let op = opcode_at code p in
    let n : next_address code p ≡ next = omega (arith, e, bytes_size code p l h) in
    record {
      value = rw (
        n,
        le-leb next (length code) m,
        ne_eqb op 0x40 (λ z. omega (arith, l, z)),
        ne_eqb op 0x41 (λ z. omega (arith, l, z)),
        ← bytes_alike op (slice_range code (p + 1) next) l h,
      ) k.value;
      kept = k.kept;
      sizes = k.sizes;
    }

-- the same by the opcode as code has it, and where they are cut
pub bytes_whole : (code : List ℕ) (p op next : ℕ) (s t : State) (r : Result Action Cause) → op ≡ opcode_at code p → 0xB0 ≤ op
    → op ≤ 0xB7 → next ≡ p + 1 + (op - 0xB0) + 1 → next ≤ length code
    → Leads (bytes_then next (slice_range code (p + 1) next)) s t r → Leads (push_at code p) s t r
bytes_whole code p op next s t r o l h e m k = whole_here code p next s t r (rw o at l) (rw o at h) (rw o at e) m k

pub bytes_cut : (code : List ℕ) (p op next : ℕ) (s : State) → op ≡ opcode_at code p → 0xB0 ≤ op → op ≤ 0xB7
    → next ≡ p + 1 + (op - 0xB0) + 1 → length code < next → Err CodeEnd ≡ push_at code p s
unfolding push_at
bytes_cut code p op next s o l h e m = grind (arith, o, bytes_size code p (rw o at l) (rw o at h))
