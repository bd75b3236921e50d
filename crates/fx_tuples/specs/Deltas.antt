-- Packed deltas (OpenType, "OpenType Font Variations Common Table Formats", "Packed deltas").
use Rattle.std.specs.Prelude.{ℕ, zero, suc, ◌+◌, ◌-◌, ◌%◌, ◌/◌, ℤ, pos, List, [], ◌∷◌, length, drop, slice_index, Option, Some}
use Rattle.std.specs.Prelude.{None}
use Rattle.std.specs.Prelude.{option_and_then, ◌==◌, nat_lt, nat_le, if◌then◌else◌}
use Rattle.std.specs.Prelude.{Result, Ok, Bool, true, false}
use Rattle.std.specs.Int.{w8, cast_signed}
use Rattle.fx_fixed.specs.Chain.{◌>>=◌, wanted}
use Rattle.fx_sfnt.specs.Fields.{signed_field}
use Rattle.fx_glyf.specs.Words.{with_front}
use Rattle.fx_tuples.specs.declared.fault.TupleFault.{TupleFault}
use Rattle.fx_tuples.specs.declared.fault.TupleFault.TheVariants.{DeltasShort}

-- the state of reading deltas: how many of the run are left, their form, the delta before, and the bytes that follow
pub record DeltaCursor : Type 0 where
  pub again : ℕ
  pub form : ℕ
  pub delta : ℤ
  pub bytes : List ℕ

abbrev pub state : ℕ → ℕ → ℤ → List ℕ → DeltaCursor
state again form delta bytes = record { again = again; form = form; delta = delta; bytes = bytes }

-- a run begins where the one before it ends. Its first byte says how many deltas it has, one more than the low six bits, and their
-- form: of the two high bits the first says that all are 0, else the second that they take two bytes each. There is none of more
-- deltas than `most`
unfoldable pub run_from : ℕ → ℤ → List ℕ → Option DeltaCursor
run_from most delta [] = None
run_from most delta (head ∷ rest) =
    if nat_lt most (head % 64 + 1) then None
    else Some (record { again = head % 64 + 1; form = head / 64; delta = delta; bytes = rest })

unfoldable pub opened : ℕ → DeltaCursor → Option DeltaCursor
opened most c = if c.again == 0 then run_from most c.delta c.bytes else Some c

-- a delta, with the bytes after it
abbrev pub come : DeltaCursor → ℤ → List ℕ → DeltaCursor
come c delta rest = record { again = c.again - 1; form = c.form; delta = delta; bytes = rest }

-- the next delta of a run, of two bytes and of one
abbrev pub wide : DeltaCursor → Option DeltaCursor
wide c = if nat_lt (length c.bytes) 2 then None else Some (come c (signed_field c.bytes 0) (drop 2 c.bytes))

abbrev pub narrow : DeltaCursor → Option DeltaCursor
narrow c = if nat_lt (length c.bytes) 1 then None else Some (come c (cast_signed w8 (slice_index c.bytes 0)) (drop 1 c.bytes))

unfoldable pub advanced : DeltaCursor → Option DeltaCursor
advanced c =
    if nat_le 2 c.form then Some (come c (pos 0) c.bytes)
    else if c.form == 1 then wide c else narrow c

unfoldable pub next_delta : ℕ → DeltaCursor → Option DeltaCursor
next_delta most c = option_and_then advanced (opened most c)

-- `left` deltas, and the bytes after them
unfoldable pub deltas_from : ℕ → DeltaCursor → Option (List ℤ × List ℕ)
deltas_from zero c = Some ([], c.bytes)
deltas_from (suc left) c = option_and_then (λ d. with_front d.delta (deltas_from left d)) (next_delta (suc left) c)

-- before the first delta
abbrev pub start : List ℕ → DeltaCursor
start bytes = record { again = 0; form = 0; delta = pos 0; bytes = bytes }

-- the deltas of a coordinate: those of x come first, then those of y
unfoldable pub deltas_in : Bool → ℕ → List ℕ → Result (List ℤ) TupleFault
deltas_in false count bytes = do
  x ← wanted (deltas_from count (start bytes)) DeltasShort
  Ok x.0
deltas_in true count bytes = do
  x ← wanted (deltas_from count (start bytes)) DeltasShort
  y ← wanted (deltas_from count (start x.1)) DeltasShort
  Ok y.0
