-- The stack, the storage area and the control values of a machine, and what instructions take from them and put there.
-- Apple TrueType Reference Manual, "Interpreter stack", "Storage area", "Control value table".
use Rattle.std.specs.Prelude.{◌≡◌, ℕ, ◌+◌, ◌-◌, ◌*◌, ℤ, pos, int_lt, unsigned_abs, nat_lt, nat_le, not, ◌||◌, List, []}
use Rattle.std.specs.Prelude.{◌∷◌, ◌++◌, length, reverse, take, drop, slice_index_or, Result, Ok, Err}
use Rattle.fx_fixed.specs.Chain.{◌>>=◌, refuse}
use Rattle.fx_fixed.specs.Numbers.{counted}
use Rattle.fx_gstate.specs.States.{leaves}
use Rattle.fx_stackops.specs.declared.fault.StackFault.{StackFault}
use Rattle.fx_stackops.specs.declared.fault.StackFault.TheVariants.{StackUnder, StackOver, BadArgument}

-- the stack, its top first, and how many numbers it has room for; the storage area; the control values; and how many numbers
-- outside their tables instructions have named
pub record StoreView : Type 0 where
  pub stack : List ℤ
  pub room : ℕ
  pub storage : List ℤ
  pub cvt : List ℤ
  pub strays : ℕ

-- what is seen of it in cells, of which the first d are used
abbrev pub view_of : ℕ → List ℤ → List ℤ → List ℤ → ℕ → StoreView
view_of d cells storage cvt strays = record {
  stack = reverse (take d cells);
  room = length cells;
  storage = storage;
  cvt = cvt;
  strays = strays;
}

-- an empty stack, these tables and no strays
abbrev pub restarted : ℕ → List ℤ → List ℤ → StoreView
restarted room storage cvt = record { stack = []; room = room; storage = storage; cvt = cvt; strays = 0 }

-- ---- operands

abbrev pub with_stack : List ℤ → StoreView → StoreView
with_stack xs s = record s { stack = xs }

abbrev pub one_from : List ℤ → StoreView → Result (ℤ × StoreView) StackFault
one_from [] s = Err StackUnder
one_from (a ∷ rest) s = Ok (a, with_stack rest s)

abbrev pub two_from : List ℤ → StoreView → Result (ℤ × ℤ × StoreView) StackFault
two_from [] s = Err StackUnder
two_from (b ∷ []) s = Err StackUnder
two_from (b ∷ a ∷ rest) s = Ok (a, b, with_stack rest s)

abbrev pub three_from : List ℤ → StoreView → Result (ℤ × ℤ × ℤ × StoreView) StackFault
three_from [] s = Err StackUnder
three_from (c ∷ []) s = Err StackUnder
three_from (c ∷ b ∷ []) s = Err StackUnder
three_from (c ∷ b ∷ a ∷ rest) s = Ok (a, b, c, with_stack rest s)

-- one operand and what is left; two, three and five of them, the deepest first
unfoldable pub one : StoreView → Result (ℤ × StoreView) StackFault
one s = one_from s.stack s

unfoldable pub two : StoreView → Result (ℤ × ℤ × StoreView) StackFault
two s = two_from s.stack s

unfoldable pub three : StoreView → Result (ℤ × ℤ × ℤ × StoreView) StackFault
three s = three_from s.stack s

unfoldable pub five : StoreView → Result (ℤ × ℤ × ℤ × ℤ × ℤ × StoreView) StackFault
five s = do
  x ← two s
  y ← three x.2
  Ok (y.0, y.1, y.2, x.0, x.1, y.3)

-- the top n numbers of a stack, the deepest first
unfoldable pub top_numbers : ℕ → StoreView → Result (List ℤ) StackFault
top_numbers n s = do
  _ ← refuse (nat_lt (length s.stack) n) StackUnder
  Ok (reverse (take n s.stack))

-- how many numbers are above the k-th from the top, counted from 1; there must be a k-th
unfoldable pub index_of : ℤ → List ℤ → Result ℕ StackFault
index_of k stack = do
  _ ← refuse (not (int_lt (pos 0) k) || int_lt (pos (length stack)) k) BadArgument
  Ok (unsigned_abs k - 1)

unfoldable pub element_of : ℤ → List ℤ → Result ℤ StackFault
element_of k stack = do
  index ← index_of k stack
  Ok (slice_index_or stack index (pos 0))

-- the n pairs of a delta instruction, .. argument number n ->, the deepest first, and what is left of the stack
unfoldable pub delta_pairs : StoreView → Result (List ℤ × StoreView) StackFault
delta_pairs s = do
  x ← one s
  _ ← refuse (int_lt x.0 (pos 0)) BadArgument
  pairs ← top_numbers (2 * unsigned_abs x.0) x.1
  Ok (pairs, with_stack (drop (2 * unsigned_abs x.0) x.1.stack) x.1)

-- a stack with the number below some others moved to the top
abbrev pub moved_up : ℕ → List ℤ → List ℤ
moved_up index stack = slice_index_or stack index (pos 0) ∷ (take index stack ++ drop (index + 1) stack)

-- a number on top, of a stack that has room for it
abbrev pub on_top : ℤ → StoreView → StoreView
on_top x s = with_stack (x ∷ s.stack) s

-- a number on top, if there is room
unfoldable pub pushed : ℤ → StoreView → Result StoreView StackFault
pushed x s = do
  _ ← refuse (nat_le s.room (length s.stack)) StackOver
  Ok (on_top x s)

-- numbers on top, in their order
unfoldable pub pushed_all : List ℤ → StoreView → Result StoreView StackFault
pushed_all xs s = do
  _ ← refuse (nat_lt s.room (length s.stack + length xs)) StackOver
  Ok (with_stack (reverse xs ++ s.stack) s)

-- ---- strays

-- n strays more
abbrev pub with_strays : ℕ → StoreView → StoreView
with_strays n s = record s { strays = counted (s.strays + n) }

-- ---- what code returns

-- the operands and what is left of the stack
abbrev pub with_rest : {A E : Type 0} → Result A E → StoreView → Result (A × StoreView) E
with_rest (Ok x) s = Ok (x, s)
with_rest (Err e) s = Err e

abbrev pub with_rest_two : {E : Type 0} → Result (ℤ × ℤ) E → StoreView → Result (ℤ × ℤ × StoreView) E
with_rest_two (Ok x) s = Ok (x.0, x.1, s)
with_rest_two (Err e) s = Err e

abbrev pub with_rest_three : {E : Type 0} → Result (ℤ × ℤ × ℤ) E → StoreView → Result (ℤ × ℤ × ℤ × StoreView) E
with_rest_three (Ok x) s = Ok (x.0, x.1, x.2, s)
with_rest_three (Err e) s = Err e

abbrev pub with_rest_five : {E : Type 0} → Result (ℤ × ℤ × ℤ × ℤ × ℤ) E → StoreView → Result (ℤ × ℤ × ℤ × ℤ × ℤ × StoreView) E
with_rest_five (Ok x) s = Ok (x.0, x.1, x.2, x.3, x.4, s)
with_rest_five (Err e) s = Err e

-- the pairs that are there, and what is below them
abbrev pub with_pairs : {E : Type 0} → Result ℕ E → StoreView → Result (List ℤ × StoreView) E
with_pairs (Ok n) s = Ok (reverse (take (2 * n) s.stack), with_stack (drop (2 * n) s.stack) s)
with_pairs (Err e) s = Err e

-- as much room, and tables of the same sizes
pub record HasSizes (s t : StoreView) : Type 0 where
  pub room : t.room ≡ s.room
  pub storage : length t.storage ≡ length s.storage
  pub cvt : length t.cvt ≡ length s.cvt

-- an instruction did what its row says, and left all sizes, also if it faulted
pub record DoesToStore (row : StoreView → Result StoreView StackFault) (s t : StoreView) (r : Result (Unit {0}) StackFault)
    : Type 0 where
  pub value : leaves r t ≡ row s
  pub sizes : HasSizes s t
