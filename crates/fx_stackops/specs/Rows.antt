-- The rows of the instruction table that touch the stack, the storage area and the control values alone, in the order of their
-- opcodes. Each comment has the opcode, the mnemonic and what becomes of the stack, whose top is written last.
-- Apple TrueType Reference Manual, "Instruction set".
use Rattle.std.specs.Prelude.{ℕ, ℤ, pos, neg_ℤ, ◌-ℤ◌, ◌*ℤ◌, ◌≤ℤ◌, int_lt, unsigned_abs, Bool, ◌&&◌}
use Rattle.std.specs.Prelude.{◌||◌, not, if◌then◌else◌, List, [], length, reverse, Result, Ok}
use Rattle.std.specs.Ordering.{int_eq}
use Rattle.std.specs.Int.{int_rem_euclid}
use Rattle.fx_fixed.specs.Chain.{◌>>=◌, refuse}
use Rattle.fx_fixed.specs.Numbers.{near_of, cut_of, wrapped_of, sum_of, difference_of}
use Rattle.fx_gstate.specs.declared.deltas.Delta.{Delta}
use Rattle.fx_gstate.specs.declared.deltas.DeltaForm.{DeltaForm}
use Rattle.fx_gstate.specs.declared.state.GState.{GState}
use Rattle.fx_gstate.specs.Deltas.{delta_of, acted, each_pair}
use Rattle.fx_gstate.specs.Grid.{OnGrid, IsGreatestNotAbove}
use Rattle.fx_gstate.specs.Rounding.{rounded_of}
use Rattle.fx_stackops.specs.declared.fault.StackFault.{StackFault}
use Rattle.fx_stackops.specs.declared.fault.StackFault.TheVariants.{DivideByZero}
use Rattle.fx_stackops.specs.Table.{read_of, written_of, stray_of}
use Rattle.fx_stackops.specs.Store.{StoreView, with_stack, one, two, three, index_of, element_of, moved_up, on_top, pushed}
use Rattle.fx_stackops.specs.Store.{pushed_all, with_strays, delta_pairs}

-- what a row gives
abbrev pub Row : Type 0
Row = Result StoreView StackFault

-- one operand, or two, give one number; such a row always has room
abbrev pub unary : (ℤ → ℤ) → StoreView → Row
unary f s = do
  x ← one s
  Ok (on_top (f x.0) x.1)

abbrev pub binary : (ℤ → ℤ → ℤ) → StoreView → Row
binary f s = do
  x ← two s
  Ok (on_top (f x.0 x.1) x.2)

-- 1 for true, 0 for false; any number but 0 is true
abbrev pub bit : Bool → ℤ
bit b = if b then pos 1 else pos 0

abbrev pub is_true : ℤ → Bool
is_true a = not (int_eq a (pos 0))

-- ---- 2

-- 20 DUP  a -> a a
unfoldable pub dup_row : StoreView → Row
dup_row s = do
  x ← one s
  pushed x.0 (on_top x.0 x.1)

-- 21 POP  a ->
unfoldable pub pop_row : StoreView → Row
pop_row s = do
  x ← one s
  Ok x.1

-- 22 CLEAR  .. ->
abbrev pub clear_row : StoreView → Row
clear_row s = Ok (with_stack [] s)

-- 23 SWAP  a b -> b a
unfoldable pub swap_row : StoreView → Row
swap_row s = do
  x ← two s
  Ok (on_top x.0 (on_top x.1 x.2))

-- 24 DEPTH  -> n, the number of elements before
unfoldable pub depth_row : StoreView → Row
depth_row s = pushed (pos (length s.stack)) s

-- 25 CINDEX  .. k -> .. x, x the k-th element from the top after k is popped
unfoldable pub cindex_row : StoreView → Row
cindex_row s = do
  x ← one s
  element ← element_of x.0 x.1.stack
  Ok (on_top element x.1)

-- 26 MINDEX  .. x .. k -> .. .. x
unfoldable pub mindex_row : StoreView → Row
mindex_row s = do
  x ← one s
  index ← index_of x.0 x.1.stack
  Ok (with_stack (moved_up index x.1.stack) x.1)

-- ---- 4, B

-- 40 NPUSHB, 41 NPUSHW, B0 to B7 PUSHB, B8 to BF PUSHW  -> the data in order
abbrev pub push_row : List ℤ → StoreView → Row
push_row numbers s = pushed_all numbers s

-- 42 WS  i v ->
unfoldable pub ws_row : StoreView → Row
ws_row s = do
  x ← two s
  Ok (with_strays (stray_of x.2.storage x.0) (record x.2 { storage = written_of x.2.storage x.0 x.1 }))

-- 43 RS  i -> v
unfoldable pub rs_row : StoreView → Row
rs_row s = do
  x ← one s
  Ok (on_top (read_of x.1.storage x.0) (with_strays (stray_of x.1.storage x.0) x.1))

-- a control value written
abbrev pub with_control : ℤ → ℤ → StoreView → StoreView
with_control i v s = with_strays (stray_of s.cvt i) (record s { cvt = written_of s.cvt i v })

-- 44 WCVTP  i v ->
unfoldable pub wcvtp_row : StoreView → Row
wcvtp_row s = do
  x ← two s
  Ok (with_control x.0 x.1 x.2)

-- 45 RCVT  i -> v
unfoldable pub rcvt_row : StoreView → Row
rcvt_row s = do
  x ← one s
  Ok (on_top (read_of x.1.cvt x.0) (with_strays (stray_of x.1.cvt x.0) x.1))

-- 4B MPPEM, 4C MPS  -> the size, in pixels per em
unfoldable pub mppem_row : ℕ → StoreView → Row
mppem_row ppem s = pushed (pos ppem) s

unfoldable pub mps_row : ℕ → StoreView → Row
mps_row ppem s = pushed (pos ppem) s

-- 4F DEBUG, 7E SANGW, 7F AA  a ->
abbrev pub ignored_row : StoreView → Row
ignored_row = pop_row

-- ---- 5

-- 50 LT, 51 LTEQ, 52 GT, 53 GTEQ, 54 EQ, 55 NEQ  a b -> 1 or 0
unfoldable pub lt_row : StoreView → Row
lt_row = binary (λ a b. bit (int_lt a b))

unfoldable pub lteq_row : StoreView → Row
lteq_row = binary (λ a b. bit (not (int_lt b a)))

unfoldable pub gt_row : StoreView → Row
gt_row = binary (λ a b. bit (int_lt b a))

unfoldable pub gteq_row : StoreView → Row
gteq_row = binary (λ a b. bit (not (int_lt a b)))

unfoldable pub eq_row : StoreView → Row
eq_row = binary (λ a b. bit (int_eq a b))

unfoldable pub neq_row : StoreView → Row
neq_row = binary (λ a b. bit (not (int_eq a b)))

-- 56 ODD, 57 EVEN  a -> 1 or 0: the rounded a, in pixels, is odd; is even
unfoldable pub odd_row : GState → StoreView → Row
odd_row g = unary (λ a. bit (int_eq (int_rem_euclid (rounded_of g.round_state a) (pos 128)) (pos 64)))

unfoldable pub even_row : GState → StoreView → Row
even_row g = unary (λ a. bit (int_eq (int_rem_euclid (rounded_of g.round_state a) (pos 128)) (pos 0)))

-- 5A AND, 5B OR  a b -> 1 or 0; 5C NOT  a -> 1 or 0
unfoldable pub and_row : StoreView → Row
and_row = binary (λ a b. bit (is_true a && is_true b))

unfoldable pub or_row : StoreView → Row
or_row = binary (λ a b. bit (is_true a || is_true b))

unfoldable pub not_row : StoreView → Row
not_row = unary (λ a. bit (not (is_true a)))

-- ---- 6

-- 60 ADD, 61 SUB  a b -> a + b, a - b
unfoldable pub add_row : StoreView → Row
add_row = binary sum_of

unfoldable pub sub_row : StoreView → Row
sub_row = binary difference_of

-- 62 DIV  a b -> 64 a / b, cut
unfoldable pub div_row : StoreView → Row
div_row s = do
  x ← two s
  _ ← refuse (int_eq x.1 (pos 0)) DivideByZero
  Ok (on_top (wrapped_of (cut_of (pos 64 *ℤ x.0) x.1)) x.2)

-- 63 MUL  a b -> a b / 64, to the nearest
unfoldable pub mul_row : StoreView → Row
mul_row = binary (λ a b. wrapped_of (near_of (a *ℤ b) (pos 64)))

-- 64 ABS, 65 NEG  a -> the size of a, -a
unfoldable pub abs_row : StoreView → Row
abs_row = unary (λ a. wrapped_of (pos (unsigned_abs a)))

unfoldable pub neg_row : StoreView → Row
neg_row = unary (λ a. wrapped_of (neg_ℤ a))

-- 66 FLOOR, 67 CEILING  a -> the greatest multiple of 64 not above a, the least not below a
abbrev pub floored : ℤ → ℤ
floored a = a -ℤ int_rem_euclid a (pos 64)

abbrev pub ceiled : ℤ → ℤ
ceiled a = neg_ℤ (floored (neg_ℤ a))

unfoldable pub floor_row : StoreView → Row
floor_row = unary (λ a. wrapped_of (floored a))

unfoldable pub ceiling_row : StoreView → Row
ceiling_row = unary (λ a. wrapped_of (ceiled a))

-- 68 to 6B ROUND, 6C to 6F NROUND  a -> a rounded, a
unfoldable pub round_row : GState → StoreView → Row
round_row g = unary (rounded_of g.round_state)

unfoldable pub nround_row : StoreView → Row
nround_row = unary (λ a. a)

-- ---- 7

-- 73 DELTAC1, 74 DELTAC2, 75 DELTAC3  .. argument number n ->, n pairs
-- Each control value whose argument acts at this size moves by its amount.
abbrev pub moved_control : ℕ → Delta → ℤ → StoreView → StoreView
moved_control ppem d i s = acted (λ amount t. with_control i (sum_of (read_of t.cvt i) amount) t) ppem d s

unfoldable pub control_delta : DeltaForm → GState → ℕ → ℤ → ℤ → StoreView → StoreView
control_delta form g ppem i argument s = moved_control ppem (delta_of form g.delta_base g.delta_shift argument) i s

unfoldable pub deltac_row : DeltaForm → GState → ℕ → StoreView → Row
deltac_row form g ppem s = do
  x ← delta_pairs s
  Ok (each_pair (control_delta form g ppem) (reverse x.0) x.1)

-- ---- 8

-- 88 GETINFO  s -> 35 if bit 0 of s is set, else 0
unfoldable pub getinfo_row : StoreView → Row
getinfo_row = unary (λ s. if int_eq (int_rem_euclid s (pos 2)) (pos 1) then pos 35 else pos 0)

-- 8A ROLL  a b c -> b c a
unfoldable pub roll_row : StoreView → Row
roll_row s = do
  x ← three s
  Ok (on_top x.0 (on_top x.2 (on_top x.1 x.3)))

-- 8B MAX, 8C MIN  a b -> the greater, the lesser
unfoldable pub max_row : StoreView → Row
max_row = binary (λ a b. if int_lt a b then b else a)

unfoldable pub min_row : StoreView → Row
min_row = binary (λ a b. if int_lt b a then b else a)

-- ---- laws

-- m is the least member of P not below x
pub record IsLeastNotBelow (P : ℤ → Type 0) (x m : ℤ) : Type 0 where
  pub member : P m
  pub not_below : x ≤ℤ m
  pub least : (k : ℤ) → P k → x ≤ℤ k → m ≤ℤ k

-- FLOOR gives the greatest multiple of 64 not above, CEILING the least not below
abbrev pub FlooredIsGreatest : Type 0
FlooredIsGreatest = (a : ℤ) → IsGreatestNotAbove (OnGrid (pos 64) (pos 0)) a (floored a)

abbrev pub CeiledIsLeast : Type 0
CeiledIsLeast = (a : ℤ) → IsLeastNotBelow (OnGrid (pos 64) (pos 0)) a (ceiled a)
