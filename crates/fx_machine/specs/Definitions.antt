-- The functions and the definitions of opcodes.
use Rattle.std.specs.Prelude.{ℤ, pos, negsuc, List, Option, None, slice_index_or}
use Rattle.fx_machine.specs.declared.definitions.Function.{Function}

-- the functions by their numbers, and the definitions of opcodes by theirs
pub record Defined : Type 0 where
  pub functions : List (Option Function)
  pub opcodes : List (Option Function)

-- the function of a number
abbrev pub function_at : List (Option Function) → ℤ → Option Function
function_at functions (pos f) = slice_index_or functions f None
function_at functions (negsuc _) = None
