-- The limits of a run. None is the standard's; each is this project's own choice.
use Rattle.std.specs.Prelude.{ℕ, ◌+◌, max}

-- the most instructions that a program may execute
abbrev pub STEP_LIMIT : ℕ
STEP_LIMIT = 250000

-- the most calls that may be open
abbrev pub CALL_LIMIT : ℕ
CALL_LIMIT = 32

-- the fewest functions that a font may define, if it says fewer itself
abbrev pub FEWEST_FUNCTIONS : ℕ
FEWEST_FUNCTIONS = 64

-- how many functions a font may define, of the number that it says
abbrev pub function_count_of : ℕ → ℕ
function_count_of functions = max functions FEWEST_FUNCTIONS

-- how many numbers more than the font says the stack has room for
abbrev pub SPARE_ELEMENTS : ℕ
SPARE_ELEMENTS = 32

-- how many numbers the stack has room for, of the number that the font says
abbrev pub room_of : ℕ → ℕ
room_of elements = elements + SPARE_ELEMENTS
