-- The numbers of the opcodes that push data or give programs their structure (Apple TrueType Reference Manual, "Instruction set").
use Rattle.std.specs.Prelude.{ℕ}

abbrev pub ELSE : ℕ
ELSE = 0x1B

abbrev pub FDEF : ℕ
FDEF = 0x2C

abbrev pub ENDF : ℕ
ENDF = 0x2D

abbrev pub NPUSHB : ℕ
NPUSHB = 0x40

abbrev pub NPUSHW : ℕ
NPUSHW = 0x41

abbrev pub IF : ℕ
IF = 0x58

abbrev pub EIF : ℕ
EIF = 0x59

abbrev pub IDEF : ℕ
IDEF = 0x89

-- PUSHB pushes 1 to 8 bytes, PUSHW 1 to 8 words: the first and the last opcode of each
abbrev pub PUSHB_1 : ℕ
PUSHB_1 = 0xB0

abbrev pub PUSHB_8 : ℕ
PUSHB_8 = 0xB7

abbrev pub PUSHW_1 : ℕ
PUSHW_1 = 0xB8

abbrev pub PUSHW_8 : ℕ
PUSHW_8 = 0xBF
