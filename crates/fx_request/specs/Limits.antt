-- The limits of requests (limits of this project).
use Rattle.std.specs.Prelude.{ℕ}

-- the greatest number of characters of a request
abbrev pub max_characters : ℕ
max_characters = 65536

-- the greatest code point of a request, U+10FFFF, which is the last of Unicode
abbrev pub max_code : ℕ
max_code = 0x10FFFF
