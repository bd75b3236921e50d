-- How outlines become pixels, and in which form pixels are told, as C says it.
use Rattle.std.specs.Prelude.{ℕ, ◌/◌, ◌%◌, ◌==◌, ◌&&◌, ◌||◌, nat_lt, Bool, if◌then◌else◌}
use Rattle.fx_request.specs.declared.request.Dropout.{Dropout}
use Rattle.fx_request.specs.declared.request.Dropout.TheVariants.{Off, Left, Near, Font}
use Rattle.fx_request.specs.declared.request.Mode.{Mode}

-- a number is 0, or a sum of 1 and of one of 2, 4 and 8
abbrev pub is_pixel_mode : ℕ → Bool
is_pixel_mode mode = nat_lt mode 6 || mode / 2 == 4

-- a mode for outlines: one of these, with 16 or without it
abbrev pub is_outline_mode : ℕ → Bool
is_outline_mode mode = nat_lt mode 32 && is_pixel_mode (mode % 16)

-- a mode: a mode for outlines, with 256 or without it
abbrev pub is_mode : ℕ → Bool
is_mode mode = nat_lt mode 512 && is_outline_mode (mode % 256)

-- and a mode for a strike: one for outlines, with 512 or without it
abbrev pub is_strike_mode : ℕ → Bool
is_strike_mode mode = nat_lt mode 1024 && is_outline_mode (mode % 512)

-- with 2 the left or the lower pixel closes a gap, with 4 the nearer one, with 8 the one that the font asks for
abbrev pub dropout_of : ℕ → Dropout
dropout_of mode =
    if mode / 8 % 2 == 1 then Font else (if mode / 4 % 2 == 1 then Near else (if mode / 2 % 2 == 1 then Left else Off))

-- with 1 the font's programs run, and with 16 a character that takes too much work is refused
abbrev pub mode_of : ℕ → Mode
mode_of mode = record { hinting = mode % 2 == 1; dropout = dropout_of mode; careful = mode / 16 % 2 == 1 }

-- with 256 pixels are packed, eight a byte
abbrev pub is_packed : ℕ → Bool
is_packed mode = mode / 256 % 2 == 1

-- with 512 a strike has the properties that X11 looks for
abbrev pub is_x11 : ℕ → Bool
is_x11 mode = mode / 512 % 2 == 1
