-- The components of a composite glyph (OpenType, `glyf`, composite glyph description).
use Rattle.std.specs.Prelude.{ℕ, zero, suc, ◌+◌, ◌*◌, ℤ, pos, List, [], length, take, drop, slice_index, Option, Some, None}
use Rattle.std.specs.Prelude.{option_and_then, Bool, true, false, nat_lt, if◌then◌else◌}
use Rattle.std.specs.Int.{w8, cast_signed}
use Rattle.std.specs.List.{list_any}
use Rattle.fx_fixed.specs.Numbers.{one_in_2_14}
use Rattle.fx_sfnt.specs.Fields.{field, signed_field}
use Rattle.fx_glyf.specs.Words.{has, with_front}
use Rattle.fx_glyf.specs.declared.component.Component.{Component}

-- The masks of a component's flags.
abbrev pub arg_1_and_2_are_words : ℕ
arg_1_and_2_are_words = 0x0001

abbrev pub args_are_xy_values : ℕ
args_are_xy_values = 0x0002

abbrev pub round_xy_to_grid : ℕ
round_xy_to_grid = 0x0004

abbrev pub we_have_a_scale : ℕ
we_have_a_scale = 0x0008

abbrev pub more_components : ℕ
more_components = 0x0020

abbrev pub we_have_an_x_and_y_scale : ℕ
we_have_an_x_and_y_scale = 0x0040

abbrev pub we_have_a_two_by_two : ℕ
we_have_a_two_by_two = 0x0080

abbrev pub we_have_instructions : ℕ
we_have_instructions = 0x0100

abbrev pub use_my_metrics : ℕ
use_my_metrics = 0x0200

-- the bytes of both arguments
abbrev pub args_size : ℕ → ℕ
args_size flags = if has flags arg_1_and_2_are_words then 4 else 2

-- the bytes of the scales
abbrev pub scales_size : ℕ → ℕ
scales_size flags =
    if has flags we_have_a_scale then 2 else
    (if has flags we_have_an_x_and_y_scale then 4 else (if has flags we_have_a_two_by_two then 8 else 0))

-- the bytes of a component with these flags: flags, glyph, arguments, scales
abbrev pub component_size : ℕ → ℕ
component_size flags = 4 + args_size flags + scales_size flags

-- an argument, the first (0) or the second (1): whether both are words, and whether they are offsets, which are signed
unfoldable pub argument_by : Bool → Bool → List ℕ → ℕ → ℤ
argument_by true true bytes k = signed_field bytes (2 * k)
argument_by true false bytes k = pos (field 2 bytes (2 * k))
argument_by false true bytes k = cast_signed w8 (slice_index bytes k)
argument_by false false bytes k = pos (slice_index bytes k)

abbrev pub argument_of : ℕ → List ℕ → ℕ → ℤ
argument_of flags bytes k = argument_by (has flags arg_1_and_2_are_words) (has flags args_are_xy_values) bytes k

-- the numbers a, b, c, d, in 2.14, of x' = a x + c y, y' = b x + d y: whether there is one scale, or else two (x and y), or else
-- all four
unfoldable pub scales_by : Bool → Bool → Bool → List ℕ → ℤ × ℤ × ℤ × ℤ
scales_by true two four bytes = (signed_field bytes 0, pos 0, pos 0, signed_field bytes 0)
scales_by false true four bytes = (signed_field bytes 0, pos 0, pos 0, signed_field bytes 2)
scales_by false false true bytes = (signed_field bytes 0, signed_field bytes 2, signed_field bytes 4, signed_field bytes 6)
scales_by false false false bytes = (pos one_in_2_14, pos 0, pos 0, pos one_in_2_14)

abbrev pub scales_of : ℕ → List ℕ → ℤ × ℤ × ℤ × ℤ
scales_of flags bytes =
    scales_by (has flags we_have_a_scale) (has flags we_have_an_x_and_y_scale) (has flags we_have_a_two_by_two) bytes

-- the component that bytes are
unfoldable pub component_of : List ℕ → Component
component_of bytes = with_flags (field 2 bytes 0) (drop 4 bytes) where
  with_scales : ℕ → ℤ × ℤ → ℤ × ℤ × ℤ × ℤ → Component
  with_scales flags args scales = record {
    glyph = field 2 bytes 2;
    args = args;
    flags = flags;
    a = scales.0;
    b = scales.1;
    c = scales.2;
    d = scales.3;
  }

  with_flags : ℕ → List ℕ → Component
  with_flags flags rest = with_scales flags (argument_of flags rest 0, argument_of flags rest 1)
      (scales_of flags (drop (args_size flags) rest))

-- the component at the front of bytes, and the bytes after it
unfoldable pub next_component : List ℕ → Option (Component × List ℕ)
next_component bytes =
    if nat_lt (length bytes) 4 then None
    else (if nat_lt (length bytes) (component_size (field 2 bytes 0)) then None
    else Some (component_of (take (component_size (field 2 bytes 0)) bytes), drop (component_size (field 2 bytes 0)) bytes))

-- whether its arguments are an x and a y offset, else numbers of points
abbrev pub has_offsets : Component → Bool
has_offsets p = has p.flags args_are_xy_values

-- whether its offset is rounded to whole pixels, with hinting on
abbrev pub rounds_offset : Component → Bool
rounds_offset p = has p.flags round_xy_to_grid

-- whether the composite has its metrics
abbrev pub uses_my_metrics : Component → Bool
uses_my_metrics p = has p.flags use_my_metrics

-- whether one more component follows
abbrev pub is_followed : Component → Bool
is_followed p = has p.flags more_components

-- the components at the front of bytes, if one more is to come, up to the last, and the bytes after them; at most `most` of them
unfoldable pub components_from : Bool → ℕ → List ℕ → Option (List Component × List ℕ)
components_from false most bytes = Some ([], bytes)
components_from true zero bytes = None
components_from true (suc most) bytes =
    option_and_then (λ d. with_front d.0 (components_from (is_followed d.0) most d.1)) (next_component bytes)

-- the same of any number: no component is shorter than a byte
abbrev pub components_in : Bool → List ℕ → Option (List Component × List ℕ)
components_in more bytes = components_from more (length bytes) bytes

-- whether a program follows the last component: when any of them announces it
abbrev pub has_program : List Component → Bool
has_program components = list_any (λ p. has p.flags we_have_instructions) components

-- what comes after components: whether a program is announced, and the bytes
abbrev pub ending_of : List Component × List ℕ → Bool × List ℕ
ending_of components = (has_program components.0, components.1)
