-- Blocks: what fpgm and prep left, as a list of words of 32 bits, and back.
-- The words of a block are, in this order: its form, the size and what tells the font apart (5); how long its lists are (5); what
-- fpgm and prep used up (4); the graphics state that programs of glyphs begin with (9); the flags (2). Then come the lists: the
-- storage area, the control values, the twilight points (5 words each), the functions and the definitions of opcodes.
use Rattle.std.specs.Prelude.{◌≡◌, ℕ, ◌+◌, ◌*◌, ◌/◌, ◌%◌, ◌^◌, ◌≤◌, ◌==◌, ◌&&◌, nat_lt, nat_le, Bool, true, false, if◌then◌else◌}
use Rattle.std.specs.Prelude.{List, [], ◌∷◌, ◌++◌, length, map, take, drop, slice_index, unsigned_abs, codes, unwrap_or, Option, Some, None}
use Rattle.std.specs.List.{flat_map, list_all}
use Rattle.std.specs.Int.RustNames.{FitsSigned}
use mir.Syntax.{w32}
use Rattle.fx_sfnt.specs.Fields.{number_at}
use Rattle.fx_sfnt.specs.Tables.{Face, table_or_empty}
use Rattle.fx_scale.specs.Scaling.{scale_of}
use Rattle.fx_gstate.specs.declared.scan.ScanType.{ScanType}
use Rattle.fx_gstate.specs.declared.scan.ScanType.TheVariants.{Off, Leftmost, Nearest}
use Rattle.fx_gstate.specs.declared.state.GState.{GState}
use Rattle.fx_gstate.specs.States.{default_state}
use Rattle.fx_machine.specs.Limits.{function_count_of}
use Rattle.fx_machine.specs.declared.state.InstructControl.{InstructControl}
use Rattle.fx_machine.specs.declared.usage.Usage.{Usage}
use Rattle.fx_machine.specs.declared.prepared.Prepared.{Prepared}
use Rattle.fx_machine.specs.declared.sizes.Sizes.{Sizes}
use Rattle.fx_machine.specs.Prepared.{carried}
use Rattle.fx_machine.specs.Known.{Known, controls_of}
use Rattle.fx_machine.specs.Words.{number_word, number_in, bit_of, point_words, points_in, function_word, function_in, is_near}
use Rattle.fx_machine.specs.Words.{AreNumbers, ArePoints}

-- the length of each list that prep left: storage, control values, points of the twilight zone, functions and opcodes
abbrev pub sizes_of : Prepared → Sizes
sizes_of p = record {
  storage = length p.storage;
  cvt = length p.cvt;
  twilight = length p.twilight.points;
  functions = length p.definitions.functions;
  opcodes = length p.definitions.opcodes;
}

-- those of a font
abbrev pub font_sizes : Face → ℕ → Sizes
font_sizes face ppem = record {
  storage = face.maxp.max_storage;
  cvt = length (controls_of face (scale_of face ppem));
  twilight = face.maxp.max_twilight_points;
  functions = function_count_of face.maxp.max_function_defs;
  opcodes = 256;
}

-- ---- from what is known to words

-- "mks", and the version of this form
abbrev pub block_form : ℕ
block_form = 0x6D6B7302

-- the checksum that a font file has in `head`, 0 if that is too short
abbrev pub checksum_of : Face → ℕ
checksum_of face = unwrap_or (number_at 4 (table_or_empty face (codes "head")) 8) 0

abbrev pub origin_words : Face → ℕ → List ℕ
origin_words face ppem = block_form ∷ ppem ∷ checksum_of face ∷ length (table_or_empty face (codes "fpgm"))
    ∷ length (table_or_empty face (codes "prep")) ∷ []

abbrev pub sizes_words : Sizes → List ℕ
sizes_words n = n.storage ∷ n.cvt ∷ n.twilight ∷ n.functions ∷ n.opcodes ∷ []

abbrev pub usage_words : Usage → List ℕ
usage_words u = u.steps / 2 ^ 32 ∷ u.steps % 2 ^ 32 ∷ u.strays / 2 ^ 32 ∷ u.strays % 2 ^ 32 ∷ []

abbrev pub distance_words : GState → List ℕ
distance_words g = number_word g.cut_in ∷ number_word g.minimum_distance ∷ []

abbrev pub width_words : GState → List ℕ
width_words g = number_word g.single_width ∷ number_word g.single_width_cut_in ∷ []

abbrev pub delta_words : GState → List ℕ
delta_words g = number_word g.delta_base ∷ g.delta_shift ∷ []

-- scan control: 0 none, 1 off, 2 on
abbrev pub control_word : Option Bool → ℕ
control_word None = 0
control_word (Some false) = 1
control_word (Some true) = 2

abbrev pub type_word : ScanType → ℕ
type_word Off = 0
type_word Leftmost = 1
type_word Nearest = 2

abbrev pub scan_words : GState → List ℕ
scan_words g = control_word g.scan_control ∷ type_word g.scan_type ∷ []

abbrev pub start_words : GState → List ℕ
start_words g = bit_of g.auto_flip ∷ (distance_words g ++ (width_words g ++ (delta_words g ++ scan_words g)))

abbrev pub flags_words : InstructControl → List ℕ
flags_words f = bit_of f.no_programs ∷ bit_of f.default_state ∷ []

abbrev pub lists_words : Prepared → List ℕ
lists_words p = map number_word p.storage ++ (map number_word p.cvt ++ (flat_map point_words p.twilight.points
    ++ (map function_word p.definitions.functions ++ map function_word p.definitions.opcodes)))

abbrev pub state_words : Prepared → Usage → List ℕ
state_words p u = sizes_words (sizes_of p) ++ (usage_words u ++ (start_words p.graphics ++ (flags_words p.flags ++ lists_words p)))

abbrev pub known_words : Known → List ℕ
known_words known = origin_words known.face known.ppem ++ state_words known.prepared known.prelude

-- ---- and back

-- words begin as those of a font at a size, and the words after that
abbrev pub has_origin : Face → ℕ → List ℕ → Bool
has_origin face ppem ws = slice_index ws 0 == block_form && slice_index ws 1 == ppem && slice_index ws 2 == checksum_of face
    && slice_index ws 3 == length (table_or_empty face (codes "fpgm"))
    && slice_index ws 4 == length (table_or_empty face (codes "prep"))

unfoldable pub after_origin : Face → ℕ → List ℕ → Option (List ℕ)
after_origin face ppem ws = if nat_le 5 (length ws) && has_origin face ppem ws then Some (drop 5 ws) else None

abbrev pub sizes_in : List ℕ → Sizes
sizes_in ws = record {
  storage = slice_index ws 0;
  cvt = slice_index ws 1;
  twilight = slice_index ws 2;
  functions = slice_index ws 3;
  opcodes = slice_index ws 4;
}

abbrev pub usage_in : List ℕ → Usage
usage_in ws = record {
  steps = slice_index ws 5 * 2 ^ 32 + slice_index ws 6;
  strays = slice_index ws 7 * 2 ^ 32 + slice_index ws 8;
}

abbrev pub control_in : ℕ → Option Bool
control_in w = if w == 0 then None else Some (w == 2)

abbrev pub type_in : ℕ → ScanType
type_in w = if w == 1 then Leftmost else if w == 2 then Nearest else Off

abbrev pub start_in : List ℕ → GState
start_in ws = record default_state {
  auto_flip = slice_index ws 9 == 1;
  cut_in = number_in (slice_index ws 10);
  minimum_distance = number_in (slice_index ws 11);
  single_width = number_in (slice_index ws 12);
  single_width_cut_in = number_in (slice_index ws 13);
  delta_base = number_in (slice_index ws 14);
  delta_shift = unsigned_abs (number_in (slice_index ws 15));
  scan_control = control_in (slice_index ws 16);
  scan_type = type_in (slice_index ws 17);
}

abbrev pub flags_in : List ℕ → InstructControl
flags_in ws = record { no_programs = slice_index ws 18 == 1; default_state = slice_index ws 19 == 1 }

-- the words of each list and all after them
abbrev pub storage_words : List ℕ → List ℕ
storage_words ws = drop 20 ws

abbrev pub cvt_words : Sizes → List ℕ → List ℕ
cvt_words n ws = drop n.storage (storage_words ws)

abbrev pub twilight_words : Sizes → List ℕ → List ℕ
twilight_words n ws = drop n.cvt (cvt_words n ws)

abbrev pub functions_words : Sizes → List ℕ → List ℕ
functions_words n ws = drop (5 * n.twilight) (twilight_words n ws)

abbrev pub opcodes_words : Sizes → List ℕ → List ℕ
opcodes_words n ws = drop n.functions (functions_words n ws)

-- what words say, for lists of these sizes
abbrev pub prepared_in : Sizes → List ℕ → Prepared
prepared_in n ws = record {
  storage = map number_in (take n.storage (storage_words ws));
  cvt = map number_in (take n.cvt (cvt_words n ws));
  twilight = record { points = points_in n.twilight (take (5 * n.twilight) (twilight_words n ws)); ends = [] };
  graphics = start_in ws;
  definitions = record {
    functions = map function_in (take n.functions (functions_words n ws));
    opcodes = map function_in (take n.opcodes (opcodes_words n ws));
  };
  flags = flags_in ws;
}

-- the words of each list
pub record AreParts (n : Sizes) (ws storage cvt twilight functions opcodes : List ℕ) : Type 0 where
  pub storage_is : storage ≡ take n.storage (storage_words ws)
  pub cvt_is : cvt ≡ take n.cvt (cvt_words n ws)
  pub twilight_is : twilight ≡ take (5 * n.twilight) (twilight_words n ws)
  pub functions_is : functions ≡ take n.functions (functions_words n ws)
  pub opcodes_is : opcodes ≡ take n.opcodes (opcodes_words n ws)

-- how many words there are after the first five
abbrev pub count_of : Sizes → ℕ
count_of n = 20 + n.storage + n.cvt + 5 * n.twilight + n.functions + n.opcodes

-- words say something for lists of these sizes: the sizes are theirs, there are enough words, and the delta shift is one
pub record SaysAll (n : Sizes) (ws : List ℕ) : Type 0 where
  pub head : 20 ≤ length ws
  pub sizes : sizes_in ws ≡ n
  pub enough : count_of n ≤ length ws
  pub shift : slice_index ws 15 ≤ 6

-- ---- what has a block

-- each list's length and each function has a word
abbrev pub has_words : Prepared → Bool
has_words p = nat_lt (length p.storage) (2 ^ 32) && nat_lt (length p.cvt) (2 ^ 32) && nat_lt (length p.twilight.points) (2 ^ 32)
    && nat_lt (length p.definitions.functions) (2 ^ 32) && nat_lt (length p.definitions.opcodes) (2 ^ 32)
    && list_all is_near p.definitions.functions && list_all is_near p.definitions.opcodes

-- the numbers of a graphics state that programs of glyphs take over have 32 bits, and the shift is one
pub record IsStart (g : GState) : Type 0 where
  pub cut_in : FitsSigned w32 g.cut_in
  pub minimum_distance : FitsSigned w32 g.minimum_distance
  pub single_width : FitsSigned w32 g.single_width
  pub single_width_cut_in : FitsSigned w32 g.single_width_cut_in
  pub delta_base : FitsSigned w32 g.delta_base
  pub delta_shift : g.delta_shift ≤ 6

-- so have all numbers in what prep left
pub record IsNumbered (p : Prepared) : Type 0 where
  pub storage : AreNumbers p.storage
  pub cvt : AreNumbers p.cvt
  pub twilight : ArePoints p.twilight.points
  pub start : IsStart p.graphics

-- it is as prep leaves it: the sizes are those of the font, the twilight zone has no contours, and the graphics state is at its
-- defaults but for what programs of glyphs take over
pub record IsOfFont (face : Face) (ppem : ℕ) (p : Prepared) : Type 0 where
  pub sizes : sizes_of p ≡ font_sizes face ppem
  pub ends : p.twilight.ends ≡ []
  pub carried : carried p.graphics ≡ p.graphics

-- a block is that of what is known
pub record IsBlockOf (known : Known) (block : List ℕ) : Type 0 where
  pub of_font : IsOfFont known.face known.ppem known.prepared
  pub numbered : IsNumbered known.prepared
  pub rest : List ℕ
  pub block_is : block ≡ known_words known ++ rest
