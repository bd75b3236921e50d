-- What is told and noted of pieces while they are added to the rows of a band.
use Rattle.std.specs.Prelude.{◌≡◌, ℕ, zero, suc, ◌+◌, ◌*◌, ◌^◌, ◌≤◌, ◌<◌, ℤ, pos, ◌+ℤ◌, List, All, map, length, get_or}
use Rattle.fx_winding.specs.declared.frame.Frame.{Frame}
use Rattle.fx_winding.specs.Bitmaps.{words_for, word_bit}
use Rattle.fx_winding.specs.Notes.{pixel_number, IsNotedAcross, IsNotedUp}
use Rattle.fx_winding.specs.Limits.{most_pieces}
use Rattle.fx_winding.specs.Near.{IsNear}
use Rattle.fx_winding.specs.Winding.{Span, span_of}
use Rattle.fx_winding.specs.declared.point.Piece.{Piece}
use Rattle.fx_rows.specs.declared.band.Band.{Band}
use Rattle.fx_rows.specs.inner.Bands.{IsBandAdded, IsClear}
use Rattle.fx_rows.specs.inner.Heights.{height_of}
use Rattle.fx_rows.specs.inner.Lines.{IsMetToUnlessOn}
use Rattle.fx_rows.specs.inner.Points.{IsInner}
use Rattle.fx_rows.specs.inner.Sums.{AreWithin}
use Rattle.fx_rows.specs.inner.Told.{IsEnd}
use Rattle.fx_rows.specs.inner.Lines.{IsMetUnlessOn}

-- where the columns of a row end that are left of the piece is told
pub record IsRowTold (IsTold : ℕ → ℕ → Type 0) (s : Span) (f : Frame) (r : ℕ) : Type 0 where
  pub end : ℕ
  pub told : IsTold r end
  pub is : IsEnd s f r end

-- the same of those rows of a frame from one to before another that are between the ends of the piece
pub record AreRowsTold (IsTold : ℕ → ℕ → Type 0) (s : Span) (f : Frame) (from to : ℕ) : Type 0 where
  pub rows : (r : ℕ) → from ≤ r → r < to → IsInner s.a.y s.c.y (height_of f r) → IsRowTold IsTold s f r

-- what a piece adds to the rows of a band from one to before another, and that it is told where its columns end in them
pub record AreRowsAdded (IsTold : ℕ → ℕ → Type 0) (s : Span) (from to : ℕ) (old new : Band) : Type 0 where
  pub frame : new.frame ≡ old.frame
  pub added : IsBandAdded s old.frame from to old new
  pub told : AreRowsTold IsTold s old.frame from to

-- g is the rows of a frame from one to before another
pub record IsPartOf (f : Frame) (from to : ℕ) (g : Frame) : Type 0 where
  pub left : g.left ≡ f.left
  pub bottom : g.bottom ≡ f.bottom +ℤ pos from
  pub width : g.width ≡ f.width
  pub height : from + g.height ≡ to
  pub within : to ≤ f.height

-- the segments across a row, and those up to it
pub data Way : Type 0 where
  across_row : Way
  up_to_row : Way

-- what can be said of notes: the frame of which segments are noted; that one of some pieces meets each that is noted within it;
-- that those are noted that a piece meets across a row of the plane; the same across a row of the frame, or up to it. The number
-- after the highest row's stands for those up from that.
pub data Saying : Type 0 where
  of_frame : Frame → Saying
  of_pieces : List Span → Saying
  met_in : Span → ℤ → Saying
  noted : Span → Way → ℕ → Saying

-- the rows of a frame before one are noted in both ways, and if there are any, the segments up to that one
pub record AreRowsNoted (Says : Saying → Type 0) (s : Span) (to : ℕ) : Type 0 where
  pub across : (r : ℕ) → r < to → Says (noted s across_row r)
  pub up : 0 < to → (r : ℕ) → r ≤ to → Says (noted s up_to_row r)

-- the same of each piece
abbrev pub AreNotedIn : (Saying → Type 0) → List Span → ℕ → Type 0
AreNotedIn Says ss to = All (λ s. AreRowsNoted Says s to) ss

-- a band without anything added, which is some rows of a frame, comes next for the pieces of a list: these are noted in the rows
-- below it
pub record IsNext (Says : Saying → Type 0) (pieces : List Piece) (f : Frame) (from to : ℕ) (b : Band) : Type 0 where
  pub few : length pieces ≤ most_pieces
  pub near : All IsNear pieces
  pub clear : IsClear b
  pub part : IsPartOf f from to b.frame
  pub some : from < to
  pub of : Says (of_frame f)
  pub before : AreNotedIn Says (map span_of pieces) from

-- a number of tests that are made for the first row alone
abbrev pub with_first : ℕ → ℕ → ℕ
with_first zero n = n
with_first (suc r) n = 0

-- the segments of a frame's row that a piece meets have their bits in its notes
abbrev pub IsNotedBy : Frame → List ℕ → List ℕ → Span → Way → ℕ → Type 0
IsNotedBy f across up s across_row r = r < f.height → IsNotedAcross s f across r
IsNotedBy f across up s up_to_row r = r ≤ f.height → IsNotedUp s f up r

-- a piece is one of some
pub record IsAmong (s : Span) (ss : List Span) : Type 0 where
  pub at : ℕ
  pub inside : at < length ss
  pub is : get_or ss at s ≡ s

-- one of some pieces meets the segment across a row that goes to a column, unless an end of that is on this piece
pub record IsMetByOne (ss : List Span) (f : Frame) (r k : ℕ) : Type 0 where
  pub piece : Span
  pub among : IsAmong piece ss
  pub met : IsMetToUnlessOn piece f (f.bottom +ℤ pos r) k

-- the same of the segment up to a row in a column
pub record IsMetUpByOne (ss : List Span) (f : Frame) (r k : ℕ) : Type 0 where
  pub piece : Span
  pub among : IsAmong piece ss
  pub met : IsMetUnlessOn piece f r k

-- the bits are of a frame's segments, of such as one of some pieces meets
abbrev pub AreMetAcross : Frame → List ℕ → List Span → Type 0
AreMetAcross f across ss = (r k : ℕ) → k < 32 * words_for f.width → word_bit across (pixel_number f r k) ≡ 1
    → (k ≤ f.width) × IsMetByOne ss f r k

abbrev pub AreMetUp : Frame → List ℕ → List Span → Type 0
AreMetUp f up ss = (r k : ℕ) → k < 32 * words_for f.width → word_bit up (pixel_number f r k) ≡ 1
    → (k < f.width) × IsMetUpByOne ss f r k

pub record AreMetBySome (f : Frame) (across up : List ℕ) (ss : List Span) : Type 0 where
  pub rows : AreMetAcross f across ss
  pub columns : AreMetUp f up ss

-- what the bits of a frame's segments say: with one row of a piece that is noted apart, they say all
abbrev pub BitsSay : (Span → Way → Type 0) → Frame → List ℕ → List ℕ → Saying → Type 0
BitsSay IsApart f across up (of_frame g) = f ≡ g
BitsSay IsApart f across up (of_pieces ss) = AreMetBySome f across up ss
BitsSay IsApart f across up (met_in s row) =
    (r : ℕ) → r < f.height → f.bottom +ℤ pos r ≡ row → IsNotedAcross s f across r
BitsSay IsApart f across up (noted s w r) =
    IsNotedBy f across up s w r × (IsApart s w → (q : ℕ) → IsNotedBy f across up s w q)

-- what is said stays true while a piece is noted: all but that one of some pieces meets each segment, unless it is one of them
abbrev pub Lasts : Span → Saying → Type 0
Lasts s (of_frame f) = Unit {0}
Lasts s (of_pieces ss) = IsAmong s ss
Lasts s (met_in t row) = Unit {0}
Lasts s (noted t w r) = Unit {0}

-- what was said of notes is so still
abbrev pub Keeps : (Saying → Type 0) → (Saying → Type 0) → Type 0
Keeps Old New = (x : Saying) → Old x → New x

-- what lasts is so still, after a piece was noted
abbrev pub KeepsFor : Span → (Saying → Type 0) → (Saying → Type 0) → Type 0
KeepsFor s Old New = (x : Saying) → Lasts s x → Old x → New x

-- the same after some pieces were
abbrev pub KeepsAfter : List Span → (Saying → Type 0) → (Saying → Type 0) → Type 0
KeepsAfter ss Old New = (x : Saying) → All (λ s. Lasts s x) ss → Old x → New x

-- some pieces were noted in the rows before one: they are noted there, and what lasts is so still
pub record NotesPieces (ss : List Span) (to : ℕ) (Old New : Saying → Type 0) : Type 0 where
  pub kept : KeepsAfter ss Old New
  pub noted : AreNotedIn New ss to

-- a band is some rows of the frame of which segments are noted
pub record IsBandOf (Says : Saying → Type 0) (g : Frame) : Type 0 where
  pub frame : Frame
  pub from : ℕ
  pub to : ℕ
  pub of : Says (of_frame frame)
  pub part : IsPartOf frame from to g

-- the rows of a band from one to before another take a piece next: its differences are small enough
pub record AreNextRows (Says : Saying → Type 0) (band : Band) (from to : ℕ) : Type 0 where
  pub within : to ≤ band.frame.height
  pub small : AreWithin (2 ^ 25 + 4 * from) band.diff.items
  pub of : IsBandOf Says band.frame

-- what a piece adds to the rows of a band from one to before another; the segments that it meets across them are noted, and what
-- was told and said is so still
pub record AreMetAdded (T U : ℕ → ℕ → Type 0) (Old New : Saying → Type 0) (s : Span) (from to : ℕ) (old new : Band) : Type 0 where
  pub frame : new.frame ≡ old.frame
  pub added : IsBandAdded s old.frame from to old new
  pub told : (r n : ℕ) → T r n → U r n
  pub kept : KeepsFor s Old New
  pub met : (r : ℕ) → from ≤ r → r < to → New (met_in s (old.frame.bottom +ℤ pos r))
