-- The numbers, names and locations of the refusals.
use Rattle.std.specs.Prelude.{◌≡◌, ℕ, ◌==◌, List, [], ◌∷◌, codes, Option, Some, option_map}
use Rattle.std.specs.List.{find}
use Rattle.std.specs.Option.{option_or}
use Rattle.fx_machine.specs.Causes as causes
use Rattle.fx_machine.specs.declared.halt.Cause.{Cause}
use Rattle.fx_machine.specs.declared.halt.Cause.TheVariants as cause
use Rattle.fx_request.specs.declared.location.Location.{Location}
use Rattle.fx_request.specs.declared.location.Location.TheVariants.{Nowhere, Table, Glyph, Property, Bytes, Halt}
use Rattle.fx_request.specs.declared.refusal.Refusal.{Refusal}
use Rattle.fx_request.specs.declared.refusal.Refusal.TheVariants as refusal

-- a refusal's number, name and location; the number and the name of a halt are its cause's
abbrev pub entry_of : Refusal → ℕ × List ℕ × Location
entry_of refusal.NotTrueType = (10, codes "NotTrueType", Nowhere)
entry_of (refusal.TableMissing tag) = (11, codes "TableMissing", Table tag)
entry_of (refusal.TableShort tag) = (12, codes "TableShort", Table tag)
entry_of refusal.BadHead = (13, codes "BadHead", Nowhere)
entry_of refusal.BadMaxp = (14, codes "BadMaxp", Nowhere)
entry_of refusal.NoCharMap = (15, codes "NoCharMap", Nowhere)
entry_of refusal.BadCharMap = (16, codes "BadCharMap", Nowhere)
entry_of (refusal.BadLoca g) = (17, codes "BadLoca", Glyph g)
entry_of (refusal.GlyphShort g) = (18, codes "GlyphShort", Glyph g)
entry_of (refusal.BadContours g) = (19, codes "BadContours", Glyph g)
entry_of (refusal.ComponentDepth g) = (20, codes "ComponentDepth", Glyph g)
entry_of (refusal.TooManyComponents g) = (21, codes "TooManyComponents", Glyph g)
entry_of (refusal.TooManyPoints g) = (22, codes "TooManyPoints", Glyph g)
entry_of (refusal.BadPointMatch g) = (23, codes "BadPointMatch", Glyph g)
entry_of (refusal.BadGlyphNumber g) = (24, codes "BadGlyphNumber", Glyph g)
entry_of refusal.NoFace = (25, codes "NoFace", Nowhere)
entry_of (refusal.Halted halt) = (causes.number_of halt.cause, causes.name_of halt.cause, Halt halt)
entry_of (refusal.TooFar g) = (51, codes "TooFar", Glyph g)
entry_of (refusal.GlyphTooLarge g) = (52, codes "GlyphTooLarge", Glyph g)
entry_of refusal.TooMuchWork = (53, codes "TooMuchWork", Nowhere)
entry_of refusal.BadSize = (60, codes "BadSize", Nowhere)
entry_of refusal.BadChars = (61, codes "BadChars", Nowhere)
entry_of refusal.BadName = (62, codes "BadName", Nowhere)
entry_of (refusal.BadProperty i) = (63, codes "BadProperty", Property i)
entry_of (refusal.WriteFailed n) = (70, codes "WriteFailed", Bytes n)
entry_of refusal.ReadFailed = (71, codes "ReadFailed", Nowhere)
entry_of refusal.BadHex = (72, codes "BadHex", Nowhere)
entry_of refusal.InputTooLarge = (73, codes "InputTooLarge", Nowhere)
entry_of refusal.OutOfMemory = (90, codes "OutOfMemory", Nowhere)

abbrev pub number_of : Refusal → ℕ
number_of r = (entry_of r).0

abbrev pub name_of : Refusal → List ℕ
name_of r = (entry_of r).1

abbrev pub location_of : Refusal → Location
location_of r = (entry_of r).2

-- ---- the names by their numbers

-- one of each refusal but the halts
abbrev pub each_refusal : List Refusal
each_refusal =
    refusal.NotTrueType ∷ refusal.TableMissing (codes "glyf") ∷ refusal.TableShort (codes "glyf") ∷ refusal.BadHead ∷
    refusal.BadMaxp ∷ refusal.NoCharMap ∷ refusal.BadCharMap ∷ refusal.BadLoca 0 ∷ refusal.GlyphShort 0 ∷
    refusal.BadContours 0 ∷ refusal.ComponentDepth 0 ∷ refusal.TooManyComponents 0 ∷ refusal.TooManyPoints 0 ∷
    refusal.BadPointMatch 0 ∷ refusal.BadGlyphNumber 0 ∷ refusal.NoFace ∷ refusal.TooFar 0 ∷ refusal.GlyphTooLarge 0 ∷
    refusal.TooMuchWork ∷ refusal.BadSize ∷ refusal.BadChars ∷ refusal.BadName ∷ refusal.BadProperty 1 ∷
    refusal.WriteFailed 0 ∷ refusal.ReadFailed ∷ refusal.BadHex ∷ refusal.InputTooLarge ∷ refusal.OutOfMemory ∷ []

-- each cause of a halt
abbrev pub each_cause : List Cause
each_cause =
    cause.StackUnder ∷ cause.StackOver ∷ cause.BadOpcode ∷ cause.CodeEnd ∷ cause.BadJump ∷ cause.NoFunction ∷
    cause.CallDepth ∷ cause.StepLimit ∷ cause.DivideByZero ∷ cause.BadArgument ∷ cause.NestedDefinition ∷ cause.StrayEnd ∷ []

-- the first of refusals, and the first of causes, that has a number
abbrev pub refusal_among : List Refusal → ℕ → Option Refusal
refusal_among refusals number = find (λ r. number_of r == number) refusals

abbrev pub cause_among : List Cause → ℕ → Option Cause
cause_among all number = find (λ c. causes.number_of c == number) all

-- of the refusals that have a number, those of halts too, what is said of each, if there are any
abbrev pub said_of : {X : Type 0} → (Refusal → X) → (Cause → X) → ℕ → Option X
said_of of_refusal of_cause number = option_or (option_map of_refusal (refusal_among each_refusal number))
    (option_map of_cause (cause_among each_cause number))

-- their name
unfoldable pub named : ℕ → Option (List ℕ)
named number = said_of name_of causes.name_of number

-- the law: it is the name of each refusal that has the number
abbrev pub NumbersHaveNames : Type 0
NumbersHaveNames = (r : Refusal) → named (number_of r) ≡ Some (name_of r)
