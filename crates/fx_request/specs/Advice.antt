-- What to do after a refusal.
use Rattle.std.specs.Prelude.{◌≡◌, ℕ, List, codes, Option, Some, is_some}
use Rattle.fx_machine.specs.declared.halt.Cause.{Cause}
use Rattle.fx_machine.specs.declared.halt.Cause.TheVariants as cause
use Rattle.fx_request.specs.declared.refusal.Refusal.{Refusal}
use Rattle.fx_request.specs.declared.refusal.Refusal.TheVariants as refusal
use Rattle.fx_request.specs.Refusals.{named, number_of, said_of}

-- what to do about a program that halted for a cause
abbrev pub after_halt : Cause → List ℕ
after_halt cause.StackUnder = codes "push enough numbers before this instruction: each program begins with an empty stack"
after_halt cause.StackOver = codes "raise maxStackElements in maxp"
after_halt cause.BadOpcode = codes "remove the instruction, or define its opcode with an IDEF"
after_halt cause.CodeEnd = codes "complete the program: it is truncated, or an EIF or ENDF is missing"
after_halt cause.BadJump = codes "fix the jump's offset; a jump to the end of the program is allowed"
after_halt cause.NoFunction = codes "define the function in fpgm or prep, or fix its number"
after_halt cause.CallDepth = codes "end the recursion, or nest fewer calls"
after_halt cause.StepLimit = codes "look for an endless loop around this address"
after_halt cause.DivideByZero = codes "test the divisor first"
after_halt cause.BadArgument = codes "fix the number that was pushed for this instruction"
after_halt cause.NestedDefinition = codes "end the first definition with ENDF"
after_halt cause.StrayEnd = codes "remove the ENDF, or end the function with one"

-- what to do after a refusal
abbrev pub advice_of : Refusal → List ℕ
advice_of refusal.NotTrueType = codes "give a TrueType font; CFF outlines (OTTO) are not read"
advice_of (refusal.TableMissing _) = codes "the font is damaged, or has no TrueType outlines"
advice_of (refusal.TableShort _) = codes "the file is truncated"
advice_of refusal.BadHead = codes "the font is damaged"
advice_of refusal.BadMaxp = codes "the font is damaged"
advice_of refusal.NoCharMap = codes "the font needs a Unicode character map: add a cmap subtable of format 4 or 12"
advice_of refusal.BadCharMap = codes "the font is damaged"
advice_of (refusal.BadLoca _) = codes "leave out the characters that use this glyph"
advice_of (refusal.GlyphShort _) = codes "leave out the characters that use this glyph"
advice_of (refusal.BadContours _) = codes "leave out the characters that use this glyph"
advice_of (refusal.ComponentDepth _) = codes "leave out the characters that use this glyph"
advice_of (refusal.TooManyComponents _) = codes "leave out the characters that use this glyph"
advice_of (refusal.TooManyPoints _) = codes "leave out the characters that use this glyph"
advice_of (refusal.BadPointMatch _) = codes "leave out the characters that use this glyph"
advice_of (refusal.BadGlyphNumber _) = codes "give a number below the number of glyphs; if you gave none, the font is damaged"
advice_of refusal.NoFace = codes "give a number below the number of faces; a file that is not a collection has only face 0"
advice_of (refusal.Halted halt) = after_halt halt.cause
advice_of (refusal.TooFar _) = codes "use a smaller size"
advice_of (refusal.GlyphTooLarge _) = codes "use a smaller size"
advice_of refusal.TooMuchWork = codes "if you trust the font, leave --careful out"
advice_of refusal.BadSize = codes "give a size from 1 to 1024"
advice_of refusal.BadChars = codes "give hexadecimal numbers and ranges joined by commas, such as 20-7e,a0"
advice_of refusal.BadName = codes "give a name of 1 to 255 printable ASCII characters, no space first or last"
advice_of (refusal.BadProperty _) = codes "give another name, another text of printable ASCII characters, or fewer properties"
advice_of (refusal.WriteFailed _) = codes "free disk space, or check the program that reads the output, and try again"
advice_of refusal.ReadFailed = codes "check the device or pipe that the input comes from"
advice_of refusal.BadHex = codes "give the font without --hex, or as the text that xxd -p prints"
advice_of refusal.InputTooLarge = codes "use a font file of at most 64 MiB"
advice_of refusal.OutOfMemory = codes "free memory, or ask for fewer characters or a smaller size"

-- what to do after the refusals that have a number, if there are any
unfoldable pub advised : ℕ → Option (List ℕ)
advised number = said_of advice_of after_halt number

-- the laws: it is what to do after each refusal that has the number, and a number has advice exactly if it has a name
abbrev pub NumbersHaveAdvice : Type 0
NumbersHaveAdvice = (r : Refusal) → advised (number_of r) ≡ Some (advice_of r)

abbrev pub AdvisedAreNamed : Type 0
AdvisedAreNamed = (number : ℕ) → is_some (advised number) ≡ is_some (named number)
