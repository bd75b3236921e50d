-- Faults of outlines and shapes as refusals, and what code returns that may run out of memory.
use Rattle.std.specs.Prelude.{◌≡◌, ℕ, Result, Err}
use Rattle.fx_hint.specs.declared.fault.HintFault.{HintFault}
use Rattle.fx_hint.specs.declared.fault.HintFault.TheVariants as hint
use Rattle.fx_raster.specs.Faults.{RasterFault}
use Rattle.fx_raster.specs.Faults as raster
use Rattle.fx_request.specs.declared.refusal.Refusal.{Refusal}
use Rattle.fx_request.specs.declared.refusal.Refusal.TheVariants.{ComponentDepth, TooManyComponents, TooManyPoints, BadPointMatch}
use Rattle.fx_request.specs.declared.refusal.Refusal.TheVariants.{Halted, TooFar, GlyphTooLarge, WriteFailed}
use Rattle.fx_request.specs.declared.refusal.Refusal.TheVariants.{ReadFailed, BadHex, InputTooLarge, OutOfMemory}
use Rattle.fx_request.specs.Faults.{of_font, of_glyph}

-- an outline's fault
abbrev pub of_hint : HintFault → Refusal
of_hint (hint.Font fault) = of_font fault
of_hint (hint.Glyph fault) = of_glyph fault
of_hint (hint.ComponentDepth g) = ComponentDepth g
of_hint (hint.TooManyComponents g) = TooManyComponents g
of_hint (hint.TooManyPoints g) = TooManyPoints g
of_hint (hint.BadPointMatch g) = BadPointMatch g
of_hint (hint.Halted halt) = Halted halt
of_hint hint.OutOfMemory = OutOfMemory

-- a fault of a glyph's shape
abbrev pub of_raster : ℕ → RasterFault → Refusal
of_raster glyph raster.TooFar = TooFar glyph
of_raster glyph raster.TooLarge = GlyphTooLarge glyph
of_raster glyph raster.OutOfMemory = OutOfMemory

-- a refusal on the way to a value: out of memory, or the cause that is due; never one of the writer, the reader or the input
abbrev pub Fails : {Y : Type 0} → Refusal → Result Y Refusal → Type 0
Fails OutOfMemory due = Unit {0}
Fails (WriteFailed n) due = ⊥
Fails ReadFailed due = ⊥
Fails BadHex due = ⊥
Fails InputTooLarge due = ⊥
Fails refusal due = due ≡ Err refusal
