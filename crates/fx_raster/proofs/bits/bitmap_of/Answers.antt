use Rattle.std.proofs.Common.{map}
use Rattle.fx_winding.specs.Winding.{span_of}
use Rattle.fx_raster.proofs.Bitmaps.{scanned_bits, bridged_bits, framed_margin, empty_bits}
use Rattle.fx_raster.proofs.bits.bitmap_of.Goals as goal

pub returns-in_default : goal.returns-in_default
returns-in_default g c = empty_bits (map span_of c.args.pieces.now) _ c.args.rule c.empty_bitmap.ensures
    (rw c.in_default.is at c.requires.framed) (rw c.in_default.is at c.requires.outside) c.requires.closed

pub returns-in-Centres : goal.returns-in-Centres
returns-in-Centres g c = scanned_bits _ (map span_of c.args.pieces.now) _ c.args.rule c.in-Centres.is c.scanned.ensures
    (rw c.in-Some.is at c.requires.framed) (rw c.in-Some.is at c.requires.outside) c.requires.closed

pub bridged-requires-clause-margin : goal.bridged-requires-clause-margin
bridged-requires-clause-margin g c =
    framed_margin c.in-Bridged.closing _ (map span_of c.args.pieces.now) c.args.rule c.in-Bridged.is
    (rw c.in-Some.is at c.requires.framed)

pub bridged-requires-clause-outside : goal.bridged-requires-clause-outside
bridged-requires-clause-outside g c = (rw c.in-Some.is at c.requires.outside) c.requires.closed

pub returns-in-Bridged : goal.returns-in-Bridged
returns-in-Bridged g c =
    bridged_bits c.in-Bridged.closing _ (map span_of c.args.pieces.now) _ c.args.rule c.in-Bridged.is c.bridged.ensures
    (rw c.in-Some.is at c.requires.framed) (rw c.in-Some.is at c.requires.outside) c.requires.closed
