use Rattle.std.proofs.Common.{refl}
use Rattle.fx_winding.specs.Winding.{span_of}
use Rattle.fx_rows.proofs.Narrows.{sided_right, turned_bent}
use Rattle.fx_rows.proofs.narrow.right_side.Goals as goal

pub returns : goal.returns
returns c =
    let s = span_of c.args.piece.now in
    sided_right s c.args.strip c.args.edge _ (turned_bent s.a s.b s.c _ c.requires.slanted c.requires.turned) c.requires.turned
    c.requires.edge c.requires.slanted refl refl refl
