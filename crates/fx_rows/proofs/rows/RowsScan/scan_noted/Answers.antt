use Rattle.std.proofs.Common.{sym, subst, map}
use Rattle.fx_winding.specs.declared.frame.Frame.{Frame}
use Rattle.fx_winding.specs.declared.notes.Notes.{Notes}
use Rattle.fx_winding.specs.Winding.{span_of}
use Rattle.fx_rows.specs.inner.Placing.{IsApart}
use Rattle.fx_rows.specs.inner.Telling.{AreMetBySome, AreNotedIn, BitsSay, of_pieces}
use Rattle.fx_rows.proofs.Telling.{all_among, exact_of}
use Rattle.fx_rows.proofs.rows.RowsScan.scan_noted.Goals as goal

pub returns-clause-noted : goal.returns-clause-noted
returns-clause-noted c =
    let n = c.scan_noting.new.noter.notes in
    let ss = map span_of c.args.pieces.now in
    let none =
    subst (λ (m : Notes). AreMetBySome m.frame m.across.items m.up.items ss) (sym c.of-noter.ensures)
    (c.in_ok-notes.ensures.none ss) in
    exact_of (IsApart c.args.frame) c.args.frame n.across.items n.up.items ss
    (subst (λ (f : Frame). AreNotedIn (BitsSay (IsApart f) f n.across.items n.up.items) ss c.args.frame.height)
    c.scan_noting.ensures.of c.in_ok-bitmap.ensures.noted)
    (subst (λ (f : Frame). AreMetBySome f n.across.items n.up.items ss) c.scan_noting.ensures.of
    (c.scan_noting.ensures.kept (of_pieces ss) (all_among ss) none))
