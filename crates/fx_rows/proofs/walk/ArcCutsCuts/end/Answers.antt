use Rattle.fx_winding.specs.Winding.{span_of}
use Rattle.fx_rows.proofs.Counting.{bends, first_part, arc_end}
use Rattle.fx_rows.proofs.walk.ArcCutsCuts.end.Goals as goal

pub to_end-self-requires-clause-first : goal.to_end-self-requires-clause-first
to_end-self-requires-clause-first c =
    let s = span_of c.args.bounded.now.piece in
    let arc = c.requires.at.arc in
    first_part s.a s.b s.c _ c.args.strip (bends s.a s.b s.c _ c.args.strip arc.bent c.requires.inner arc.turned)

pub returns-clause-end : goal.returns-clause-end
returns-clause-end c =
    let s = span_of c.args.bounded.now.piece in
    let arc = c.requires.at.arc in
    arc_end s _ c.args.strip _ (bends s.a s.b s.c _ c.args.strip arc.bent c.requires.inner arc.turned)
    c.to_end-self.ensures.end c.to_end-self.ensures.within c.requires.inner
