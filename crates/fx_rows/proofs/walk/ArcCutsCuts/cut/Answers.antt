use Rattle.fx_winding.specs.Winding.{span_of}
use Rattle.fx_rows.proofs.Counting.{bends, first_part, last_part, arc_end}
use Rattle.fx_rows.proofs.walk.ArcCutsCuts.cut.Goals as goal

pub to_end-self-requires-clause-first : goal.to_end-self-requires-clause-first
to_end-self-requires-clause-first c =
    let s = span_of c.args.bounded.now.piece in
    let arc = c.requires.at.arc in
    first_part s.a s.b s.c _ c.args.strip (bends s.a s.b s.c _ c.args.strip arc.bent c.requires.inner arc.turned)

pub on_end-requires-clause-only : goal.on_end-requires-clause-only
on_end-requires-clause-only c = λ k l on.
    let s = span_of c.args.bounded.now.piece in
    let arc = c.requires.at.arc in
    last_part s.a s.b s.c _ c.args.strip _ (bends s.a s.b s.c _ c.args.strip arc.bent c.requires.inner arc.turned)
    c.to_end-self.ensures.end k l on

pub returns-clause-cut : goal.returns-clause-cut
returns-clause-cut c =
    let s = span_of c.args.bounded.now.piece in
    let arc = c.requires.at.arc in
    record {
      end = arc_end s _ c.args.strip _ (bends s.a s.b s.c _ c.args.strip arc.bent c.requires.inner arc.turned)
          c.to_end-self.ensures.end c.to_end-self.ensures.within c.requires.inner;
      on = c.on_end.ensures.on;
    }
