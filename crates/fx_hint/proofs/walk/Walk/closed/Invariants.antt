use Rattle.std.proofs.Common.{◌≡◌, [], None}
use Rattle.fx_hint.specs.Kept.{IsKeptFor}
use Rattle.fx_hint.specs.Limits.{max_depth}
use Rattle.fx_hint.specs.Shapes.{shapes_of}
use Rattle.fx_hint.specs.inner.Steps.{opened}
use Rattle.fx_hint.specs.inner.RunSteps.{logged_left}
use Rattle.fx_hint.specs.inner.Standing.{IsCounted, Stands, steps_left}
use Rattle.fx_hint.proofs.walk.Walk.closed.Given as goal

-- what the root gives by the steps that are left, after the programs that ran, is what it gives
abbrev pub invariant-steps : goal.invariant-steps
invariant-steps g l = record {
  known : g.H.Hinter.known l.hinter ≡ g.H.Hinter.known l.fn.hinter;
  kept : g.H.Hinter.hinting l.hinter ≡ g.H.Hinter.hinting l.fn.hinter;
  held : IsKeptFor g.H.Hinter.Leads (g.H.Hinter.hinting l.fn.hinter) l.kept;
  stands : Stands g.H.Hinter.Leads (g.H.Hinter.hinting l.fn.hinter) (shapes_of l.self.font.now) l.self.scale.now l.self.root
      l.fn.hinter l.hinter l.below l.open l.count
      (logged_left (g.H.Hinter.hinting l.fn.hinter) (shapes_of l.self.font.now) l.self.scale.now l.self.root max_depth
      (opened (record { component = None; g = l.self.root }) l.fn.glyph l.fn.made) (l.fn.count, []));
  counted : IsCounted l.below l.open.before l.open.base l.count;
}

abbrev pub decreases-steps : goal.decreases-steps
decreases-steps g l = steps_left l.below l.count
