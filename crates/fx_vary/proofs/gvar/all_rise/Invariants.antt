use Rattle.std.proofs.Common.{◌≡◌, ◌-◌}
use Rattle.fx_axes.specs.Sweeps.{all_from}
use Rattle.fx_vary.specs.Gvar.{rises}
use Rattle.fx_vary.proofs.gvar.all_rise.Given as goal

-- the data of all glyphs before g rise
abbrev pub invariant-glyphs : goal.invariant-glyphs
invariant-glyphs l = all_from (rises l.gvar) l.g (l.glyphs - l.g) ≡ all_from (rises l.gvar) 0 l.glyphs
