-- What hinting adds to scaling: whether it is on, and what the program of a glyph makes of its points.
use Rattle.std.specs.Prelude.{◌≡◌, ℕ, List, length, Bool, false, Result, Ok}
use Rattle.fx_machine.specs.declared.usage.Usage.{Usage}
use Rattle.fx_machine.specs.Usages.{no_usage}
use Rattle.fx_hint.specs.declared.made.Made.{Made}
use Rattle.fx_hint.specs.declared.fault.HintFault.{HintFault}

-- on: phantom points and rounded offsets are rounded; run: from a glyph, its program and its points, the points after the program
-- and what it used up
pub record Hinting : Type 0 where
  pub on : Bool
  pub run : ℕ → List ℕ → Made → Result (Made × Usage) HintFault

-- hinting off: no program runs
abbrev pub no_hinting : Hinting
no_hinting = record { on = false; run = λ g code made. Ok (made, no_usage) }

-- no program changes the number of points or the contours
abbrev pub KeepsShape : Hinting → Type 0
KeepsShape h =
    (g : ℕ) (code : List ℕ) (made : Made) (ran : Made × Usage) → h.run g code made ≡ Ok ran
    → (length ran.0.zone.points ≡ length made.zone.points) × (ran.0.zone.ends ≡ made.zone.ends)
