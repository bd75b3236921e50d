-- All points of a piece have a property exactly if each one has it: `to_all`, `of_all`.
-- Serves the heights of a piece.
use Rattle.std.proofs.Common.{arith}
use Rattle.fx_winding.specs.Area.{Place}
use Rattle.fx_winding.specs.Outside.{HasAll}
use Rattle.fx_winding.specs.Winding.{Span}
use Rattle.fx_rows.specs.inner.Points.{IsPointOf}

pub to_all : (P : Place → Type 0) (s : Span) → ((q : Place) → IsPointOf q s → P q) → HasAll P s
to_all P s h = grind (arith, h)

pub of_all : (P : Place → Type 0) (s : Span) → HasAll P s → (q : Place) → IsPointOf q s → P q
of_all P s h q i = grind (arith, h, i)
