use Rattle.std.proofs.Common.{◌≡◌, ℕ, List, subst}
use Rattle.std.specs.Prelude.{IsSome}
use Rattle.fx_glyf.specs.Points.{deltas_from}
use Rattle.fx_glyf.proofs.Steps.{came_by, deltas_at, stepped}
use Rattle.fx_glyf.proofs.Held.{delta_held}
use Rattle.fx_glyf.proofs.points.PointsIterator.next.Goals as goal

-- the deltas are there for the flags that are there
first_flag : (short same : ℕ) (fs gs bytes : List ℕ) → fs ≡ gs → IsSome (deltas_from short same fs bytes)
    → IsSome (deltas_from short same gs bytes)
first_flag short same fs gs bytes e h = let P : List ℕ → Type 0 = λ hs. IsSome (deltas_from short same hs bytes) in subst P e h

pub moved-x-requires : goal.moved-x-requires
moved-x-requires c = delta_held _ _ _ _ _ _ c.in-Some.ensures c.self.invariant.0

pub moved-y-requires : goal.moved-y-requires
moved-y-requires c = delta_held _ _ _ _ _ _ c.in-Some.ensures c.self.invariant.1

pub invariant_of-self-2 : goal.invariant_of-self-2
invariant_of-self-2 c =
    let x = first_flag 2 16 _ _ _ c.in-Some.ensures c.self.invariant.0 in
    let y = first_flag 4 32 _ _ _ c.in-Some.ensures c.self.invariant.1 in (
      (stepped _ _ _ (deltas_at _ _ _ _ _ _ _ (came_by _ _ _ _ c.moved-x.ensures).1) x).some,
      (stepped _ _ _ (deltas_at _ _ _ _ _ _ _ (came_by _ _ _ _ c.moved-y.ensures).1) y).some,
    )
