use Rattle.std.proofs.Common.{◌≡◌, refl, sym, subst, ℤ, pos, ◌+ℤ◌, ◌*ℤ◌, arith, w32, to_z, of_z}
use Rattle.fx_fixed.proofs.Linear.{signed_linear}
use Rattle.fx_winding.specs.Winding.{span_of}
use Rattle.fx_winding.specs.declared.point.Piece.{Piece}
use Rattle.fx_rows.specs.inner.Points.{IsInner}
use Rattle.fx_rows.specs.inner.Told.{IsEndOn}
use Rattle.fx_rows.proofs.note_up.columns_passed.Goals as goal

pub end_in-end-requires-clause-inner : goal.end_in-end-requires-clause-inner
end_in-end-requires-clause-inner c =
    let row : to_z w32 (of_z w32 c.args.row) ≡ c.args.row = omega (arith, signed_linear, c.requires.row) in
    subst (λ (p : Piece). IsInner p.a.y p.c.y (pos 128 *ℤ (to_z w32 (of_z w32 c.args.row)) +ℤ pos 64))
    (sym c.bounds_of-bounded.ensures.piece)
    (subst (λ (z : ℤ). IsInner c.args.piece.now.a.y c.args.piece.now.c.y (pos 128 *ℤ z +ℤ pos 64)) (sym row) c.requires.inner)

pub returns-clause-passing : goal.returns-clause-passing
returns-clause-passing c =
    let row : to_z w32 (of_z w32 c.args.row) ≡ c.args.row = omega (arith, signed_linear, c.requires.row) in
    record {
      inner = c.requires.inner;
      same = refl;
      is = subst (λ (p : Piece). IsEndOn (span_of p) c.args.frame c.args.row c.end_in-end.result)
          c.bounds_of-bounded.ensures.piece
          (subst (λ (z : ℤ). IsEndOn (span_of c.bounds_of-bounded.result.piece) c.args.frame z c.end_in-end.result) row
          c.end_in-end.ensures.end);
    }
