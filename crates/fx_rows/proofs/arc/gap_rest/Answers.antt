use Rattle.std.proofs.Common.{◌≡◌, ℕ, ◌<◌, pos, sym, subst, arith, w32, to_z, of_z}
use Rattle.fx_fixed.specs.Ranges.{IsWithin}
use Rattle.fx_winding.specs.Winding.{span_of, region, IsOn}
use Rattle.fx_rows.specs.inner.Arcs.{IsSign}
use Rattle.fx_rows.specs.inner.Sides.{place_at}
use Rattle.fx_rows.proofs.Contacts.{none_on}
use Rattle.fx_rows.proofs.Regions.{none_unless, core, ends, sign_known, sign_is_small}
use Rattle.fx_rows.proofs.Values.{kept_within}
use Rattle.fx_rows.proofs.arc.gap_rest.Goals as goal

pub region_cells-requires-clause-small : goal.region_cells-requires-clause-small
region_cells-requires-clause-small c =
    let small = sign_is_small _ _ c.requires.value in subst (IsWithin 1) (sym (kept_within w32 _ small (omega arith))) small

pub region_cells-requires-clause-value : goal.region_cells-requires-clause-value
region_cells-requires-clause-value c =
    let v : to_z w32 (of_z w32 c.args.value) ≡ c.args.value =
    kept_within w32 _ (sign_is_small _ _ c.requires.value) (omega arith) in
    sign_known (span_of c.args.piece.now) _ c.requires.bent (subst (IsSign (span_of c.args.piece.now)) (sym v) c.requires.value)

pub returns-in-None : goal.returns-in-None
returns-in-None c =
    let s = span_of c.args.piece.now in
    let none : (k : ℕ) → k < c.args.strip.stop
    → (region (place_at c.args.strip k) s ≡ pos 0) × (¬ (IsOn (place_at c.args.strip k) s)) =
    λ k l. none_unless s c.args.strip c.args.gaps c.args.sided c.requires.bent c.requires.gaps c.requires.sided k l
    (c.in-None.ensures k) in
    record { region = λ k l. (none k l).0; on = none_on s c.args.strip (λ k l. (none k l).1) }

pub returns-in-Some : goal.returns-in-Some
returns-in-Some c =
    let s = span_of c.args.piece.now in
    let v : to_z w32 (of_z w32 c.args.value) ≡ c.args.value =
    kept_within w32 _ (sign_is_small _ _ c.requires.value) (omega arith) in
    record {
      region = c.region_cells.ensures _ _ (core s c.args.strip c.args.gaps c.args.sided c.in-Some.columns _
          c.is_zero-first.result c.is_zero-last.result c.requires.bent c.requires.gaps c.requires.sided
          (subst (IsSign s) (sym v) c.requires.value) c.in-Some.ensures c.is_zero-first.ensures c.is_zero-last.ensures);
      on = c.on_ends.ensures s (ends s c.args.strip c.args.gaps c.args.sided c.in-Some.columns
          c.is_zero-first.result c.is_zero-last.result c.requires.bent c.requires.gaps c.requires.sided
          c.in-Some.ensures c.is_zero-first.ensures c.is_zero-last.ensures);
    }
