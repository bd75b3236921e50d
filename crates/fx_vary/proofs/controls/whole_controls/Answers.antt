use Rattle.std.proofs.Common.{◌≡◌, sym, ap, ◌∙◌, [], ◌∷◌, ◌++◌, to_z, of_z, rules}
use Rattle.std.specs.Int.{w16}
use Rattle.fx_fixed.specs.Chain.{wanted}
use Rattle.fx_vary.specs.declared.fault.ShapeFault.TheVariants.{BadCvar}
use Rattle.fx_vary.specs.Controls.{control_moved}
use Rattle.fx_vary.proofs.MovedSteps.{moved_on, moved_off, moved_end}
use Rattle.fx_vary.proofs.Controlling.{entries_next, entries_none, longer}
use Rattle.fx_vary.proofs.controls.whole_controls.Goals as goal

pub returns-in_default : goal.returns-in_default
returns-in_default c =
    ap (λ o. wanted o BadCvar) (moved_off control_moved _ _ _ _ _ c.entries.invariant.same _ _ _
    (entries_next _ _ _ c.entries-test.true) (sym c.entries.invariant.count) (sym c.in_default.is ∙ c.control_by.ensures))

pub entries-preserved : goal.entries-preserved
entries-preserved c =
    let same : to_z w16 (of_z w16 c.in-Some.value) ≡ c.in-Some.value = search rules in
    let next = c.in_ok-append.ensures ∙ ap (λ v. c.entries.values.items ++ v ∷ []) same in
    record {
      same = moved_on control_moved _ _ _ _ _ c.entries.invariant.same _ _ _ _ _ (entries_next _ _ _ c.entries-test.true)
          (sym c.entries.invariant.count) (sym c.in-Some.is ∙ c.control_by.ensures) next;
      count = longer _ _ _ _ next c.entries.invariant.count;
    }

pub returns : goal.returns
returns c =
    ap (λ o. wanted o BadCvar) (moved_end control_moved _ _ _ _ _ c.entries.invariant.same
    (entries_none _ _ _ c.entries-test.false))
