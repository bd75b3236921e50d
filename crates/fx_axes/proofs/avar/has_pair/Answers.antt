use Rattle.std.proofs.Common.{sym, ap, ◌∙◌, arith, length, length-drop}
use Rattle.fx_axes.specs.Avar.{is_same}
use Rattle.fx_axes.proofs.Maps.{pair_on, pair_hit, pair_end}
use Rattle.fx_axes.proofs.avar.has_pair.Goals as goal

pub returns-then-is_same : goal.returns-then-is_same
returns-then-is_same c =
    pair_hit _ _ _ _ _ c.pairs-test.true
    (sym (c.is_same.ensures ∙ ap (is_same c.args.a) c.mapping_of-p.ensures) ∙ c.if-is_same.true) c.pairs.invariant.same

pub pairs-preserved : goal.pairs-preserved
pairs-preserved c = record {
  same = pair_on _ _ _ _ _ _ c.pairs-test.true (sym (c.is_same.ensures ∙ ap (is_same c.args.a) c.mapping_of-p.ensures)
      ∙ c.if-is_same.false)
      c.after-rest.ensures c.pairs.invariant.same;
  inside = omega (
    arith,
    c.pairs-test.true,
    c.pairs.invariant.inside,
    ap length c.after-rest.ensures,
    length-drop 4
        c.pairs.rest.now,
  );
}

pub returns : goal.returns
returns c = pair_end _ _ _ _ _ c.pairs-test.false c.pairs.invariant.same
