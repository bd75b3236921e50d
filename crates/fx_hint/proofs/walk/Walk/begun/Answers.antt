use Rattle.std.proofs.Common.{sym, ◌∙◌, refl, Ok, Err}
use Rattle.std.proofs.lemmas.Result.{err_from_is_err_and}
use Rattle.fx_hint.specs.Shapes.{shapes_of}
use Rattle.fx_hint.specs.inner.Steps.{begun, begun_by}
use Rattle.fx_hint.proofs.Recalling.{begun_again}
use Rattle.fx_hint.proofs.RunLaws.{recalls, simple_runs, none_started}
use Rattle.fx_hint.proofs.walk.Walk.begun.Goals as goal
use Rattle.fx_hint.proofs.walk.Walk.begun.Goals.{then-is_some-2, else-is_some-2}

pub returns-in_err-recalled-clause-leads : goal.returns-in_err-recalled-clause-leads
returns-in_err-recalled-clause-leads g c =
    let p = err_from_is_err_and c.from_residual-in_err-recalled.result c.from_residual-in_err-recalled.ensures.1 in
    rw (p.1, p.2) (recalls {A = Unit {0}} g.H.Hinter.Leads _ (Err c.in_err-recalled.field-0.0) _ _ _ _ _ _ _
    (g.met.H.Hinter.leads_same _) (c.requires.held.unseen c.in-Some.ensures.room _))

pub returns-in_err-recalled-clause-value : goal.returns-in_err-recalled-clause-value
returns-in_err-recalled-clause-value g c =
    let p = err_from_is_err_and c.from_residual-in_err-recalled.result c.from_residual-in_err-recalled.ensures.1 in
    let e = begun_again _ _ _ c.args.self.now.root c.args.node.component _ _ _ _ _ c.args.count.now c.law_keeps_shape.ensures
    (sym c.in_ok-metrics.ensures.value) (sym c.in_ok-bytes.ensures) (c.in-Some.ensures.value _ c.requires.held.are_true) in
    rw (p.1, p.2) (rw e at c.in_err-recalled.ensures.value)

pub returns-in-Some-clause-leads : goal.returns-in-Some-clause-leads
returns-in-Some-clause-leads g c =
    recalls {A = Unit {0}} g.H.Hinter.Leads _ (Ok tt) _ _ _ _ _ _ _ (g.met.H.Hinter.leads_same _)
    (c.requires.held.unseen c.in-Some.ensures.room _)

pub returns-in-Some-clause-value : goal.returns-in-Some-clause-value
returns-in-Some-clause-value g c =
    let e = begun_again _ _ _ c.args.self.now.root c.args.node.component _ _ _ _ _ c.args.count.now c.law_keeps_shape.ensures
    (sym c.in_ok-metrics.ensures.value) (sym c.in_ok-bytes.ensures) (c.in-Some.ensures.value _ c.requires.held.are_true) in
    rw e at c.in_ok-recalled.ensures.value

pub returns-in_err-simple_made-in-Simple-clause-leads : goal.returns-in_err-simple_made-in-Simple-clause-leads
returns-in_err-simple_made-in-Simple-clause-leads g c =
    let p = err_from_is_err_and c.from_residual-in_err-simple_made-in-Simple.result
    c.from_residual-in_err-simple_made-in-Simple.ensures.1 in
    let r = rw c.in-Simple.is at c.in_ok-glyph.ensures.value in
    let v = rw c.is_on-in-Simple.ensures at c.in_err-simple_made-in-Simple.ensures.value in
    rw (p.1, p.2) (none_started g.H.Hinter.Leads _ c.in_err-simple_made-in-Simple.field-0.0 (g.H.Hinter.hinting c.args.hinter.now)
    _ _ _ c.args.node.component _ _ _ _ r (g.met.H.Hinter.leads_same _) v)

pub returns-after-is_some-2-clause-leads : goal.returns-after-is_some-2-clause-leads
returns-after-is_some-2-clause-leads g c =
    let r = rw c.in-Simple.is at c.in_ok-glyph.ensures.value in
    let v = rw c.is_on-in-Simple.ensures at c.in_ok-simple_made-in-Simple.ensures.value in
    let e = simple_runs (g.H.Hinter.hinting c.args.hinter.now) (shapes_of c.args.self.now.font.now) c.args.self.now.scale.now
    c.args.self.now.root c.args.node.component c.args.node.g _ _ _ _ _ r v in
    rw e (rw c.code.ensures.value at c.in_ok-usage-in-Simple.ensures.leads)

pub returns-after-is_some-2-clause-held : goal.returns-after-is_some-2-clause-held
returns-after-is_some-2-clause-held g c =
    let u = c.in_ok-usage-in-Simple.ensures in
    let own = rw c.in-Simple.is at c.in_ok-glyph.ensures.own in
    let ran = rw (c.code.ensures.value, c.in_ok-simple_made-in-Simple.ensures.made, c.is_on-in-Simple.ensures, own.1) at u.ran in
    elim c.if-is_some-2.branch [
      | then-is_some-2 w ↦ rw w.kept-is (record {
        are_true = w.keep.ensures.value _ c.requires.held.are_true (record {
          shape = c.in-Simple.simple;
          read = sym own.0;
          ran = ran;
        });
        unseen = λ room. c.requires.held.unseen (sym w.keep.ensures.room ∙ room);
      })
      | else-is_some-2 w ↦ rw w.kept-is c.requires.held
    ]

pub returns-after-is_some-2-clause-value : goal.returns-after-is_some-2-clause-value
unfolding begun begun_by
returns-after-is_some-2-clause-value g c =
    let r = rw c.in-Simple.is at c.in_ok-glyph.ensures.value in
    let v = rw c.is_on-in-Simple.ensures at c.in_ok-simple_made-in-Simple.ensures.value in
    let ran = rw c.code.ensures.value at c.in_ok-usage-in-Simple.ensures.value in
    rw (r, v, ran) refl
