use Rattle.std.proofs.Common.{◌∙◌, ap, refl, Err, Ok}
use Rattle.std.proofs.KnownBytes.{Keeps-refl}
use Rattle.fx_strike.specs.Strike.{Setting}
use Rattle.fx_strike.specs.Title.{titled}
use Rattle.fx_strike.proofs.Exits.{came}
use Rattle.fx_strike.proofs.Making.{fails_leaves}
use Rattle.fx_strike.proofs.Lines.{strike_leaves}
use Rattle.fx_strike.proofs.Telling.{told_all, told_on}
use Rattle.fx_strike.proofs.striker.Striker.write_within.Goals as goal

pub write_text-requires-clause-ready : goal.write_text-requires-clause-ready
write_text-requires-clause-ready g c =
    let passed = (c.in_ok-first.ensures).passes (titled c.args.title.now) in
    record {
      name = c.requires.title.name;
      properties = rw c.deref.ensures.value c.in_ok-properties.ensures.lines;
      within = rw c.deref-2.ensures.value passed.within;
      lines = rw (c.deref-2.ensures.value, (c.in_ok-first.ensures).kept) passed.lines;
    }

pub returns-in_err-first-clause-leaves : goal.returns-in_err-first-clause-leaves
returns-in_err-first-clause-leaves g c =
    rw (came c.from_residual.result c.from_residual.ensures.1)
    (fails_leaves _ _ c.in_err-first.field-0.0 (Keeps-refl _) refl ((c.in_err-first.ensures).passes (titled c.args.title.now)))

pub returns-in_err-first-clause-heard : goal.returns-in_err-first-clause-heard
returns-in_err-first-clause-heard g c =
    rw (came c.from_residual.result c.from_residual.ensures.1)
    (told_on ((c.in_err-first.ensures).heard (titled c.args.title.now)))

pub returns-in_err-properties-clause-heard : goal.returns-in_err-properties-clause-heard
returns-in_err-properties-clause-heard g c = told_all _ ((c.in_ok-first.ensures).heard (titled c.args.title.now))

pub returns-in_err-write_text-clause-heard : goal.returns-in_err-write_text-clause-heard
returns-in_err-write_text-clause-heard g c = told_all _ ((c.in_ok-first.ensures).heard (titled c.args.title.now))

pub returns-clause-heard : goal.returns-clause-heard
returns-clause-heard g c = told_all _ ((c.in_ok-first.ensures).heard (titled c.args.title.now))

pub returns-in_err-write_text-clause-leaves : goal.returns-in_err-write_text-clause-leaves
returns-in_err-write_text-clause-leaves g c =
    let ppem = ap (λ (s : Setting). s.ppem) c.self.view_is in
    let passed = (c.in_ok-first.ensures).passes (titled c.args.title.now) in
    let w = rw (c.in_ok-first.ensures).kept at (c.in_err-write_text.ensures).lines in
    rw (came c.from_residual-in_err-write_text.result c.from_residual-in_err-write_text.ensures.1)
    (strike_leaves _ _ (Err c.in_err-write_text.field-0.0)
    (c.deref-2.ensures.value ∙ passed.mapped_are) (rw (← ppem) c.header.ensures)
    (rw (← ppem, c.deref.ensures.value, c.in_ok-properties.ensures.all, c.pixels.ensures.value))
    passed.surveyed w)

pub returns-clause-leaves : goal.returns-clause-leaves
returns-clause-leaves g c =
    let ppem = ap (λ (s : Setting). s.ppem) c.self.view_is in
    let passed = (c.in_ok-first.ensures).passes (titled c.args.title.now) in
    let w = rw (c.in_ok-first.ensures).kept at (c.in_ok-write_text.ensures).lines in
    strike_leaves _ _ (Ok tt) (c.deref-2.ensures.value ∙ passed.mapped_are) (rw (← ppem) c.header.ensures)
    (rw (← ppem, c.deref.ensures.value, c.in_ok-properties.ensures.all, c.pixels.ensures.value))
    passed.surveyed w
