use Rattle.std.proofs.Common.{◌∙◌, ◌+◌, ◌-◌, ◌<◌, ◌≡◌, arith, get_or, inl, inr, length}
use Rattle.fx_cli.proofs.Sized.{first_record, next_record, no_record}
use Rattle.fx_cli.proofs.bitmaps.has_record.Goals as goal

pub returns-in_default : goal.returns-in_default
returns-in_default c =
    let short : length c.records.rest.now < 48 = elim (c.in_default.ensures').lookup.0 [ inl h ↦ h | inr h ↦ omega arith ] in
    no_record (c.args.count - c.records.i) c.records.rest.now c.args.ppem short ∙ c.records.invariant

pub returns-in_default-2 : goal.returns-in_default-2
returns-in_default-2 c =
    let short : length c.records.rest.now < 48 = omega (arith, c.in_default.ensures.lookup.3) in
    no_record (c.args.count - c.records.i) c.records.rest.now c.args.ppem short ∙ c.records.invariant

pub returns-then-from-ppem : goal.returns-then-from-ppem
returns-then-from-ppem c =
    let size : get_or c.records.rest.now 44 0 ≡ c.args.ppem = omega (arith, c.in-Some-Some.ensures.lookup.3.1 0) in
    first_record (c.args.count - c.records.i) (c.args.count - (c.records.i + 1)) c.records.rest.now c.args.ppem (omega arith)
    (c.in-Some-Some.ensures').lookup.0.0 size ∙ c.records.invariant

pub records-preserved : goal.records-preserved
records-preserved c =
    next_record (c.args.count - c.records.i) (c.args.count - (c.records.i + 1)) c.records.rest.now c.in-Some-Some.after.now
    c.args.ppem (omega arith) (c.in-Some-Some.ensures').lookup.0.0 (omega (arith, c.in-Some-Some.ensures.lookup.3.1 0))
    (c.in-Some-Some.ensures').lookup.0.2 ∙ c.records.invariant
