use Rattle.std.proofs.Common.{◌≡◌, pos, ◌+ℤ◌, arith, w32, to_z, of_z}
use Rattle.fx_fixed.proofs.Linear.{signed_linear}
use Rattle.fx_winding.proofs.Places.{clash}
use Rattle.fx_rows.proofs.Contacts.{none_on, one_on, two_on, not_first, not_last, not_one}
use Rattle.fx_rows.proofs.ends.on_ends.Goals as goal

pub returns-then-not-on_last : goal.returns-then-not-on_last
returns-then-not-on_last c = grind (arith, c.if-not-on_last.true, c.if-not-on_first.true, none_on, not_one, clash, not_first)

pub returns-then-not-on_first : goal.returns-then-not-on_first
returns-then-not-on_first c = λ s e.
    let t = c.args.strip in
    let r = c.args.columns in
    let i : to_z w32 (of_z w32 c.column.result) ≡ t.base +ℤ pos r.last = omega (arith, signed_linear, c.column.ensures) in
    one_on s t r.last _ c.requires.to i
    (e.last.0 c.if-not-on_last.false)
    (not_first s t r.first r.last (λ on. clash c.args.on_first c.if-not-on_first.true (e.first.1 on)) e.only)

pub returns-then-not-on_last-2 : goal.returns-then-not-on_last-2
returns-then-not-on_last-2 c = λ s e.
    let t = c.args.strip in
    let r = c.args.columns in
    let i : to_z w32 (of_z w32 c.column-then-not-on_last-2.result) ≡ t.base +ℤ pos r.first =
    omega (arith, signed_linear, c.column-then-not-on_last-2.ensures) in
    one_on s t r.first _ (omega (arith, c.requires.to, c.requires.order)) i
    (e.first.0 c.if-not-on_first.false)
    (not_last s t r.first r.last (λ on. clash c.args.on_last c.if-not-on_last-2.true (e.last.1 on)) e.only)

pub returns : goal.returns
returns c = λ s e.
    let t = c.args.strip in
    let r = c.args.columns in
    let i : to_z w32 (of_z w32 c.column-2.result) ≡ t.base +ℤ pos r.first = omega (arith, signed_linear, c.column-2.ensures) in
    let j : to_z w32 (of_z w32 c.column-3.result) ≡ t.base +ℤ pos r.last = omega (arith, signed_linear, c.column-3.ensures) in
    two_on s t r.first r.last _ _ e.bent (omega arith) c.requires.to i j
    (e.first.0 c.if-not-on_first.false) (e.last.0 c.if-not-on_last-2.false) e.only
