use Rattle.std.proofs.Common.{ap, inl, inr, sym, subst, ℕ, ℤ, pos, ◌+ℤ◌, List, arith}
use Rattle.std.proofs.lemmas.List.{with_items_is}
use Rattle.fx_fixed.proofs.Linear.{signed_linear}
use Rattle.fx_winding.proofs.Places.{clash}
use Rattle.fx_winding.specs.Notes.{IsNotedAcross, IsNotedUp}
use Rattle.fx_winding.specs.Winding.{span_of}
use Rattle.fx_winding.specs.declared.frame.Frame.{Frame}
use Rattle.fx_rows.specs.inner.Heights.{height_of, IsMissed}
use Rattle.fx_rows.specs.inner.Placing.{IsApart}
use Rattle.fx_rows.specs.inner.Points.{IsInner}
use Rattle.fx_rows.specs.inner.Telling.{noted, across_row, up_to_row}
use Rattle.fx_rows.proofs.Boxed.{boxed}
use Rattle.fx_rows.proofs.Kept.{gain_none}
use Rattle.fx_rows.proofs.NotedSegments.{says_more}
use Rattle.fx_rows.proofs.Telling.{rows_also, rows_noted, row_apart, with_sum}
use Rattle.fx_rows.proofs.Upward.{none_within}
use Rattle.fx_rows.proofs.noter.NoterNoting.note.Goals as goal

-- ---- a piece of which the frame lacks columns: all of it is noted apart
pub returns-in_default-clause-kept : goal.returns-in_default-clause-kept
returns-in_default-clause-kept c x lasts old =
    grind (
      arith,
      says_more,
      lasts,
      old,
      c.note_all_across.ensures,
      c.note_all_up.ensures,
      c.deref_mut.ensures.value,
      c.deref_mut-in_default.ensures.value,
      with_items_is,
    )

pub returns-in_default-clause-noted : goal.returns-in_default-clause-noted
returns-in_default-clause-noted c =
    let n = c.args.self.now.notes in
    let s = span_of c.args.piece.now in
    let first = c.args.rows.first in
    let lacks = c.in_default.ensures.lacks in
    let now = rows_also _ _ s first (λ t w r. returns-in_default-clause-kept c (noted t w r) tt) c.requires.before in
    let across = row_apart (IsApart n.frame) n.frame _ _ s across_row first lacks (λ z q l.
    subst (λ (xs : List ℕ). IsNotedAcross s n.frame xs q) (sym (with_items_is n.across c.note_all_across.new.across (omega arith)))
    (c.note_all_across.ensures.noted z q l)) now in
    let up = row_apart (IsApart n.frame) n.frame _ _ s up_to_row first (inr lacks) (λ z q l.
    subst (λ (xs : List ℕ). IsNotedUp s n.frame xs q) (sym (with_items_is n.up c.note_all_up.new.up (omega arith)))
    (c.note_all_up.ensures.noted z q l)) now in
    record { across = λ r l. (across r, λ a. across); up = λ o r l. (up r, λ a. up) }

pub returns-in_default-clause-count : goal.returns-in_default-clause-count
returns-in_default-clause-count c =
    grind (arith, c.note_all_across.ensures.count, c.note_all_up.ensures.count, c.requires.frame, with_sum)

-- ---- the others
pub note_across-requires-clause-placed : goal.note_across-requires-clause-placed
note_across-requires-clause-placed c = grind (arith, c.requires.frame, c.requires.between, c.in-Some.ensures.columns)

pub note_across-requires-clause-others : goal.note_across-requires-clause-others
note_across-requires-clause-others c r l m n o =
    let s = span_of c.args.piece.now in
    let e = c.requires.frame in
    let at = ap (λ (x : Frame). height_of x r) e in
    subst (λ (xs : List ℕ). IsNotedAcross s c.args.self.now.notes.frame xs r) (sym c.deref_mut-2.ensures.value)
    (c.requires.others r l m (subst (λ (y : ℤ). ¬ (IsInner s.a.y s.c.y y)) at n) (subst (λ (y : ℤ). ¬ (IsMissed s y)) at o) r
    (omega (arith, m, c.requires.within, ap (λ (x : Frame). x.height) e)) (ap (λ (x : Frame). x.bottom +ℤ pos r) e))

pub note_across-requires-clause-told : goal.note_across-requires-clause-told
note_across-requires-clause-told c = grind (arith, c.requires.frame, c.requires.told)

pub note_up-requires-clause-told : goal.note_up-requires-clause-told
note_up-requires-clause-told c = grind (arith, c.requires.frame, c.requires.told)

-- those with no column in their box
pub returns-then-across-clause-kept : goal.returns-then-across-clause-kept
returns-then-across-clause-kept c x lasts old =
    grind (arith, says_more, gain_none, lasts, old, c.note_across.ensures, c.deref_mut-2.ensures.value, with_items_is)

pub returns-then-across-clause-noted : goal.returns-then-across-clause-noted
returns-then-across-clause-noted c =
    let n = c.args.self.now.notes in
    let s = span_of c.args.piece.now in
    let is = c.in-Some.ensures.columns in
    let none = none_within s n.frame _ _ is.across (omega (arith, signed_linear, c.if-across.true)) in
    rows_noted _ _ s c.args.rows.first c.args.rows.end (λ w r. returns-then-across-clause-kept c (noted s w r) tt)
    c.requires.before (λ r l m. (
      λ h. subst (λ (xs : List ℕ). IsNotedAcross s n.frame xs r)
          (sym (with_items_is n.across c.note_across.new.across (omega arith))) (c.note_across.ensures.noted r l m),
      λ a. absurd (a (boxed n.frame s c.in-Some.across is)),
    )) (λ r l m. (λ h k w met. absurd (none r k met), λ a q h k w met. absurd (none q k met)))

-- arcs that bulge
pub returns-then-is_bulge-clause-kept : goal.returns-then-is_bulge-clause-kept
returns-then-is_bulge-clause-kept c x lasts old =
    grind (
      arith,
      says_more,
      lasts,
      old,
      c.note_across.ensures,
      c.note_all_up-then-is_bulge.ensures,
      c.deref_mut-2.ensures.value,
      c.deref_mut-then-is_bulge.ensures.value,
      with_items_is,
    )

pub returns-then-is_bulge-clause-noted : goal.returns-then-is_bulge-clause-noted
returns-then-is_bulge-clause-noted c =
    let n = c.args.self.now.notes in
    let s = span_of c.args.piece.now in
    let first = c.args.rows.first in
    let is = c.in-Some.ensures.columns in
    let now = rows_also _ _ s first (λ t w r. returns-then-is_bulge-clause-kept c (noted t w r) tt) c.requires.before in
    let up = row_apart (IsApart n.frame) n.frame _ _ s up_to_row first (inl (c.is_bulge.ensures.0 c.if-is_bulge.true)) (λ z q l.
    subst (λ (xs : List ℕ). IsNotedUp s n.frame xs q) (sym (with_items_is n.up c.note_all_up-then-is_bulge.new.up (omega arith)))
    (c.note_all_up-then-is_bulge.ensures.noted z q l)) now in
    rows_noted _ _ s first c.args.rows.end (λ w r. returns-then-is_bulge-clause-kept c (noted s w r) tt)
    c.requires.before (λ r l m. (
      λ h. subst (λ (xs : List ℕ). IsNotedAcross s n.frame xs r)
          (sym (with_items_is n.across c.note_across.new.across (omega arith))) (c.note_across.ensures.noted r l m),
      λ a. absurd (a (boxed n.frame s c.in-Some.across is)),
    )) (λ r l m. (up r, λ a. up))

pub returns-then-is_bulge-clause-count : goal.returns-then-is_bulge-clause-count
returns-then-is_bulge-clause-count c =
    grind (arith, c.note_all_up-then-is_bulge.ensures.count, c.requires.frame, with_sum)

-- and all others
pub returns-clause-kept : goal.returns-clause-kept
returns-clause-kept c x lasts old =
    grind (
      arith,
      says_more,
      lasts,
      old,
      c.note_across.ensures,
      c.note_up.ensures,
      c.deref_mut-2.ensures.value,
      c.deref_mut-3.ensures.value,
      with_items_is,
    )

pub returns-clause-noted : goal.returns-clause-noted
returns-clause-noted c =
    let n = c.args.self.now.notes in
    let s = span_of c.args.piece.now in
    let is = boxed n.frame s c.in-Some.across c.in-Some.ensures.columns in
    rows_noted _ _ s c.args.rows.first c.args.rows.end (λ w r. returns-clause-kept c (noted s w r) tt)
    c.requires.before (λ r l m. (
      λ h. subst (λ (xs : List ℕ). IsNotedAcross s n.frame xs r)
          (sym (with_items_is n.across c.note_across.new.across (omega arith))) (c.note_across.ensures.noted r l m),
      λ a. absurd (a is),
    )) (λ r l m. (
      λ h. subst (λ (xs : List ℕ). IsNotedUp s n.frame xs r)
          (sym (with_items_is n.up c.note_up.new.up (omega arith))) (c.note_up.ensures.notes.noted r l (omega (arith, m))),
      λ a. absurd (elim a [ inl b ↦ clash c.is_bulge.result c.if-is_bulge.false (c.is_bulge.ensures.1 b) | inr lacks ↦ lacks is ]),
    ))

pub returns-clause-count : goal.returns-clause-count
returns-clause-count c = omega (arith, c.note_up.ensures.count)

pub invariant_of-placed : goal.invariant_of-placed
invariant_of-placed c = grind (arith, c.requires.between, c.requires.within, c.requires.some, c.requires.frame)

pub note_up-requires-clause-plain : goal.note_up-requires-clause-plain
note_up-requires-clause-plain c = λ b. clash c.is_bulge.result c.if-is_bulge.false (c.is_bulge.ensures.1 b)

pub note_up-requires-clause-placed : goal.note_up-requires-clause-placed
note_up-requires-clause-placed c = grind (arith, c.requires.frame, c.requires.between, c.in-Some.ensures.columns)
