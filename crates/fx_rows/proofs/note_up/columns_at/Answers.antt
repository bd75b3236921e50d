use Rattle.std.proofs.Common.{◌≡◌, pos, ◌+ℤ◌, ◌*ℤ◌, ◌<ℤ◌, ◌≤ℤ◌, ℤ, ap, sym, ◌∙◌, inl, inr, arith, w32, to_z, of_z}
use Rattle.fx_fixed.proofs.Linear.{signed, signed_linear}
use Rattle.fx_fixed.proofs.Order.{below_or_not_ℤ}
use Rattle.fx_rows.proofs.Boxed.{first_near}
use Rattle.fx_rows.proofs.note_up.columns_at.Goals as goal

-- what is not right of a place and not at it is left of it
left_of : (x y : ℤ) → x ≤ℤ y → ¬ (y ≡ x) → x <ℤ y
left_of x y l n = elim (below_or_not_ℤ x y) [ inl h ↦ h | inr h ↦ absurd (n (omega (arith, signed_linear, l, h))) ]

within : (c : goal.After-first_from-col)
    → (c.args.frame.left ≤ℤ c.first_from-col.result) × (c.first_from-col.result ≤ℤ (c.args.frame.left +ℤ pos c.args.frame.width))
within c =
    let x = c.args.x in
    let here : to_z w32 (of_z w32 x) ≡ x = omega (arith, signed_linear, c.requires.near) in
    first_near c.args.frame.left x c.first_from-col.result c.args.frame.width
    (λ n l. rw here at (c.first_from-col.ensures.before n l)) (λ n l. rw here at (c.first_from-col.ensures.from n l))
    c.requires.left c.requires.right

pub columns_to-first-requires : goal.columns_to-first-requires
columns_to-first-requires c = grind (arith, signed_linear, c.first_from-col.ensures.size)

pub returns-then-col-x : goal.returns-then-col-x
returns-then-col-x c =
    let x = c.args.x in
    let col = c.first_from-col.result in
    let left = c.args.frame.left in
    let size = c.first_from-col.ensures.size in
    let here : to_z w32 (of_z w32 x) ≡ x = omega (arith, signed_linear, c.requires.near) in
    let same : to_z w32 (of_z w32 col) ≡ col = omega (arith, signed_linear, size) in
    let times : to_z w32 (of_z w32 (pos 128 *ℤ to_z w32 (of_z w32 col))) ≡ pos 128 *ℤ col = omega (arith, signed, size, same) in
    let at : x ≤ℤ (pos 128 *ℤ col +ℤ pos 64) = rw here at (c.first_from-col.ensures.from col (omega (arith, signed_linear))) in
    let over : x <ℤ (pos 128 *ℤ col +ℤ pos 64) =
    left_of x (pos 128 *ℤ col +ℤ pos 64) at (λ e. c.if-col-x.true (ap (of_z w32) ((λ i. times i +ℤ pos 64) ∙ e))) in
    let is : left +ℤ pos c.columns_to-first.result ≡ col = c.columns_to-first.ensures.at ∙ same in
    record {
      within = c.columns_to-first.ensures.within;
      left = λ k h. rw here at (c.first_from-col.ensures.before (left +ℤ pos k) (omega (arith, signed_linear, is, h)));
      from = λ k h l. rw here at (c.first_from-col.ensures.from (left +ℤ pos k) (omega (arith, signed_linear, is, h)));
      to = λ k h.
          let under = rw here at (c.first_from-col.ensures.before (left +ℤ pos k) (omega (arith, signed_linear, is, h))) in
          omega (arith, signed_linear, under);
      right = λ k h l. omega (arith, signed, is, h, over);
    }

pub returns : goal.returns
returns c =
    let x = c.args.x in
    let col = c.first_from-col.result in
    let left = c.args.frame.left in
    let size = c.first_from-col.ensures.size in
    let here : to_z w32 (of_z w32 x) ≡ x = omega (arith, signed_linear, c.requires.near) in
    let same : to_z w32 (of_z w32 col) ≡ col = omega (arith, signed_linear, size) in
    let times : to_z w32 (of_z w32 (pos 128 *ℤ to_z w32 (of_z w32 col))) ≡ pos 128 *ℤ col = omega (arith, signed, size, same) in
    let place : to_z w32 (of_z w32 (to_z w32 (of_z w32 (pos 128 *ℤ to_z w32 (of_z w32 col))) +ℤ pos 64))
    ≡ pos 128 *ℤ col +ℤ pos 64 =
    omega (arith, signed, size, times, same) in
    let at : x ≡ pos 128 *ℤ col +ℤ pos 64 = sym here ∙ ap (to_z w32) (sym c.if-col-x.false) ∙ place in
    let is : left +ℤ pos c.columns_to-first.result ≡ col = c.columns_to-first.ensures.at ∙ same in
    record {
      within = omega (arith, signed, is, at, c.requires.right);
      left = λ k h. rw here at (c.first_from-col.ensures.before (left +ℤ pos k) (omega (arith, signed_linear, is, h)));
      from = λ k h l. rw here at (c.first_from-col.ensures.from (left +ℤ pos k) (omega (arith, signed_linear, is, h)));
      to = λ k h. omega (arith, signed, is, at, h);
      right = λ k h l. omega (arith, signed, is, at, h);
    }
