use Rattle.std.proofs.lemmas.Int.{to_z-of_z}
use Rattle.std.proofs.Common.{◌≡◌, ◌≢◌, ◌∙◌, ap, sym, arith, length, List, ℕ}
use Rattle.std.proofs.lemmas.List.{with_items_is}
use Rattle.fx_winding.specs.Bitmaps.{bit_number, word_bit}
use Rattle.fx_winding.specs.Frames.{IsFrom}
use Rattle.fx_winding.proofs.Dotted.{words_with_bit, bit_here, bit_elsewhere}
use Rattle.fx_winding.proofs.Grid.{grid}
use Rattle.fx_winding.proofs.bitmap.Bitmap.set.Goals as goal

column : (c : goal.After-self-1) → IsFrom c.self.inside.frame.left c.self.inside.frame.width c.args.col
column c = grind (arith, c.self.view_is, c.requires.col)

row : (c : goal.After-self-1) → IsFrom c.self.inside.frame.bottom c.self.inside.frame.height c.args.row
row c = grind (arith, c.self.view_is, c.requires.row)

number : (c : goal.After-self-1) → c.bit_number-number.result ≡ bit_number c.self.inside.frame c.args.col c.args.row
number c = grind (arith, c.bit_number-number.ensures.value, to_z-of_z)

others : (c : goal.After-self-1) (k : ℕ) → k ≢ bit_number c.self.inside.frame c.args.col c.args.row
    → word_bit c.set_bit.new.words k ≡ word_bit c.self.inside.words.items k
others c k n = c.set_bit.ensures.others k (λ e. n (e ∙ number c)) ∙ ap (λ (l : List ℕ). word_bit l k) c.deref_mut.ensures.value

pub invariant_of-self : goal.invariant_of-self
invariant_of-self c =
    let a = column c in let b = row c in let d = others c in let e = c.self.invariant in let f = c.deref_mut.ensures.value in
    grind (arith, words_with_bit, with_items_is)

pub returns-clause-here : goal.returns-clause-here
returns-clause-here c =
    let f = c.self.inside.frame in
    let l = ap length c.deref_mut.ensures.value in
    let whole = with_items_is c.self.inside.words c.set_bit.new.words (omega arith) in
    bit_here f c.set_bit.new.words _ c.args.col c.args.row (ap (grid f) (sym whole)) (column c) (row c)
    (ap (word_bit c.set_bit.new.words) (sym (number c)) ∙ c.set_bit.ensures.here)

pub returns-clause-others : goal.returns-clause-others
returns-clause-others c =
    let f = c.self.inside.frame in
    let l = ap length c.deref_mut.ensures.value in
    let whole = with_items_is c.self.inside.words c.set_bit.new.words (omega arith) in
    bit_elsewhere f c.self.inside.words.items c.set_bit.new.words c.args.self.now _ c.args.col c.args.row c.self.view_is
    (ap (grid f) (sym whole)) (column c) (row c) (others c)
