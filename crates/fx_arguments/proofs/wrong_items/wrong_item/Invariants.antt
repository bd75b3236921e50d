use Rattle.std.proofs.Common.{◌≡◌, option_map}
use Rattle.fx_arguments.specs.Parts.{left_parts}
use Rattle.fx_arguments.specs.WrongItems.{first_wrong, wrong_item_of}
use Rattle.fx_arguments.proofs.Items.{size_left}
use Rattle.fx_arguments.proofs.wrong_items.wrong_item.Given as goal

-- no item so far is wrong
abbrev pub invariant-items : goal.invariant-items
invariant-items l = wrong_item_of l.list ≡ first_wrong (left_parts 44 (option_map (λ text. text.now) l.left))

abbrev pub decreases-items : goal.decreases-items
decreases-items l = size_left (option_map (λ text. text.now) l.left)
