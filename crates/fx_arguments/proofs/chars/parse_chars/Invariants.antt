use Rattle.std.proofs.Common.{◌≡◌, ◌≤◌, vec_len, option_map}
use Rattle.fx_request.specs.Limits.{max_characters}
use Rattle.fx_arguments.specs.Parts.{left_parts}
use Rattle.fx_arguments.specs.Chars.{items_of, numbers_of_items}
use Rattle.fx_arguments.proofs.Items.{behind, size_left}
use Rattle.fx_arguments.proofs.chars.parse_chars.Given as goal

abbrev pub invariant-items : goal.invariant-items
invariant-items l = record {
  so_far : numbers_of_items (items_of l.list) ≡ behind l.chars.items
      (numbers_of_items (left_parts 44 (option_map (λ text. text.now) l.left)));
  count : vec_len l.chars ≤ max_characters;
}

abbrev pub decreases-items : goal.decreases-items
decreases-items l = size_left (option_map (λ text. text.now) l.left)
