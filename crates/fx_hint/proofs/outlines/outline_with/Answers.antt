use Rattle.std.proofs.Common.{◌≡◌, ◌∙◌, sym, true, false}
use Rattle.fx_hint.proofs.outlines.outline_with.Goals as goal

pub outline_in-requires : goal.outline_in-requires
outline_in-requires g c = record {
  held = record {
    are_true = c.new-kept.ensures.held _;
    unseen = λ room x run. let no : false ≡ true = sym c.new-kept.ensures.room ∙ room in absurd cc;
  };
}
