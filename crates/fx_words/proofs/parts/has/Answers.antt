use Rattle.std.proofs.Common.{◌≡◌, ◌∙◌, List, [], ◌∷◌, refl, ap}
use Rattle.std.specs.Prelude.{◌||◌}
use Rattle.std.specs.Borrow.{Bor}
use Rattle.std.specs.List.{list_any}
use Rattle.std.specs.Str.{bytes_eq}
use Rattle.fx_words.specs.Parts.{Text, has, texts}
use Rattle.fx_words.proofs.parts.has.Goals as goal

any_of_texts : (word : Text) (words : List (Bor Text)) → list_any (λ each. bytes_eq each.now word) words ≡ has (texts words) word
any_of_texts word [] = refl
any_of_texts word (each ∷ words) = ap (λ rest. bytes_eq each.now word || rest) (any_of_texts word words)

pub returns : goal.returns
returns c = c.contains.ensures.value ∙ any_of_texts c.args.word.now c.args.words.now
