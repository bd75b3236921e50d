-- Joining borrowed texts joins what they hold: `joined_texts`.
-- Serves `joined`.
use Rattle.std.proofs.Common.{◌≡◌, List, [], ◌∷◌, ◌++◌, refl, ap}
use Rattle.std.specs.Borrow.{Bor}
use Rattle.std.specs.List.{flat_map, join_by}
use Rattle.fx_words.specs.Parts.{Text, texts}

module _ (between : Text) where
  rest_of_texts : (words : List (Bor Text)) →
      flat_map (λ word. between ++ word.now) words ≡ flat_map (λ word. between ++ word) (texts words)
  rest_of_texts [] = refl
  rest_of_texts (word ∷ words) = ap (λ rest. (between ++ word.now) ++ rest) (rest_of_texts words)

  -- joining borrowed texts joins what they hold
  pub joined_texts : (words : List (Bor Text)) →
      join_by (λ word. word.now) between words ≡ join_by (λ word. word) between (texts words)
  joined_texts [] = refl
  joined_texts (word ∷ words) = ap (λ rest. word.now ++ rest) (rest_of_texts words)
