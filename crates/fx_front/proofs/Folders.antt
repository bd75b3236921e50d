-- What is up to the last slash of a name is its folder: `folder_is`.
-- Serves `folder_of`.
use Rattle.std.proofs.Common.{◌≡◌, ◌≢◌, ℕ, zero, suc, ◌<◌, true, false, [], ◌∷◌, length, get_or, take, arith, refl}
use Rattle.std.specs.Prelude.{◌==◌}
use Rattle.std.specs.List.{list_any}
use Rattle.std.proofs.lemmas.Bool.Decides.{nat_tests}
use Rattle.fx_words.specs.Parts.{Text}
use Rattle.fx_front.specs.Targets.{folder_of}

none : (name : Text) → ((i : ℕ) → i < length name → get_or name i 0 ≢ 47) → list_any (λ byte. byte == 47) name ≡ false
none [] h = refl
none (b ∷ name) h =
    let first : b ≢ 47 = h 0 (omega arith) in
    let rest = none name (λ i q. h (suc i) (omega arith)) in grind (arith, nat_tests)

some : (name : Text) (k : ℕ) → k < length name → get_or name k 0 ≡ 47 → list_any (λ byte. byte == 47) name ≡ true
some [] k q e = absurd (omega arith)
some (b ∷ name) zero q e = grind (arith, nat_tests)
some (b ∷ name) (suc k) q e = let rest = some name k (omega arith) e in grind (arith, nat_tests)

-- a name without a slash is in the current folder
pub no_folder : (name : Text) → ((i : ℕ) → i < length name → get_or name i 0 ≢ 47) → folder_of name ≡ []
no_folder [] h = refl
no_folder (b ∷ name) h = rw (none (b ∷ name) h) refl

pub folder_is : (name : Text) (k : ℕ) → k < length name → get_or name k 0 ≡ 47
    → ((i : ℕ) → k < i → i < length name → get_or name i 0 ≢ 47) → take (suc k) name ≡ folder_of name
folder_is [] k q e h = absurd (omega arith)
folder_is (b ∷ name) zero q e h =
    rw (some (b ∷ name) 0 q e, no_folder name (λ i r. h (suc i) (omega arith) (omega arith))) refl
folder_is (b ∷ name) (suc k) q e h =
    rw (some (b ∷ name) (suc k) q e, folder_is name k (omega arith) e (λ i r s. h (suc i) (omega arith) (omega arith))) refl
