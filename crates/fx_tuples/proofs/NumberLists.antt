-- What `skip_numbers` finds is what `numbers_from` reads: `found`, `short`.
-- For `PointNumbers::read`.
use Rattle.std.proofs.Common.{◌≡◌, ℕ, List, Option, Some, None, refl, ap, sym}
use Rattle.std.specs.Prelude.{option_map, IsSome}
use Rattle.std.proofs.lemmas.Option.{same_Some, none-some}
use Rattle.fx_glyf.specs.Words.{list_in}

-- a list that was read, by the bytes after it
pub record Found {X : Type 0} (r : Option (List X × List ℕ)) (rest : List ℕ) : Type 0 where
  pub some : IsSome r
  pub is : r ≡ Some (list_in r, rest)

pub found : {X : Type 0} (r : Option (List X × List ℕ)) (rest : List ℕ) → Some rest ≡ option_map (λ p. p.1) r → Found r rest
found {X} None rest e = absurd (none-some _ (sym e))
found {X} (Some p) rest e = record { some = refl; is = ap (λ (b : List ℕ). Some (p.0, b)) (sym (same_Some _ _ e)) }

pub short : {X : Type 0} (r : Option (List X × List ℕ)) → None ≡ option_map (λ p. p.1) r → r ≡ None
short {X} None e = refl
short {X} (Some p) e = absurd (none-some _ e)

pub ruleset read_steps = (found, short)
