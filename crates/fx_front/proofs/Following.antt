-- A link more was followed: what is found behind the name that it leads to is found behind the one before, `one_more`.
-- Serves `followed`.
use Rattle.std.proofs.Common.{◌≡◌, ℕ, suc, Option, None, refl, subst, sym}
use Rattle.fx_words.specs.Parts.{Text}
use Rattle.fx_front.specs.Links.{Follows, FollowsBy}
use Rattle.fx_front.specs.declared.disk.Link.{Link}

pub one_more : (Leads : Text → Link → Type 0) (k n : ℕ) (name : Text) (link : Link) (found : Option Text) → k ≡ suc n
    → Leads name link → FollowsBy (Follows Leads n) name link found → Follows Leads k name found
unfolding Follows
one_more Leads k n name link found e leads goes =
    subst (λ (m : ℕ). Follows Leads m name found) (sym e) (link, leads, goes)

-- no link may be followed
pub no_more : (Leads : Text → Link → Type 0) (k : ℕ) (name : Text) → k ≡ 0 → Follows Leads k name None
unfolding Follows
no_more Leads k name e = subst (λ (m : ℕ). Follows Leads m name None) (sym e) refl
