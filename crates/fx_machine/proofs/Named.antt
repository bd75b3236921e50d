-- The opcodes without a row are those without a name: `row_named`.
-- It serves the law that every row is named.
use Rattle.std.proofs.Common.{◌≡◌, ℕ, zero, suc, ◌<◌, Bool, true, false, not, ◌&&◌, if◌then◌else◌, codes, inl, inr, refl, arith}
use Rattle.std.specs.Prelude.{bytes_eq}
use Rattle.std.proofs.lemmas.Bool.{and_parts, cases_lt}
use Rattle.std.proofs.lemmas.Slice.Eq.{bytes_eq-Decides}
use Rattle.fx_code.specs.Names.{name_of}
use Rattle.fx_machine.specs.Table.{is_undefined}

-- one test holds exactly if another does
abbrev same : Bool → Bool → Bool
same b c = if b then c else not c

abbrev agrees : ℕ → Bool
agrees op = same (is_undefined op) (bytes_eq (name_of op) (codes "UNDEFINED"))

abbrev all_agree : ℕ → Bool
all_agree zero = true
all_agree (suc n) = agrees n && all_agree n

opcodes_agree : all_agree 256 ≡ true
unfolding name_of
opcodes_agree = refl

one_agrees : (n op : ℕ) → all_agree n ≡ true → op < n → agrees op ≡ true
one_agrees zero op e h = absurd (omega arith)
one_agrees (suc n) op e h = elim (cases_lt op n) [
  | inl l ↦ one_agrees n op (and_parts _ _ e).1 l
  | inr l ↦ let z : op ≡ n = omega arith in rw z (and_parts _ _ e).0
]

both : (b c : Bool) → same b c ≡ true → (b ≡ true → c ≡ true) × (c ≡ true → b ≡ true)
both true c e = (λ _. e, λ _. refl)
both false true e = absurd cc
both false false e = (λ h. absurd cc, λ h. absurd cc)

pub row_named : (op : ℕ) → op < 256
    → (is_undefined op ≡ true → name_of op ≡ codes "UNDEFINED") × (name_of op ≡ codes "UNDEFINED" → is_undefined op ≡ true)
row_named op h =
    let d = bytes_eq-Decides (name_of op) (codes "UNDEFINED") in
    let p = both _ _ (one_agrees 256 op opcodes_agree h) in
    (λ e. d.0 (p.0 e), λ e. p.1 (d.1 e))
