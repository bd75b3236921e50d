-- A skip has a result, the first match of the search from address to address or none: `past_is`, `past_definition_is`.
-- Serves the skips and their laws.
use Rattle.std.proofs.Common.{◌≡◌, inl, inr, ℕ, zero, suc, ◌-◌, ◌≤◌, Bool, true, false, nat_le, List, length, Option, Some, None}
use Rattle.std.proofs.Common.{Result, MatchOption, arith, refl, rules}
use Rattle.std.proofs.lemmas.Bool.{cases_Bool, leb-true, leb-false}
use Rattle.std.proofs.lemmas.Bool.Decides.{eqb_tells}
use Rattle.fx_code.specs.declared.fault.CodeFault.{CodeFault}
use Rattle.fx_code.specs.Opcodes.{ENDF}
use Rattle.fx_code.specs.Chain.{Chain, first, next, IsWhole, Meets, next_address, level_after, IsFirst, HasNone, LeadsPast}
use Rattle.fx_code.specs.Chain.{LeadsPastDefinition, stops_at_definition, opcode_at}
use Rattle.fx_code.specs.Past.{first_from, first_of, after, after_definition, past_of, past_definition_of}
use Rattle.fx_code.proofs.Onward.{Onward, member_onward, onward_above, onward_past, onward_none, next_above, not_whole}
use Rattle.fx_code.proofs.Unique.{leads_one, leads_definition_one}

module _ (code : List ℕ) (from : ℕ) where
  module _ (stops : ℕ → ℕ → Bool) where
    Left : ℕ → ℕ → Type 0
    Left p n = (q l : ℕ) → Chain code from q l → Meets stops code q l → Onward code p n q l

    Found : Option ℕ → Type 0
    Found r = MatchOption r (HasNone stops code from) (λ p. IsFirst stops code from p)

    here_first : (p n : ℕ) → Chain code from p n → Left p n → IsWhole code p → stops (opcode_at code p) n ≡ true → Found (Some p)
    unfolding Found Left
    here_first p n c left w e =
        record { level = n; member = c; meets = (w, search (rules, e)); least = λ q l r m. onward_above code (left q l r m) }

    none_left : (p n : ℕ) → Left p n → ¬ (IsWhole code p) → Found None
    unfolding Found Left
    none_left p n left w q l r m = onward_none code stops w (left q l r m) m

    left_on : (p n : ℕ) → Left p n → stops (opcode_at code p) n ≡ false
        → Left (next_address code p) (level_after (opcode_at code p) n)
    unfolding Left
    left_on p n left e q l r m = onward_past code stops _ _ _ e refl refl refl (left q l r m) m

    whole_here : (p : ℕ) → nat_le (next_address code p) (length code) ≡ true → IsWhole code p
    unfolding IsWhole
    whole_here p e = leb-true (next_address code p) (length code) e

    cut_here : (p : ℕ) → nat_le (next_address code p) (length code) ≡ false → ¬ (IsWhole code p)
    unfolding IsWhole
    cut_here p e w = let h = leb-false (next_address code p) (length code) e in absurd (omega arith)

    look : (most p n : ℕ) → length code - p ≤ most → Chain code from p n → Left p n → Found (first_from stops code most p n)
    look zero p n small c left = none_left p n left (not_whole code p (omega arith))
    look (suc most) p n small c left = elim (cases_Bool (nat_le (next_address code p) (length code))) [
      | inl w ↦ elim (cases_Bool (stops (opcode_at code p) n)) [
        | inl e ↦ rw (w, e) (here_first p n c left (whole_here p w) e)
        | inr e ↦ rw (w, e) (look most (next_address code p) (level_after (opcode_at code p) n)
            (let a = next_above code p in let b = leb-true _ _ w in omega arith) (next c (whole_here p w)) (left_on p n left e))
      ]
      | inr w ↦ rw w (none_left p n left (cut_here p w))
    ]

    found : Found (first_of stops code from)
    unfolding Left first_of
    found = look (length code) from 0 (omega arith) first (λ q l r m. member_onward code r)

    past_found : (r : Option ℕ) → Found r → LeadsPast stops code from (after r)
    unfolding Found
    past_found (Some p) f = (p, f, refl)
    past_found None f = (refl, f)

    pub past_is : LeadsPast stops code from (past_of stops code from)
    past_is = past_found (first_of stops code from) found

    -- what code returns is that
    pub same_past : {r : Result ℕ CodeFault} → LeadsPast stops code from r → r ≡ past_of stops code from
    same_past {r = r} h = leads_one code from stops r _ h past_is

  past_definition_found : (r : Option ℕ) → Found stops_at_definition r → LeadsPastDefinition code from (after_definition code r)
  unfolding Found
  past_definition_found (Some p) f = elim (eqb_tells (opcode_at code p) ENDF) [
    | inl e ↦ rw e.0 (p, f, e.1, refl)
    | inr e ↦ rw e.0 (inr (refl, (p, f, e.1)))
  ]
  past_definition_found None f = inl (refl, f)

  pub past_definition_is : LeadsPastDefinition code from (past_definition_of code from)
  past_definition_is = past_definition_found (first_of stops_at_definition code from) (found stops_at_definition)

  pub same_past_definition : {r : Result ℕ CodeFault} → LeadsPastDefinition code from r → r ≡ past_definition_of code from
  same_past_definition {r = r} h = leads_definition_one code from r _ h past_definition_is
