-- A member of the chain is found from its front, one instruction after the other: `member_onward`.
-- Serves `find`, `listing` and the laws.
use Rattle.std.proofs.Common.{◌≡◌, ◌⊎◌, inl, inr, ℕ, ◌+◌, ◌-◌, ◌<◌, ◌≤◌, Bool, false, List, length, drop, arith}
use Rattle.std.proofs.Math.Nat.{le_refl}
use Rattle.std.proofs.lemmas.Bool.{cases_lt}
use Rattle.std.proofs.lemmas.List.{length-take}
use Rattle.fx_code.specs.Chain.{Chain, first, next, IsWhole, Meets, size_at, next_address, opcode_at, data_at, head_len}
use Rattle.fx_code.specs.Chain.{level_after}

module _ (code : List ℕ) where
  -- from one address of the chain to another, with the IFs open at each
  pub data Onward : ℕ → ℕ → ℕ → ℕ → Type 0 where
    here : {p n : ℕ} → Onward p n p n
    on : {p n q l : ℕ} → IsWhole code p → Onward (next_address code p) (level_after (opcode_at code p) n) q l → Onward p n q l

  push : {p n q l : ℕ} → Onward p n q l → IsWhole code q → Onward p n (next_address code q) (level_after (opcode_at code q) l)
  push here w = on w here
  push (on v r) w = on v (push r w)

  pub member_onward : {from q l : ℕ} → Chain code from q l → Onward from 0 q l
  member_onward first = here
  member_onward (next c w) = push (member_onward c) w

  pub next_above : (p : ℕ) → p < next_address code p
  unfolding size_at
  next_above p = grind arith

  -- its data end before the next address
  pub data_within : (p : ℕ) → p + 1 + length (data_at code p) ≤ next_address code p
  unfolding size_at
  data_within p =
      let short =
      length-take (next_address code p - (p + head_len (opcode_at code p))) (drop (p + head_len (opcode_at code p)) code)
      in
      grind (arith, short)

  pub whole_inside : (p : ℕ) → IsWhole code p → next_address code p ≤ length code
  unfolding IsWhole
  whole_inside p w = w

  -- an instruction is whole, or the program ends inside it
  pub whole_or_not : (p : ℕ) → IsWhole code p ⊎ ¬ (IsWhole code p)
  unfolding IsWhole
  whole_or_not p = elim (cases_lt (length code) (next_address code p)) [ inl h ↦ inr (λ w. absurd (omega arith)) | inr h ↦ inl h ]

  -- none is at the end or past it
  pub not_whole : (p : ℕ) → length code ≤ p → ¬ (IsWhole code p)
  unfolding IsWhole
  not_whole p h w = let a = next_above p in absurd (omega arith)

  pub not_inside : (p : ℕ) → ¬ (IsWhole code p) → length code < next_address code p
  unfolding IsWhole
  not_inside p none = elim (cases_lt (length code) (next_address code p)) [ inl h ↦ h | inr h ↦ absurd (none h) ]

  pub past_end : (p : ℕ) → ¬ (IsWhole code p) → length code ≤ next_address code p
  past_end p none = let h = not_inside p none in omega arith

  pub onward_above : {p n q l : ℕ} → Onward p n q l → p ≤ q
  onward_above here = le_refl _
  onward_above (on {p = p} w r) = let h = onward_above r in omega (arith, next_above p)

  -- one instruction on, as a search reads it
  pub chain_next : {from p n : ℕ} (op p' n' : ℕ) → Chain code from p n → IsWhole code p → op ≡ opcode_at code p
      → p' ≡ next_address code p → n' ≡ level_after op n → Chain code from p' n'
  chain_next op p' n' c w eo ep en = rw (en, eo, ep) (next c w)

  module _ (stops : ℕ → ℕ → Bool) where
    -- past an address that does not end the search
    pub onward_past : {p n q l : ℕ} (op p' n' : ℕ) → stops op n ≡ false → op ≡ opcode_at code p → p' ≡ next_address code p
        → n' ≡ level_after op n → Onward p n q l → Meets stops code q l → Onward p' n' q l
    onward_past op p' n' none eo ep en here m = absurd (let e = m.1 in grind arith)
    onward_past op p' n' none eo ep en (on w r) m = rw (en, eo, ep) r

    -- no match if there is no instruction
    pub onward_none : {p n q l : ℕ} → ¬ (IsWhole code p) → Onward p n q l → Meets stops code q l → ⊥
    onward_none none here m = none m.0
    onward_none none (on w r) m = none w
