-- The addresses of a listing are those of the chain: `addresses_of_are_addresses`. No other list is: `addresses_are_one`.
-- Serves `laws::addresses_are_one` and `laws::addresses_of_are_addresses`, and Lines.
use Rattle.std.proofs.Common.{◌≡◌, inl, inr, ℕ, zero, suc, ◌-◌, ◌<◌, ◌≤◌, List, [], ◌∷◌, length, refl, arith}
use Rattle.std.proofs.lemmas.Bool.{cases_lt, lt-ltb, le-ltb}
use Rattle.fx_fixed.proofs.Rising.{IsAbove, Rise, IsIn, contains_in, in_contains, rise_increasing, increasing_one}
use Rattle.fx_code.specs.Chain.{Chain, first, next, next_address, opcode_at, level_after}
use Rattle.fx_code.specs.Listing.{addresses_from, addresses_of, AddressesAreOne, AddressesOfAreAddresses}
use Rattle.fx_code.proofs.Onward.{whole_or_not, past_end, Onward, here, on, member_onward, onward_above, next_above}

pub addresses_are_one : AddressesAreOne
addresses_are_one code xs ys f g =
    increasing_one xs ys f.rising g.rising (λ p m. (g.members p).1 ((f.members p).0 m))
    (λ p m. (f.members p).1 ((g.members p).0 m))

-- ---- the addresses from one on

module _ (code : List ℕ) where
  -- when the program has ended, and when it has not
  pub addresses_end : (most p : ℕ) → length code ≤ p → addresses_from most code p ≡ []
  addresses_end zero p h = refl
  addresses_end (suc most) p h = rw (le-ltb p (length code) h) refl

  pub addresses_more : (most p : ℕ) → p < length code
      → addresses_from (suc most) code p ≡ p ∷ addresses_from most code (next_address code p)
  addresses_more most p h = rw (lt-ltb p (length code) h) refl

  -- the first of those from the next one on is above it
  addresses_above : (most p : ℕ) → IsAbove p (addresses_from most code (next_address code p))
  addresses_above zero p = tt
  addresses_above (suc most) p = elim (cases_lt (next_address code p) (length code)) [
    | inl h ↦ rw (addresses_more most (next_address code p) h) (next_above code p)
    | inr h ↦ rw (addresses_end (suc most) (next_address code p) h) tt
  ]

  addresses_rising : (most p : ℕ) → Rise (addresses_from most code p)
  addresses_rising zero p = tt
  addresses_rising (suc most) p = elim (cases_lt p (length code)) [
    | inl h ↦ rw (addresses_more most p h) (addresses_above most p, addresses_rising most (next_address code p))
    | inr h ↦ rw (addresses_end (suc most) p h) tt
  ]

  -- each is on the chain, and lies in the program
  addresses_member : (most p n q : ℕ) → Chain code 0 p n → IsIn q (addresses_from most code p)
      → ((level : ℕ) × Chain code 0 q level) × (q < length code)
  addresses_member zero p n q c m = absurd m
  addresses_member (suc most) p n q c m = elim (cases_lt p (length code)) [
    | inl h ↦ elim (rw (addresses_more most p h) at m) [
      | inl e ↦ ((n, rw e c), omega arith)
      | inr k ↦ elim (whole_or_not code p) [
        | inl w ↦ addresses_member most (next_address code p) (level_after (opcode_at code p) n) q (next c w) k
        | inr w ↦ absurd (rw (addresses_end most (next_address code p) (past_end code p w)) at k)
      ]
    ]
    | inr h ↦ absurd (rw (addresses_end (suc most) p h) at m)
  ]

  -- and each such address is among them
  addresses_all : (most : ℕ) {p n q l : ℕ} → length code - p ≤ most → Onward code p n q l → q < length code
      → IsIn q (addresses_from most code p)
  addresses_all zero few r h = absurd (let a = onward_above code r in omega arith)
  addresses_all (suc most) {p = p} {q = q} few here h = rw (addresses_more most p h) (inl refl)
  addresses_all (suc most) {p = p} {q = q} few (on w r) h =
      let a = next_above code p in
      let b = onward_above code r in
      let k : p < length code = omega arith in
      rw (addresses_more most p k) (inr (addresses_all most (omega arith) r h))

pub addresses_of_are_addresses : AddressesOfAreAddresses
unfolding addresses_of
addresses_of_are_addresses code = record {
  rising = rise_increasing (addresses_from (length code) code 0) (addresses_rising code (length code) 0);
  members = λ q. (
    λ m. addresses_member code (length code) 0 0 q first (contains_in q (addresses_from (length code) code 0) m),
    λ x. in_contains q (addresses_from (length code) code 0)
        (addresses_all code (length code) (omega arith) (member_onward code x.0.1) x.1),
  );
}
