-- A search for a record ends at the first that has the property, else goes on: `search_ends`, `search_on`.
-- For the loops over records, of `find_table` here, of `first_subtable` in fx_cmap and of `name_by` in fx_names.
use Rattle.std.proofs.Common.{◌≡◌, ℕ, suc, ◌+◌, ◌-◌, ◌*◌, ◌<◌, ◌≤◌, Bool, true, false, List, length, length-drop, drop, cond, Some}
use Rattle.std.proofs.Common.{sym, ap, ◌∙◌, arith}
use Rattle.std.proofs.Math.Nat.{mul-add}
use Rattle.std.specs.List.{find}
use Rattle.fx_sfnt.specs.Tables.{records}

-- the first record with a property among those that are left after k of them is that among all
pub record Searching (size : ℕ) (p : List ℕ → Bool) (count k : ℕ) (all rest : List ℕ) : Type 0 where
  pub same : find p (records size (count - k) rest) ≡ find p (records size count all)
  pub inside : size * (count - k) ≤ length rest

module _ {size : ℕ} {p : List ℕ → Bool} {count k : ℕ} {all rest : List ℕ} (s : Searching size p count k all rest)
    (some : k < count) where
  found : (b : Bool) → p rest ≡ b
      → cond b (Some rest) (find p (records size (count - (k + 1)) (drop size rest))) ≡ find p (records size count all)
  found b e =
      let left : count - k ≡ suc (count - (k + 1)) = omega (arith, some) in
      sym (ap (λ (n : ℕ). find p (records size n rest)) left
      ∙ ap (λ (t : Bool). cond t (Some rest) (find p (records size (count - (k + 1)) (drop size rest)))) e) ∙ s.same

  -- the next record has it
  pub search_ends : p rest ≡ true → Some rest ≡ find p (records size count all)
  search_ends e = found true e

  -- the next record has it not
  pub search_on : {next : List ℕ} → p rest ≡ false → next ≡ drop size rest → Searching size p count (k + 1) all next
  search_on {next} e d =
      let left : count - k ≡ count - (k + 1) + 1 = omega (arith, some) in
      let fewer : size * (count - k) ≡ size * (count - (k + 1)) + size * 1 =
      ap (λ (n : ℕ). size * n) left ∙ mul-add size (count - (k + 1)) 1 in
      record {
        same = ap (λ (bytes : List ℕ). find p (records size (count - (k + 1)) bytes)) d ∙ found false e;
        inside = omega (arith, s.inside, fewer, ap length d, length-drop size rest);
      }
