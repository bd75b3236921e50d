-- A record that is not of the size leaves those after it: `next_record`.
-- Serves `has_record`.
use Rattle.std.proofs.Common.{◌≡◌, ◌≢◌, ◌∙◌, ℕ, zero, suc, ◌-◌, ◌<◌, ◌≤◌, true, false, List, length, get_or, drop, take_all, length-drop, arith, refl}
use Rattle.std.specs.List.{slice_range}
use Rattle.std.proofs.lemmas.Bool.Decides.{nat_tests}
use Rattle.fx_cli.specs.Bitmaps.{has_record}

pub no_record : (k : ℕ) (records : List ℕ) (ppem : ℕ) → length records < 48 → false ≡ has_record k records ppem
no_record zero records ppem h = refl
no_record (suc k) records ppem h = grind (arith, nat_tests)

pub first_record : (k n : ℕ) (records : List ℕ) (ppem : ℕ) → k ≡ suc n → 48 ≤ length records → get_or records 44 0 ≡ ppem
    → true ≡ has_record k records ppem
first_record k n records ppem e long same = rw e (grind (arith, nat_tests))

pub next_record : (k n : ℕ) (records after : List ℕ) (ppem : ℕ) → k ≡ suc n → 48 ≤ length records → get_or records 44 0 ≢ ppem
    → after ≡ slice_range records 48 (length records) → has_record n after ppem ≡ has_record k records ppem
next_record k n records after ppem e long other rest =
    let same : after ≡ drop 48 records =
    rest ∙ take_all (length records - 48) (drop 48 records) (omega (arith, length-drop 48 records)) in
    rw (e, same) (grind (arith, nat_tests))
