-- Texts that are added one after the other are one text (`chained`), and a text is told as its line (`told`).
use Rattle.std.proofs.Common.{◌≡◌, ℕ, List, [], ◌++◌, Option, Some, None, inl, append_assoc, arith, refl}
use Rattle.fx_fixed.specs.Changes.{Change}
use Rattle.fx_front.specs.Lines.{IsSilent, Says, Tells, TellsText}

pub chained : (x y : List ℕ) (a b c : Option (List ℕ)) → Says a b x → Says b c y → Says a c (x ++ y)
chained x y a b None p q = tt
chained x y a None (Some t) p q = grind arith
chained x y None (Some s) (Some t) p q = grind arith
chained x y (Some r) (Some s) (Some t) p q = grind (arith, append_assoc)

-- a text that has this line, or for which memory ran out, is told as this line
pub told : (change : Change) (text : Option (List ℕ)) (line : List ℕ) → Says (Some []) text line → TellsText change text
    → Tells change line
told change None line says tells = inl tells
told change (Some text) line says tells = let same : line ≡ text = grind arith in rw same tells

-- between a moment and itself nothing is written
pub unchanged : (bytes : Option (List ℕ)) (faults : ℕ)
    → IsSilent (record { bytes_before = bytes; bytes = bytes; faults_before = faults; faults = faults })
unchanged None faults = (tt, refl)
unchanged (Some xs) faults = (refl, refl)
