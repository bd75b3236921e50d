-- The lines before the glyphs are no longer than the longest header: `header_long`.
-- Serves `write_header`.
use Rattle.std.proofs.Common.{◌≡◌, ℕ, ◌≤◌, List, ◌++◌, length, refl, ap, arith, length-append}
use Rattle.std.proofs.lemmas.List.{length-map}
use Rattle.std.specs.Prelude.{codes}
use Rattle.std.specs.Fmt.{decimal}
use Rattle.fx_bdf.specs.declared.header.Header.{Header}
use Rattle.fx_bdf.specs.declared.property.Property.{Property}
use Rattle.fx_bdf.specs.Properties.{AreLines, seen_properties, seen_property}
use Rattle.fx_bdf.specs.Text.{back_text, front_text, header_text, longest_header}
use Rattle.fx_bdf.proofs.GoodProperties.{properties_long}

-- the pieces of the lines after the properties
pub back_number : (k : Header) {n : List ℕ} → n ≡ decimal k.glyphs
    → codes "ENDPROPERTIES\nCHARS " ++ (n ++ codes "\n") ≡ back_text k
unfolding back_text
back_number k e = rw e refl

back_long : (k : Header) {n : List ℕ} → n ≡ decimal k.glyphs → length n ≤ 20 → length (back_text k) ≤ 100
unfolding back_text
back_long k e few = grind (arith, e, few, length-append)

-- the lines before the properties, those of good properties, and those after them
pub header_long : (name : List ℕ) (ps : List Property) (k : Header) {n : List ℕ} → AreLines (seen_properties ps)
    → n ≡ decimal k.glyphs → length n ≤ 20 → length (front_text name (length ps) k) ≤ 1000
    → length (header_text name (seen_properties ps) k) ≤ longest_header
unfolding header_text
header_long name ps k good e few front =
    let count = ap (λ (n : ℕ). length (front_text name n k)) (length-map ps seen_property) in
    omega (arith, front, count, properties_long (seen_properties ps) good, back_long k e few, length-append {A = ℕ})
