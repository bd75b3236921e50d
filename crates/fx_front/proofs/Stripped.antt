-- `strip_suffix` of a text gives what is before an end: `stripped_end`.
use Rattle.std.proofs.Common.{◌≡◌, ◌∙◌, take, length, ap, refl, Option, Some, None, true, false, arith, ◌-◌}
use Rattle.std.specs.Prelude.{MatchOption, eqb}
use Rattle.std.specs.Borrow.{Bor}
use Rattle.std.specs.List.{ends_with}
use Rattle.std.specs.Str.Pattern.{FindsTextSuffix, StripsSuffix}
use Rattle.std.proofs.lemmas.Slice.Eq.{ends_is}
use Rattle.std.proofs.lemmas.Str.Pattern.{ends_text}
use Rattle.std.proofs.lemmas.Bool.Decides.{Decides-eqb}
use Rattle.fx_words.specs.Parts.{Text, text_in}
use Rattle.fx_front.specs.Mistaken.{before_end}

-- what is before an end
pub stripped_end : (end text : Text) (r : Option (Bor Text))
    → MatchOption r (FindsTextSuffix end text None) (λ x. StripsSuffix (FindsTextSuffix end) text x.now)
    → text_in r ≡ before_end end text
stripped_end end text None h = let no = ends_text false end text h in grind arith
stripped_end end text (Some x) h =
    let yes : ends_with eqb text end ≡ true = (ends_is Decides-eqb text end _ refl).1 _ h.1.1 in
    let same : x.now ≡ take (length text - length end) text = h.2 ∙ ap (λ n. take (length text - n) text) h.1.0 in
    grind arith
