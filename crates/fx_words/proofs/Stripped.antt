-- `strip_prefix` of a text gives what follows a beginning: `stripped_start`.
use Rattle.std.proofs.Common.{◌≡◌, ◌∙◌, drop, length, ap, refl, Option, Some, None, true, false, arith}
use Rattle.std.specs.Prelude.{MatchOption, eqb}
use Rattle.std.specs.Borrow.{Bor}
use Rattle.std.specs.List.{starts_with}
use Rattle.std.specs.Str.Pattern.{FindsTextPrefix, StripsPrefix}
use Rattle.std.proofs.lemmas.Slice.Eq.{starts_is}
use Rattle.std.proofs.lemmas.Str.Pattern.{starts_text}
use Rattle.std.proofs.lemmas.Bool.Decides.{Decides-eqb}
use Rattle.fx_words.specs.Parts.{Text, after_start, text_in}

-- what follows a beginning
pub stripped_start : (start text : Text) (r : Option (Bor Text))
    → MatchOption r (FindsTextPrefix start text None) (λ x. StripsPrefix (FindsTextPrefix start) text x.now)
    → text_in r ≡ after_start start text
stripped_start start text None h = let no = starts_text false start text h in grind arith
stripped_start start text (Some x) h =
    let yes : starts_with eqb text start ≡ true = (starts_is Decides-eqb text start _ refl).1 _ h.1.1 in
    let same : x.now ≡ drop (length start) text = h.2 ∙ ap (λ n. drop n text) h.1.0 in
    grind arith
