-- The words before and after the command that takes a font, parted, are all words, parted: `parted_is`.
-- Serves `answer_or_run`.
use Rattle.std.proofs.Common.{◌≡◌, ◌∙◌, ℕ, Bool, List, Option, ap, drop, sym, take}
use Rattle.std.specs.Prelude.{codes}
use Rattle.std.specs.Borrow.{Bor}
use Rattle.std.proofs.lemmas.List.{drop-map, take-map}
use Rattle.fx_words.specs.Parts.{PartsView, Text, parts_of, texts}
use Rattle.fx_front.specs.Asked.{command_in}
use Rattle.fx_front.specs.Fronts.{listed_after, parted, parted_by, words_before}
use Rattle.fx_front.specs.Places.{is_named}

pub parted_is : (words before after : List (Bor Text)) {command lists listed : Option Text} {count : ℕ} {is_make : Bool}
    {view : PartsView} → command ≡ command_in (texts words) → count ≡ words_before (texts words)
    → is_make ≡ is_named command (codes "make") → before ≡ take count words → after ≡ drop count words
    → lists ≡ listed_after is_make (texts after) → listed ≡ lists → view ≡ parts_of (texts before) is_make listed (texts after)
    → view ≡ parted (texts words)
parted_is words before after {command} {lists} {listed} {count} {is_make} {view} c n m b a l e v =
    let front : texts before ≡ take (words_before (texts words)) (texts words)
    = ap texts b ∙ sym (take-map (λ (w : Bor Text). w.now) count words) ∙ ap (λ (k : ℕ). take k (texts words)) n in
    let back : texts after ≡ drop (words_before (texts words)) (texts words)
    = ap texts a ∙ sym (drop-map (λ (w : Bor Text). w.now) count words) ∙ ap (λ (k : ℕ). drop k (texts words)) n in
    let make : is_make ≡ is_named (command_in (texts words)) (codes "make")
    = m ∙ ap (λ (o : Option Text). is_named o (codes "make")) c in
    v ∙ ap (λ (o : Option Text). parts_of (texts before) is_make o (texts after)) (e ∙ l)
    ∙ (λ i. parted_by (make i) (front i) (back i))
