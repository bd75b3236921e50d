-- FONT and `-o FILE` leave the words for the program as they are: `names_are_apart`.
-- Serves `laws::names`.
use Rattle.std.proofs.Common.{◌≡◌, ◌∙◌, refl, sym, ap, Bool, true, false, codes, Option, Some, None, if◌then◌else◌}
use Rattle.std.specs.Prelude.{◌||◌, is_some, not}
use Rattle.std.specs.Str.{bytes_eq}
use Rattle.fx_words.specs.declared.parts.WordKind.{WordKind}
use Rattle.fx_words.specs.declared.parts.WordKind.TheVariants.{Name}
use Rattle.fx_words.specs.declared.parts.Next.{Next}
use Rattle.fx_words.specs.declared.parts.Next.TheVariants as next
use Rattle.fx_words.specs.Parts.{NamesAreApart, PartsView, Text, end, first, first_by, is_option, kept, kind_of, named_by, put_by, step, step_by}

or_true : (a : Bool) → (a || true) ≡ true
or_true true = refl
or_true false = refl

after_font : (parts : PartsView) (font : Text) → parts.font ≡ None → parts.next ≡ next.Any
    → kind_of parts.is_make (is_some parts.listed) font ≡ Name
    → step parts font ≡ record parts { font = Some font; next = next.Any }
after_font parts font f n k =
    ap (λ (x : Next). step_by x parts font) n ∙ ap (λ (x : WordKind). first_by x parts font) k
    ∙ ap (λ (x : Option Text). named_by x parts font next.Any) f

after_option : (parts : PartsView) (font : Text)
    → step (record parts { font = Some font; next = next.Any }) (codes "-o") ≡ record parts { font = Some font; next = next.Output }
after_option parts font = refl

after_output : (parts : PartsView) (font output : Text) → parts.output ≡ None → is_option output ≡ false
    → step (record parts { font = Some font; next = next.Output }) output
    ≡ record parts { font = Some font; output = Some output; next = next.Any }
after_output parts font output o p =
    let here : PartsView = record parts { font = Some font; next = next.Output } in
    ap (λ (x : Bool). if bytes_eq output (codes "-") || not x then put_by parts.output here output
    else first (kept here (codes "-o") next.Any) output) p
    ∙ ap (λ (x : Bool). if x then put_by parts.output here output else first (kept here (codes "-o") next.Any) output)
    (or_true (bytes_eq output (codes "-")))
    ∙ ap (λ (x : Option Text). put_by x here output) o

at_end : (parts : PartsView) (font output : Text) → parts.next ≡ next.Any
    → end (record parts { font = Some font; output = Some output; next = next.Any })
    ≡ end (record parts { font = Some font; output = Some output })
at_end parts font output n = ap (λ (x : Next). end (record parts { font = Some font; output = Some output; next = x })) (sym n)

pub names_are_apart : NamesAreApart
names_are_apart parts font output f o n k p =
    ap (λ (x : PartsView). end (step (step x (codes "-o")) output)) (after_font parts font f n k)
    ∙ ap (λ (x : PartsView). end (step x output)) (after_option parts font)
    ∙ ap (λ (x : PartsView). end x) (after_output parts font output o p)
    ∙ at_end parts font output n
