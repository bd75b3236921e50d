-- A range that is named after others makes these and one more: `one_more`.
-- Serves `add`.
use Rattle.std.proofs.Common.{◌≡◌, ◌∙◌, ◌+◌, ◌<◌, ℕ, Bool, true, false, List, [], ◌∷◌, ◌++◌, length, Some}
use Rattle.std.proofs.Common.{refl, sym, ap, arith, length-append, append-nil, append_assoc, nat_lt, take_all}
use Rattle.std.specs.Prelude.{if◌then◌else◌}
use Rattle.std.specs.List.{flat_map}
use Rattle.std.proofs.lemmas.Bool.Decides.{nat_tests}
use Rattle.fx_front.proofs.Saying.{chained}
use Rattle.fx_cli.specs.Missing.{Begun, Puts, are_more, few, named, range_said, ranges_said}
use Rattle.fx_cli.specs.declared.missing.Missing.{Missing}

-- the text of ranges, and of one more
all_said : (ranges : List (ℕ × ℕ)) (range : ℕ × ℕ)
    → flat_map (λ more. 44 ∷ range_said more) (ranges ++ range ∷ [])
    ≡ flat_map (λ more. 44 ∷ range_said more) ranges ++ 44 ∷ range_said range
all_said [] range = append-nil (44 ∷ range_said range)
all_said (r ∷ ranges) range = let rest = all_said ranges range in grind (arith, append_assoc, rest)

said_more : (ranges : List (ℕ × ℕ)) (range : ℕ × ℕ) (begun : Bool) → begun ≡ nat_lt 0 (length ranges)
    → ranges_said (ranges ++ range ∷ []) ≡ ranges_said ranges ++ ((if begun then 44 ∷ [] else []) ++ range_said range)
said_more [] range begun e = rw e (append-nil (range_said range))
said_more (r ∷ ranges) range begun e = let rest = all_said ranges range in rw e (grind (arith, append_assoc, rest))

part : (ranges : List (ℕ × ℕ)) (range : ℕ × ℕ) → length ranges < few
    → named false (ranges ++ range ∷ []) ≡ named false ranges ++ range ∷ []
part ranges range h =
    let long = length-append ranges (range ∷ []) in
    take_all few (ranges ++ range ∷ []) (omega (arith, long))
    ∙ ap (λ (rs : List (ℕ × ℕ)). rs ++ range ∷ []) (sym (take_all few ranges (omega arith)))

named_more : (names_all : Bool) (ranges : List (ℕ × ℕ)) (range : ℕ × ℕ) → (names_all ≡ false → length ranges < few)
    → named names_all (ranges ++ range ∷ []) ≡ named names_all ranges ++ range ∷ []
named_more true ranges range h = refl
named_more false ranges range h = part ranges range (h refl)

begun_by : (names_all : Bool) (ranges : List (ℕ × ℕ)) → (names_all ≡ false → length ranges < few)
    → nat_lt 0 (length ranges) ≡ nat_lt 0 (length (named names_all ranges))
begun_by true ranges h = refl
begun_by false ranges h = ap (λ (rs : List (ℕ × ℕ)). nat_lt 0 (length rs)) (sym (take_all few ranges (omega (arith, h refl))))

more_by : (names_all : Bool) (ranges : List (ℕ × ℕ)) (range : ℕ × ℕ) → (names_all ≡ false → length ranges < few)
    → are_more names_all ranges ≡ are_more names_all (ranges ++ range ∷ [])
more_by true ranges range h = refl
more_by false ranges range h =
    let long = length-append ranges (range ∷ []) in
    let room : length ranges < few = h refl in grind (arith, nat_tests)

pub one_more : (names_all : Bool) (ranges : List (ℕ × ℕ)) (first last left : ℕ) (old new : Missing)
    → Begun names_all ranges old → (names_all ≡ false → left + 1 ≡ old.left) → Puts first last (record old { left = left }) new
    → Begun names_all (ranges ++ (first, last) ∷ []) new
one_more names_all ranges first last left old new b room p =
    let few_so_far : names_all ≡ false → length ranges < few = λ e. omega (arith, room e, b.left e) in
    let long = length-append ranges ((first, last) ∷ []) in
    let said = said_more (named names_all ranges) (first, last) old.is_begun (b.begun ∙ begun_by names_all ranges few_so_far) in
    let text = rw (sym said) at (chained (ranges_said (named names_all ranges))
    ((if old.is_begun then 44 ∷ [] else []) ++ range_said (first, last)) (Some []) old.text new.text b.text p.text) in
    record {
      text = rw (named_more names_all ranges (first, last) few_so_far) text;
      more = p.more ∙ b.more ∙ more_by names_all ranges (first, last) few_so_far;
      begun = p.begun ∙ grind (arith, nat_tests);
      all = p.all ∙ b.all;
      left = λ e. omega (arith, p.left, room e, b.left e, long);
    }
