use Rattle.std.proofs.Common.{◌∙◌, ◌+◌, ◌++◌, ◌∷◌, [], ◌≡◌, ℕ, List, ap, refl, sym, subst, arith, length, get_or, IfOk, IfErr}
use Rattle.fx_strike.specs.Faults.{Fails}
use Rattle.fx_strike.specs.Strike.{Setting, one_among}
use Rattle.fx_strike.specs.Headline.{IsOneOf}
use Rattle.fx_strike.proofs.Mapping.{chars_pass}
use Rattle.mkstrike_c.specs.declared.gathered.Wanted.{Wanted}
use Rattle.mkstrike_c.specs.Drawn.{Outcome}
use Rattle.mkstrike_c.specs.inner.Gathering.{AreCounted, Holds}
use Rattle.mkstrike_c.proofs.Gathering.{made_at, none_made}
use Rattle.mkstrike_c.proofs.glyphs.gather.Goals as goal

pub chars-init : goal.chars-init
chars-init c = record {
  same = refl;
  counted = c.requires.counted;
  made = none_made c.args.striker.now c.args.none c.requires.none;
}

pub add-requires-clause-few : goal.add-requires-clause-few
add-requires-clause-few c =
    let few = (chars_pass c.args.chars.now (sym c.requires.chars)).few in
    omega (arith, c.chars.invariant.counted.each, c.chars-test.true, few)

pub chars-preserved : goal.chars-preserved
chars-preserved c =
    let at = get_or c.args.chars.now c.chars.code-index 0 in
    let P : Setting → Type 0 = λ s. IfOk c.one_among.result (IsOneOf (one_among s at)) in
    let E : Setting → Type 0 = λ s. IfErr c.one_among.result (λ d. Fails d (one_among s at)) in
    let Q : ℕ → Type 0 = λ n. AreCounted c.add.new.self.drawn n in
    let A : Outcome → Type 0 = λ o. (wanted : Wanted) (codes : List ℕ) (outcomes : List Outcome) → length codes ≡ length outcomes
    → Holds wanted codes outcomes c.chars.gathered → Holds wanted (codes ++ at ∷ []) (outcomes ++ o ∷ []) c.add.new.self in
    record {
      same = c.one_among.ensures.kept ∙ c.chars.invariant.same;
      counted = subst Q (ap (λ (n : ℕ). n + 1) c.chars.invariant.counted.each) c.in_ok-add.ensures.counted;
      made = made_at c.args.striker.now c.args.chars.now c.chars.code-index c.args.none.wanted c.chars.gathered
          c.add.new.self c.one_among.result c.chars-test.true c.chars.invariant.made
          (subst P c.chars.invariant.same c.one_among.ensures.glyph) (subst E c.chars.invariant.same c.one_among.ensures.cause)
          c.in_ok-outcome.ensures.settled (subst A c.in_ok-outcome.ensures.same c.in_ok-add.ensures.holds);
    }
