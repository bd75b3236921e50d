use Rattle.std.proofs.Common.{◌↔◌, ◌+◌, ◌<◌, ℕ, subst, map, arith}
use Rattle.std.proofs.lemmas.Bool.{lt-ltb, ltb-true}
use Rattle.fx_winding.specs.Winding.{span_of, IsCovered}
use Rattle.fx_dropout.specs.inner.Pairs.{seen_spans}
use Rattle.fx_dropout.specs.inner.Places.{place_in, IsCoveredIn}
use Rattle.fx_dropout.proofs.Counts.{count_iff, count_is_one}
use Rattle.fx_dropout.proofs.nearer.is_seen_nearer.Goals as goal

pub returns-clause-value : goal.returns-clause-value
returns-clause-value c =
    let ss = seen_spans c.args.is_turned (map span_of c.args.pieces.now) in
    let places = c.places_of-places.result in
    let At : ℕ → ℕ → Type 0 = λ from n. IsCovered (place_in c.args.pair (n + from)) ss in
    let By : ℕ → ℕ → Type 0 = λ from n. IsCoveredIn places (n + from) in
    let here = c.count_covered in
    let next = c.count_covered-2 in
    let each : (from : ℕ) → from < 66 → (n : ℕ) → n < 63 → By from n ↔ At from n =
    λ from l n m. c.places_of-places.ensures.covered (n + from) (omega (arith, l, m)) in
    let h = count_iff (By 1) (At 1) 63 here.result (each 1 (omega arith)) here.ensures in
    let k = count_iff (By 65) (At 65) 63 next.result (each 65 (omega arith)) next.ensures in (
      λ t. record {
        here = here.result;
        next = next.result;
        first_half = h;
        second_half = k;
        more = ltb-true here.result next.result t;
      },
      λ n.
          let a = count_is_one (At 1) 63 n.here here.result n.first_half h in
          let b = count_is_one (At 65) 63 n.next next.result n.second_half k in
          lt-ltb here.result next.result (subst (λ (z : ℕ × ℕ). z.0 < z.1) (λ t. (a t, b t)) n.more),
    )
