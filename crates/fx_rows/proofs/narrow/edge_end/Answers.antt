use Rattle.std.proofs.Common.{◌≡◌, Bool, true, false, not, IsTrue, arith}
use Rattle.fx_winding.specs.Winding.{place_of}
use Rattle.fx_rows.proofs.Narrows.{past_met, past_unmet, met_alone}
use Rattle.fx_rows.proofs.narrow.edge_end.Goals as goal

true_of_not : (b : Bool) → not b ≡ false → IsTrue b
true_of_not b e = grind arith

clash_of_not : (b : Bool) → not b ≡ true → IsTrue b → ⊥
clash_of_not b e t = grind arith

pub returns-then-not-edge : goal.returns-then-not-edge
returns-then-not-edge c = record {
  within = c.requires.edge.edge.within;
  met = λ k h l. absurd (omega (arith, h, l));
  past = λ k h l. past_unmet (place_of c.args.piece.now.a) (place_of c.args.piece.now.c) c.args.strip c.args.edge.at k
      c.requires.edge.edge c.requires.edge.slanted
      (λ z. clash_of_not c.args.edge.met c.if-not-edge.true (c.requires.edge.met.1 z)) h l;
}

pub returns-then-edge-strip : goal.returns-then-edge-strip
returns-then-edge-strip c = record {
  within = c.requires.edge.edge.within;
  met = λ k h l. absurd (omega (arith, h, l));
  past = λ k h l. absurd (omega (arith, h, l));
}

pub returns : goal.returns
returns c =
    let a = place_of c.args.piece.now.a in
    let b = place_of c.args.piece.now.c in
    record {
      within = omega arith;
      met = λ k h l. met_alone a b c.args.strip c.args.edge.at k h (omega arith)
          (c.requires.edge.met.0 (true_of_not c.args.edge.met c.if-not-edge.false));
      past = λ k h l. past_met a b c.args.strip c.args.edge.at k c.requires.edge.edge c.requires.edge.slanted (omega arith) l;
    }
