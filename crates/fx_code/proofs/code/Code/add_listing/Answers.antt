use Rattle.std.proofs.Common.{◌++◌, ◌∷◌, [], List, ℕ, ap, arith, rules}
use Rattle.std.proofs.lemmas.Result.{err_from_is_err_and}
use Rattle.fx_code.proofs.Lines.{written_start, written_on, written_not, written_end}
use Rattle.fx_fixed.proofs.Texts.{adds_text}
use Rattle.fx_code.proofs.code.Code.add_listing.Goals as goal

pub lines-init : goal.lines-init
lines-init g c = record { inside = omega arith; written = written_start c.args.self.now c.args.text.now }

pub returns-in_err-add : goal.returns-in_err-add
returns-in_err-add g c =
    let line = adds_text (ap (λ (t : List ℕ). t ++ 10 ∷ []) c.text.ensures) c.in_err-add.ensures in
    let next = c.put_instruction-next.ensures in
    let t = written_not (omega (arith, next.next))
    (written_on (omega arith) next.next next.words (next.short (omega arith)) c.lines.invariant.written line) in
    let p = err_from_is_err_and c.from_residual.result c.from_residual.ensures.1 in
    rw (p.1, p.2) (record { text = t.text; ended = tt; short = t.short })

pub lines-preserved : goal.lines-preserved
lines-preserved g c =
    let line = adds_text (ap (λ (t : List ℕ). t ++ 10 ∷ []) c.text.ensures) c.in_ok-add.ensures in
    let next = c.put_instruction-next.ensures in
    record {
      inside = omega (arith, next.next);
      written = written_on (omega arith) next.next next.words (next.short (omega arith)) c.lines.invariant.written line;
    }

pub returns : goal.returns
returns g c =
    let t = written_end (omega (arith, c.lines.invariant.inside, c.lines-test.false, c.len.ensures)) c.lines.invariant.written
    c.end.ensures.adds in
    record { text = t.text; ended = search rules; short = t.short }
