use Rattle.std.proofs.Common.{◌-◌, arith}
use Rattle.std.proofs.lemmas.Bool.Decides.{nat_tests}
use Rattle.fx_cli.proofs.Ranges.{one_more}
use Rattle.fx_cli.proofs.missing.Missing.add.Goals as goal
use Rattle.fx_cli.proofs.missing.Missing.add.Goals.{then-not-self+else-self-eq0, else-not-self}

pub returns : goal.returns
returns c = λ names_all ranges begun. elim c.if-not-self.branch [
  | then-not-self+else-self-eq0 w ↦
      one_more names_all ranges c.args.first c.args.last (c.args.self.now.left - 1) c.args.self.now c.put.new.self begun
      (λ e. omega (arith, w.if-self-eq0.false)) (rw w.self-is at c.put.ensures)
  | else-not-self w ↦
      one_more names_all ranges c.args.first c.args.last c.args.self.now.left c.args.self.now c.put.new.self begun
      (λ e. absurd (grind (arith, nat_tests, w.if-not-self.false, begun.all))) (rw w.self-is at c.put.ensures)
]
