use Rattle.std.proofs.Common.{◌+◌, ◌-◌, List, ℕ, drop, take, arith}
use Rattle.fx_code.proofs.Pushed.{at_most_255, few_numbers, taken_most}
use Rattle.fx_code.proofs.code.Code.at.Goals as goal

pub returns-clause-few : goal.returns-clause-few
returns-clause-few c =
    let begin : ℕ = c.args.address + c.head_of-head.result in
    let end : ℕ = c.args.address + (c.head_of-head.result + c.data_of.result) in
    let rest : List ℕ = drop begin c.self.inside.bytes.now in
    at_most_255 c.in-Some.opcode.now _ (omega (arith, taken_most (end - begin) rest, c.data_of.ensures.few))

pub returns-then-not-has_data-clause-few : goal.returns-then-not-has_data-clause-few
returns-then-not-has_data-clause-few c =
    let next : ℕ = c.args.address + 1 in
    let rest : List ℕ = drop next c.self.inside.bytes.now in
    omega (arith, few_numbers c.in-Some.opcode.now (take (next - next) rest), taken_most (next - next) rest)
