use Rattle.std.proofs.Common.{◌≡◌, ◌++◌}
use Rattle.fx_vary.proofs.lists.push_ends.Given as goal

-- with the ends that are left, the list is the whole one
abbrev pub invariant-ends : goal.invariant-ends
invariant-ends l = l.list.items ++ l.end-iterator ≡ l.initial.list.items ++ l.simple.ends
