use Rattle.std.proofs.Common.{◌≡◌, take}
use Rattle.std.specs.Prelude.{IsTrue}
use Rattle.fx_hint.proofs.kept.are_same.Given as goal

abbrev pub invariant-bytes : goal.invariant-bytes
invariant-bytes l = IsTrue l.same → take l.number l.one ≡ take l.number l.other
