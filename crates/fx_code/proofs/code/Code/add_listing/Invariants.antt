use Rattle.std.proofs.Common.{◌≤◌, ◌-◌, length, Ok}
use Rattle.fx_code.proofs.Lines.{Written}
use Rattle.fx_code.proofs.code.Code.add_listing.Given as goal

-- the lines before the address were added
abbrev pub invariant-lines : goal.invariant-lines
invariant-lines g l = record {
  inside : l.address ≤ length l.self;
  written : Written l.self l.address l.fn.text l.text (Ok tt);
}

abbrev pub decreases-lines : goal.decreases-lines
decreases-lines g l = length l.self - l.address
