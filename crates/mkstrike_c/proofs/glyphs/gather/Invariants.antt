use Rattle.std.proofs.Common.{◌≡◌, take}
use Rattle.mkstrike_c.specs.inner.Gathering.{AreCounted, AreGathered}
use Rattle.mkstrike_c.proofs.glyphs.gather.Given as goal

-- the characters so far were made
abbrev pub invariant-chars : goal.invariant-chars
invariant-chars l = record {
  same : l.striker ≡ l.initial.striker;
  counted : AreCounted l.gathered.drawn l.code-index;
  made : AreGathered l.initial.striker (take l.code-index l.chars) l.fn.none.wanted l.gathered;
}
