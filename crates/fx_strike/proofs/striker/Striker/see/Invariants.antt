use Rattle.std.proofs.Common.{◌≡◌, take}
use Rattle.fx_request.specs.Notices.{HearsAll}
use Rattle.fx_strike.specs.inner.Keeping.{IsKept}
use Rattle.fx_strike.specs.inner.Surveying.{Holds, notices_about}
use Rattle.fx_strike.proofs.striker.Striker.see.Given as goal

-- the setting is as it was, the characters so far were seen and told of, and their lines are kept, if there was room
abbrev pub invariant-mapped : goal.invariant-mapped
invariant-mapped g l = record {
  kept : l.self ≡ l.fn.self;
  lines : IsKept l.fn.self l.refused (take l.m-index l.mapped) l.kept;
  held : Holds l.fn.self l.refused (take l.m-index l.mapped) l.seen;
  heard : HearsAll g.L.Listener.Hears l.fn.listener (notices_about l.fn.self l.refused (take l.m-index l.mapped)) l.listener;
}
