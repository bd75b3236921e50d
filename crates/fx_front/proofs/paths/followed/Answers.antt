use Rattle.std.proofs.Common.{◌+◌, ◌-◌, arith, refl, Some, None}
use Rattle.std.specs.Prelude.{string_bytes}
use Rattle.fx_front.specs.Links.{most_links}
use Rattle.fx_front.specs.declared.disk.Link.TheVariants.{To, Ends, Unread}
use Rattle.fx_front.proofs.Following.{no_more, one_more}
use Rattle.fx_front.proofs.paths.followed.Goals as goal

pub returns-in-Ends : goal.returns-in-Ends
returns-in-Ends g c =
    c.links.invariant (Some (string_bytes c.links.name))
    (one_more _ _ (most_links - (c.links.k + 1)) _ Ends _ (omega arith) (rw c.as_str.ensures.value at c.in-Ends.ensures) refl)

pub returns-in-Unread : goal.returns-in-Unread
returns-in-Unread g c =
    c.links.invariant None
    (one_more _ _ (most_links - (c.links.k + 1)) _ Unread _ (omega arith) (rw c.as_str.ensures.value at c.in-Unread.ensures) refl)

pub links-preserved : goal.links-preserved
links-preserved g c = λ found goes.
    c.links.invariant found
    (one_more _ _ (most_links - (c.links.k + 1)) _ (To c.in-To.target) found (omega arith)
    (rw c.as_str.ensures.value at c.in-To.ensures)
    (rw (c.in_ok-name-in-To.ensures, c.as_str-in-To.ensures.value, c.as_str-in-To-2.ensures.value) at goes))

pub returns : goal.returns
returns g c = c.links.invariant None (no_more _ _ _ (omega arith))
