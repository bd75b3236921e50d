use Rattle.std.proofs.Common.{◌≡◌, ◌-◌, ◌<◌, ◌≤◌, nat_le, length, get_or, sym, ap, ◌∙◌, arith}
use Rattle.std.specs.List.{position_or_len}
use Rattle.std.proofs.lemmas.Bool.{ltb-true}
use Rattle.fx_cmap.proofs.Searching.{rising_between, first_is}
use Rattle.fx_cmap.proofs.rising.RisingCodes.is_first_reaching.Goals as goal
use Rattle.fx_cmap.proofs.rising.RisingCodes.is_first_reaching.Goals.{else-k-len-2-via-then-k-len-2+else-at-code, else-k-len-2-via-else-k-len-2}

pub returns-else-k-eq0 : goal.returns-else-k-eq0
returns-else-k-eq0 c h =
    let codes = c.self.inside.codes in
    let k = c.args.k in
    let size : length codes ≡ length c.args.self.now = ap length c.self.view_is in
    let reaches : k < length codes → c.args.code ≤ get_or codes k 0 =
    elim c.else-k-len-2.branch [
      | else-k-len-2-via-then-k-len-2+else-at-code w ↦ λ lt. omega (arith, w.at.ensures, w.if-at-code.false)
      | else-k-len-2-via-else-k-len-2 w ↦ λ lt. absurd (omega (arith, w.if-k-len-2.false, c.len-2.ensures, size, lt))
    ] in
    ap (position_or_len (nat_le c.args.code)) (sym c.self.view_is)
    ∙ first_is codes c.args.code k (omega (arith, c.if-k-len.false, c.len.ensures, size))
    (λ j lt. let order = rising_between 0 codes j (k - 1) c.self.invariant (omega arith)
    (omega (arith, c.if-k-len.false, c.len.ensures, size, lt)) in
    omega (arith, order, c.at-else-k-eq0.ensures, ltb-true _ _ h))
    reaches
