use Rattle.std.proofs.Common.{◌∙◌, ap, ◌==◌, ◌≤◌, ℕ, Option, length, not}
use Rattle.std.proofs.lemmas.List.Sums.{prefix_len-le-length}
use Rattle.std.specs.List.{position_or_len}
use Rattle.std.specs.Prelude.{unwrap_or}
use Rattle.fx_arguments.proofs.Buffers.{place_or_len}
use Rattle.fx_arguments.proofs.input.line_len.Goals as goal

pub returns-clause-value : goal.returns-clause-value
returns-clause-value c =
    let fits : position_or_len (λ b. b == 10) c.args.bytes.now ≤ length c.args.bytes.now =
    prefix_len-le-length (λ b. not (b == 10)) c.args.bytes.now in
    c.unwrap_or.ensures ∙ ap (λ (o : Option ℕ). unwrap_or o (length c.args.bytes.now)) c.line_end.ensures.value ∙
    place_or_len (λ b. b == 10) c.args.bytes.now fits
