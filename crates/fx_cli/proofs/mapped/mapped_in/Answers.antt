use Rattle.std.proofs.Common.{◌≡◌, ◌∙◌, ◌+◌, sym, ap, arith, ℕ, length, min, take, take_all}
use Rattle.std.proofs.lemmas.List.{take-append-le}
use Rattle.fx_cmap.specs.Mapped.{mapped_below}
use Rattle.fx_request.specs.Limits.{max_code}
use Rattle.fx_cli.proofs.AllMapped.{mapped_to}
use Rattle.fx_cli.proofs.mapped.mapped_in.Goals as goal

pub returns : goal.returns
returns c =
    let same = c.mapped_below-2.auto.codes in
    let long : length c.mapped_below-2.new.codes ≡ c.in_ok-codes.codes.len = same ∙ c.deref_mut.ensures.len in
    let room : length c.mapped_below-2.new.codes ≡ min c.mapped_below.result c.args.limit =
    long ∙ c.in_ok-codes.ensures.len ∙ c.min-count.ensures in
    take-append-le c.in_ok-codes.codes.len _ _ (omega (arith, long))
    ∙ take_all c.in_ok-codes.codes.len c.mapped_below-2.new.codes (omega (arith, long))
    ∙ mapped_to c.args.map.now c.mapped_below-2.new.codes c.mapped_below.result c.args.limit c.mapped_below.ensures.count room
    (ap (λ (n : ℕ). take n c.mapped_below-2.new.codes)
    (c.mapped_below.ensures.count ∙ sym c.mapped_below-2.ensures.count)
    ∙ c.mapped_below-2.ensures.front
    ∙ ap (λ (n : ℕ). take n (mapped_below c.args.map.now (max_code + 1))) (sym same))
