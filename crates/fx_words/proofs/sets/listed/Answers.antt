use Rattle.std.proofs.Common.{arith, ◌≡◌, ◌==◌, ◌∙◌, map, ap, codes}
use Rattle.std.proofs.lemmas.List.{take_all}
use Rattle.std.proofs.lemmas.Result.{IfOk-weaker}
use Rattle.std.specs.List.{join_by, slice_split}
use Rattle.fx_words.specs.Parts.{texts}
use Rattle.fx_words.specs.Sets.{meant}
use Rattle.fx_words.proofs.sets.listed.Goals as goal

pub returns : goal.returns
returns c =
    let parts = c.deref-part-items.result.now in
    let apart : texts parts ≡ slice_split (λ b. b == 44) c.args.names.now =
    ap texts c.deref-part-items.ensures.value ∙ c.in_ok-parts.ensures in
    let lists : texts c.deref.result.now ≡ map meant (slice_split (λ b. b == 44) c.args.names.now) =
    ap texts c.deref.ensures.value ∙ c.parts.invariant
    ∙ ap (λ ps. map meant (texts ps)) (take_all c.parts.part-index parts (omega arith)) ∙ ap (map meant) apart in
    IfOk-weaker c.joined.result _ _ (λ list e. e ∙ ap (join_by (λ l. l) (codes ",")) lists) c.joined.ensures
