use Rattle.std.proofs.Common.{◌∙◌, ◌++◌, ◌∷◌, ℕ, Option, [], ap, refl, take}
use Rattle.std.specs.Option.{option_or}
use Rattle.mkstrike_c.specs.declared.gathered.Placed.{Placed}
use Rattle.mkstrike_c.specs.declared.refused.Refused.{Refused}
use Rattle.mkstrike_c.specs.Drawn.{refused_in}
use Rattle.mkstrike_c.proofs.Gathering.{holds_push}
use Rattle.mkstrike_c.proofs.gathered.GlyphBuffers.add.Goals as goal

pub returns-clause-holds : goal.returns-clause-holds
returns-clause-holds c wanted codes outcomes long h =
    holds_push wanted codes outcomes c.args.code c.args.outcome.now c.args.self.now _ long h refl
    (c.in_ok-push_within.ensures
    ∙ ap (λ (e : Placed). take c.args.self.now.wanted.entries (c.args.self.now.entries.items ++ e ∷ [])) c.entry_of-entry.ensures)
    c.in_ok-extend_within.ensures c.with_one-self.ensures.value
    (c.or-self.ensures
    ∙ ap (λ (r : Option Refused). option_or c.args.self.now.first r) (c.refused_in.ensures
    ∙ ap (λ (n : ℕ). refused_in n c.args.code c.args.outcome.now) c.counted_in-index.ensures))
