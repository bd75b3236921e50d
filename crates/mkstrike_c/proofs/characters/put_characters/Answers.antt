use Rattle.std.proofs.Common.{◌≡◌, ◌+◌, subst, ℕ, length, take, drop}
use Rattle.fx_cmap.specs.Mapped.{mapped_below}
use Rattle.fx_request.specs.Limits.{max_code}
use Rattle.mkstrike_c.proofs.characters.put_characters.Goals as goal

pub returns-clause-front : goal.returns-clause-front
returns-clause-front c = record {
  front =
      subst (λ (n : ℕ). take n c.mapped_below.new.codes
      ≡ take (length c.args.chars.now) (mapped_below c.args.char_map.now (max_code + 1)))
      c.mapped_below.ensures.count c.mapped_below.ensures.front;
  rest =
      subst (λ (n : ℕ). drop n c.mapped_below.new.codes ≡ drop n c.args.chars.now)
      c.mapped_below.ensures.count c.mapped_below.ensures.rest;
}
