use Rattle.std.proofs.Common.{ℕ, ◌<◌, length, arith}
use Rattle.fx_trace.specs.Changes.{setting_change}
use Rattle.fx_trace.proofs.Pairs.{pairs_none, pairs_more, pairs_all}
use Rattle.fx_trace.proofs.changes.add_settings.Goals as goal

pub settings-init : goal.settings-init
settings-init g c = pairs_none (λ (n : ℕ). setting_change) c.args.was.now c.args.now.now

pub settings-preserved : goal.settings-preserved
settings-preserved g c =
    let below : c.settings.i < length c.args.was.now = omega (arith, c.settings-test.true, c.min-i-end.ensures) in
    let within : c.settings.i < length c.args.now.now = omega (arith, c.settings-test.true, c.min-i-end.ensures) in
    pairs_more (λ (n : ℕ). setting_change) c.index-was-i.result c.index-now-i.result c.settings.invariant
    c.index-was-i.is c.index-now-i.is below within c.add_setting.ensures

pub returns : goal.returns
returns g c =
    pairs_all (λ (n : ℕ). setting_change) c.settings.invariant
    (omega (arith, c.settings-test.false, c.settings.auto.i-end, c.min-i-end.ensures))
