use Rattle.std.proofs.Common.{◌∙◌, subst, [], Some, IfOk, IfErr, Result}
use Rattle.fx_request.specs.declared.refusal.Refusal.{Refusal}
use Rattle.fx_request.specs.declared.request.OnRefused.TheVariants.{Stop}
use Rattle.fx_strike.specs.Strike.{Opening, Plan, opened_of, plan_of}
use Rattle.mkstrike_c.specs.Made.{HoldsText, called}
use Rattle.mkstrike_c.specs.Modes.{mode_of}
use Rattle.mkstrike_c.specs.Refused.{IsReason}
use Rattle.mkstrike_c.proofs.Requested.{asked_opened, asked_plan, same_opened, same_plan}
use Rattle.mkstrike_c.proofs.making.text_for.Goals as goal

pub returns-clause-text : goal.returns-clause-text
returns-clause-text c =
    let made = asked_plan c.args.font.now c.args.ppem c.args.mode c.name_of.result.now c.args.chars.now c.is_x11.result
    c.mode_of.result c.is_x11.ensures c.mode_of.ensures
    ∙ same_plan c.args.font.now c.args.ppem c.args.mode c.args.name.now c.name_of.result.now c.args.chars.now
    (mode_of c.args.mode) c.name_of.ensures in
    let P : Result Plan Refusal → Type 0 =
    λ strike. IfOk c.text_of.result (λ made. HoldsText strike (Some made.0.text.items) made.1) in
    subst P made c.text_of.ensures.text

pub returns-clause-refused : goal.returns-clause-refused
returns-clause-refused c =
    let opened = asked_opened c.args.font.now c.args.ppem c.args.mode c.name_of.result.now c.args.chars.now c.is_x11.result
    c.is_x11.ensures
    ∙ same_opened c.args.font.now c.args.ppem c.args.mode c.args.name.now c.name_of.result.now c.args.chars.now
    c.name_of.ensures in
    let made = asked_plan c.args.font.now c.args.ppem c.args.mode c.name_of.result.now c.args.chars.now c.is_x11.result
    c.mode_of.result c.is_x11.ensures c.mode_of.ensures
    ∙ same_plan c.args.font.now c.args.ppem c.args.mode c.args.name.now c.name_of.result.now c.args.chars.now
    (mode_of c.args.mode) c.name_of.ensures in
    let P : Result Plan Refusal → Type 0 =
    λ strike. IfErr c.text_of.result (IsReason (opened_of c.args.font.now c.args.ppem
    (record { name = c.name_of.result.now; properties = []; x11 = c.is_x11.result }) c.args.chars.now) strike) in
    let Q : Opening → Type 0 = λ opening. IfErr c.text_of.result (IsReason opening
    (plan_of c.args.font.now c.args.ppem (called c.args.mode c.args.name.now) c.args.chars.now (mode_of c.args.mode) Stop)) in
    subst Q opened (subst P made c.text_of.ensures.refused)
