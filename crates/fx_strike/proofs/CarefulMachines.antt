-- A machine whose `fpgm` and `prep` had a budget is the one that is due: `careful_ok`; or they did more than they may: `font_over`.
-- Serves `careful_machine`.
use Rattle.std.proofs.Common.{◌≡◌, refl, sym, ap, ◌∙◌, ℕ, ◌+◌, ◌-◌, ◌≤◌, ◌<◌, true, false, Option, Some, Result, Ok, Err, arith}
use Rattle.std.specs.Prelude.{is_none, nat_lt}
use Rattle.std.proofs.lemmas.Bool.Decides.{nat_tests}
use Rattle.fx_sfnt.specs.Tables.{Face}
use Rattle.fx_machine.specs.declared.halt.MachineFault.{MachineFault}
use Rattle.fx_machine.specs.declared.halt.MachineFault.TheVariants.{Halted, OutOfMemory}
use Rattle.fx_machine.specs.declared.work.WorkBudget.{WorkBudget}
use Rattle.fx_machine.specs.Known.{Known, machine_of, machine_events, seen_by}
use Rattle.fx_machine.specs.Known as machine
use Rattle.fx_machine.specs.Work.{Budgets, paid}
use Rattle.fx_machine.proofs.Working.{is_paid}
use Rattle.fx_request.specs.Faults.{of_machine}
use Rattle.fx_strike.specs.Careful.{character_work, is_font_over, prelude_size, so_much}
use Rattle.fx_request.specs.declared.refusal.Refusal.TheVariants as refusal
use Rattle.fx_strike.specs.Numbered.{is_over_by, is_work_over}
use Rattle.fx_strike.specs.Strike.{machine_within, Opened, Refusal, Fails}
use Rattle.fx_strike.proofs.Fates.{named}

-- some work is more than is left of a limit exactly if that is more than the limit with what was taken of it
over_both : (most size work : ℕ) → size ≤ most → is_none (paid work (Some (most - size))) ≡ nat_lt most (size + work)
over_both most size work h = grind (arith, nat_tests, h)

-- programs with more bytes than they may do work do more, whatever runs of them
pub size_over : (face : Face) (ppem : ℕ) → character_work < prelude_size face → is_font_over face ppem ≡ true
unfolding is_font_over
size_over face ppem h = grind (arith, nat_tests, h)

module _ (face : Face) (ppem : ℕ) (now : WorkBudget) (small : prelude_size face ≤ character_work) where
  -- the budget saw both
  abbrev Saw : {Y : Type 0} → Result Y MachineFault → Type 0
  Saw r = Budgets (so_much (character_work - prelude_size face)) (seen_by r (machine_events face ppem)) now

  -- it is spent exactly if they did more work than they may
  over_is : Budgets (so_much (character_work - prelude_size face)) (machine_events face ppem) now
      → is_none now.left ≡ is_font_over face ppem
  unfolding is_font_over
  over_is s = ap is_none (is_paid _ _ now s) ∙ over_both character_work (prelude_size face) _ small

  -- they did more work than they may
  pub font_over : {Y : Type 0} (r : Result Y MachineFault) → Saw r → is_none now.left ≡ true → is_font_over face ppem ≡ true
  font_over (Ok y) s e = sym (over_is s) ∙ e
  font_over (Err (Halted halt)) s e = sym (over_is s) ∙ e
  font_over (Err OutOfMemory) s e = absurd (cc (s, e))

  -- they did not
  pub careful_ok : {Y : Type 0} (y : Y) (known : Known) → Saw (Ok y) → is_none now.left ≡ false → machine_of face ppem ≡ Ok known
      → machine_within face ppem true ≡ Ok known
  unfolding machine_within
  careful_ok y known s e h = rw (sym (over_is s) ∙ e, h) refl

  pub careful_halt : {Y : Type 0} (r : Result Y MachineFault) (fault : MachineFault) → r ≡ Err fault → Saw r
      → is_none now.left ≡ false → machine.Fails fault (machine_of face ppem)
      → Fails (of_machine fault) (machine_within face ppem true)
  unfolding machine_within
  careful_halt r (Halted halt) q s e h = rw (sym (over_is (rw q at s)) ∙ e, h) refl
  careful_halt r OutOfMemory q s e h = tt

-- ---- the programs of a glyph too

not_over_by : (d : Refusal) (opened : Opened) (glyph : Option ℕ) → (d ≡ refusal.TooMuchWork → ⊥)
    → is_over_by (Err d) opened glyph ≡ false
not_over_by refusal.TooMuchWork opened glyph n = absurd (n refl)
not_over_by d opened glyph n = refl

-- another cause than too much work is none of this
pub work_not_over : (opened : Opened) (glyph : Option ℕ) (d : Refusal) → (d ≡ refusal.TooMuchWork → ⊥)
    → (d ≡ refusal.OutOfMemory → ⊥) → Fails d (machine_within opened.font opened.ppem true)
    → false ≡ is_work_over opened glyph
unfolding is_work_over
work_not_over opened glyph d n m f = rw (named d _ m f) (sym (not_over_by d opened glyph n))
