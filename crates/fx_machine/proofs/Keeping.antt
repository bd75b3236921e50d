-- No row changes the number of points or the contours: `row_keeps`.
-- It serves the law that programs keep shapes, over definitions, and the same clause of each instruction and run in code.
use Rattle.std.proofs.Common.{◌≡◌, ℕ, zero, suc, ℤ, pos, negsuc, List, [], ◌∷◌, length, Bool, true, false}
use Rattle.std.proofs.Common.{Option, Some, None, Result, Ok, Err, refl, ◌∙◌, if◌then◌else◌}
use Rattle.std.specs.Prelude.{OnErr, nat_lt}
use Rattle.fx_fixed.specs.Chain.{◌>>=◌}
use Rattle.fx_pointops.specs.declared.zones.Zones.{Zones}
use Rattle.fx_pointops.specs.Zones.{HasShapes}
use Rattle.fx_pointops.proofs.Keeping.{shapes_same, shapes_then, rows_keep}
use Rattle.fx_machine.specs.declared.program.Program.{Program}
use Rattle.fx_machine.specs.declared.definitions.Function.{Function}
use Rattle.fx_machine.specs.declared.halt.Cause.{Cause}
use Rattle.fx_machine.specs.declared.calls.OpenCall.{OpenCall}
use Rattle.fx_machine.specs.declared.action.Action.{Action}
use Rattle.fx_machine.specs.declared.action.Action.TheVariants.{Went, Called, Returned}
use Rattle.fx_machine.specs.declared.state.State.{State}
use Rattle.fx_machine.specs.Effects.{Effect, Ends, Fails, Goes, Calls, Returns}
use Rattle.fx_machine.specs.Runs.{Verdict, Finished, Halted, Exhausted}
use Rattle.fx_machine.specs.Limits.{CALL_LIMIT}
use Rattle.fx_machine.specs.Machine.{Config, config, turned, Move, Finishes, Stops, Moves, moved_by, answer_from, answer_of}
use Rattle.fx_machine.specs.Machine.{verdict_by, verdict_at_limit}
use Rattle.fx_machine.specs.Flow.{jumped, called, times, if_row, jmpr_row, jrot_row, jrof_row, call_row, loopcall_row, fdef_row}
use Rattle.fx_machine.specs.Flow.{idef_row, undefined_row}
use Rattle.fx_machine.specs.StateRows.{spvtl_row, sfvtl_row, sdpvtl_row, instctrl_row}
use Rattle.fx_machine.specs.PointRows.{isect_row, alignpts_row, utp_row, mdap_row, iup_row}
use Rattle.fx_machine.specs.PointRows.{shp_row, shc_row, shz_row, shpix_row}
use Rattle.fx_machine.specs.PointRows.{ip_row, msirp_row, alignrp_row, miap_row, gc_row, scfs_row, md_row, deltap_row, flippt_row}
use Rattle.fx_machine.specs.PointRows.{fliprg_row, mdrp_row, mirp_row}
use Rattle.fx_machine.specs.Table.{opcodes_0x, opcodes_1x, opcodes_2x, opcodes_3x, opcodes_4x, opcodes_5x, opcodes_6x}
use Rattle.fx_machine.specs.Table.{opcodes_7x, opcodes_8x, relative_row, plain_of, then_at}
use Rattle.fx_machine.specs.Table.{row_of, row_in, row_at, settled}
use Rattle.fx_machine.specs.Actions.{acts}
use Rattle.fx_machine.specs.Shapes.{HasSizes, FinishesAlike}

-- ---- sizes

pub sized : (s : State) → HasSizes s s
sized s = record { store = record { room = refl; storage = refl; cvt = refl }; functions = refl; opcodes = refl; scale = refl }

pub sized_then : {s t u : State} → HasSizes s t → HasSizes t u → HasSizes s u
sized_then h k = record {
  store = record {
    room = k.store.room ∙ h.store.room;
    storage = k.store.storage ∙ h.store.storage;
    cvt = k.store.cvt ∙ h.store.cvt;
  };
  functions = k.functions ∙ h.functions;
  opcodes = k.opcodes ∙ h.opcodes;
  scale = k.scale ∙ h.scale;
}

-- ---- words

module _ (z : Zones) where
  -- if a row does not fault, its state has these shapes
  Keeps : {A : Type 0} → (A → State) → Result A Cause → Type 0
  Keeps state (Ok x) = HasShapes z (state x).zones
  Keeps state (Err c) = Unit {0}

  abbrev Plain : Result State Cause → Type 0
  Plain r = Keeps (λ t. t) r

  abbrev Acts : Result (Action × State) Cause → Type 0
  Acts r = Keeps (λ x. x.1) r

  module _ {A : Type 0} (state : A → State) where
    keeps_ok : (x : A) → HasShapes z (state x).zones → Keeps state (Ok x)
    unfolding Keeps
    keeps_ok x h = h

    keeps_err : (c : Cause) → Keeps state (Err c)
    unfolding Keeps
    keeps_err c = tt

    keeps_if : (b : Bool) (x y : Result A Cause) → Keeps state x → Keeps state y → Keeps state (if b then x else y)
    keeps_if true x y h k = h
    keeps_if false x y h k = k

    keeps_bind : {B : Type 0} (r : Result B Cause) (f : B → Result A Cause) → ((x : B) → Keeps state (f x)) → Keeps state (r >>= f)
    unfolding Keeps
    keeps_bind (Ok x) f h = h x
    keeps_bind (Err c) f h = tt

  then_keeps : (next : ℕ) (r : Result State Cause) → Plain r → Acts (then_at next r)
  unfolding Keeps
  then_keeps next (Ok t) h = h
  then_keeps next (Err c) h = tt

ruleset parts = (then_keeps, keeps_if, keeps_bind, keeps_ok, keeps_err, shapes_same)

-- ---- the rows that continue at the next address

plain_keeps : (op : ℕ) (s : State) → Plain s.zones (plain_of op s)
unfolding plain_of opcodes_0x opcodes_1x opcodes_2x opcodes_3x opcodes_4x opcodes_5x opcodes_6x opcodes_7x opcodes_8x
    spvtl_row sfvtl_row sdpvtl_row instctrl_row isect_row alignpts_row utp_row mdap_row iup_row shp_row shc_row shz_row
    shpix_row ip_row msirp_row alignrp_row miap_row gc_row scfs_row md_row deltap_row flippt_row fliprg_row
plain_keeps op s = search (
  parts,
  rows_keep.line,
  rows_keep.isect,
  rows_keep.alignpts,
  rows_keep.utp,
  rows_keep.mdap,
  rows_keep.iup,
  rows_keep.shp,
  rows_keep.shc,
  rows_keep.shz,
  rows_keep.shpix,
  rows_keep.ip,
  rows_keep.msirp,
  rows_keep.alignrp,
  rows_keep.miap,
  rows_keep.gc,
  rows_keep.scfs,
  rows_keep.md,
  rows_keep.deltap,
  rows_keep.flippt,
  rows_keep.fliprg,
) depth 60 fits 40000

relative_keeps : (op : ℕ) (s : State) → Plain s.zones (relative_row op s)
unfolding relative_row mirp_row mdrp_row
relative_keeps op s = search (parts, rows_keep.mirp, rows_keep.mdrp)

-- ---- rows that may continue elsewhere

jumped_keeps : (size : ℕ) (o : ℤ) (z : Zones) (t : State) → HasShapes z t.zones → Acts z (jumped size o t)
unfolding jumped
jumped_keeps size (pos address) z t h = search (parts, h)
jumped_keeps size (negsuc address) z t h = search parts

called_keeps : (k : ℕ) (f : Option Function) (c : Cause) (next : ℕ) (z : Zones) (t : State) → HasShapes z t.zones
    → Acts z (called k f c next t)
unfolding called
called_keeps k (Some f) c next z t h = search (parts, h)
called_keeps k None c next z t h = search parts

times_keeps : (n : ℤ) (f : Option Function) (next : ℕ) (z : Zones) (t : State) → HasShapes z t.zones → Acts z (times n f next t)
unfolding times
times_keeps (pos zero) f next z t h = search (parts, h)
times_keeps (pos (suc n)) f next z t h = called_keeps (suc n) f _ next z t h
times_keeps (negsuc n) f next z t h = search (parts, h)

row_keeps : (op : ℕ) (bytes code : List ℕ) (w : Program) (address next : ℕ) (s : State)
    → Acts s.zones (row_of op bytes code w address next s)
unfolding row_of if_row jmpr_row jrot_row jrof_row call_row loopcall_row fdef_row idef_row undefined_row
row_keeps op bytes code w address next s =
    search (parts, relative_keeps, plain_keeps, jumped_keeps, called_keeps, times_keeps) depth 40 fits 8000

-- ---- runs

KeepsEffect : Zones → Effect → Type 0
KeepsEffect z Ends = Unit {0}
KeepsEffect z (Fails c) = Unit {0}
KeepsEffect z (Goes q t) = HasShapes z t.zones
KeepsEffect z (Calls k f next t) = HasShapes z t.zones
KeepsEffect z (Returns t) = HasShapes z t.zones

settled_keeps : (z : Zones) (r : Result (Action × State) Cause) → Acts z r → KeepsEffect z (settled r)
unfolding Keeps KeepsEffect
settled_keeps z (Ok (Went q, t)) h = h
settled_keeps z (Ok (Called k f next, t)) h = h
settled_keeps z (Ok (Returned, t)) h = h
settled_keeps z (Err c) h = tt

effect_if : (z : Zones) (b : Bool) (x y : Effect) → KeepsEffect z x → KeepsEffect z y → KeepsEffect z (if b then x else y)
effect_if z true x y h k = h
effect_if z false x y h k = k

at_keeps : (code : List ℕ) (w : Program) (p : ℕ) (s : State) → KeepsEffect s.zones (row_in code w p s)
unfolding row_in KeepsEffect
at_keeps code w p s = search (effect_if s.zones, settled_keeps, row_keeps)

-- what code did: on Ok by the row, else nothing
pub code_keeps : (code : List ℕ) (w : Program) (p : ℕ) (s t : State) (r : Result Action Cause)
    → settled (acts r t) ≡ row_in code w p s → OnErr r (t.zones ≡ s.zones) → HasShapes s.zones t.zones
unfolding KeepsEffect
code_keeps code w p s t (Ok (Went q)) e k = rw (← e) at (at_keeps code w p s)
code_keeps code w p s t (Ok (Called n f next)) e k = rw (← e) at (at_keeps code w p s)
code_keeps code w p s t (Ok Returned) e k = rw (← e) at (at_keeps code w p s)
code_keeps code w p s t (Err c) e k = rw k (shapes_same s.zones)

-- the state of a configuration
state_of : Config → State
state_of (config K w p s) = s

KeepsMove : Zones → Move → Type 0
KeepsMove z Finishes = Unit {0}
KeepsMove z (Stops c) = Unit {0}
KeepsMove z (Moves d) = HasShapes z (state_of d).zones

turned_keeps : (z : Zones) (k : ℕ) (f : Function) (next : ℕ) (K : List OpenCall) (w : Program) (t : State) → HasShapes z t.zones
    → HasShapes z (state_of (turned k f next K w t)).zones
unfolding state_of
turned_keeps z zero f next K w t h = h
turned_keeps z (suc k) f next K w t h = h

move_if : (z : Zones) (b : Bool) (x y : Move) → KeepsMove z x → KeepsMove z y → KeepsMove z (if b then x else y)
move_if z true x y h k = h
move_if z false x y h k = k

move_keeps : (z : Zones) (x : Effect) (K : List OpenCall) (w : Program) → KeepsEffect z x → KeepsMove z (moved_by x K w)
unfolding KeepsEffect KeepsMove state_of
move_keeps z Ends [] w h = tt
move_keeps z Ends (g ∷ K) w h = tt
move_keeps z (Fails c) K w h = tt
move_keeps z (Goes q t) K w h = h
move_keeps z (Calls k f next t) K w h = move_if z (nat_lt (length K) CALL_LIMIT) _ _ (turned_keeps z k f next K w t h) tt
move_keeps z (Returns t) [] w h = tt
move_keeps z (Returns t) (g ∷ K) w h = turned_keeps z g.left g.function g.next K g.program t h

-- a verdict that comes of a later state
alike_since : (s t : State) (v : Verdict) → HasShapes s.zones t.zones → FinishesAlike t v → FinishesAlike s v
alike_since s t (Finished n u) h k = shapes_then _ _ _ h k
alike_since s t (Halted c w p) h k = tt
alike_since s t (Exhausted w p) h k = tt

module _ (texts : Program → List ℕ) where
  keeps_none : (n : ℕ) (w : Program) (p : ℕ) (s : State) (m : Move) → FinishesAlike s (verdict_at_limit n w p s m)
  keeps_none n w p s Finishes = shapes_same s.zones
  keeps_none n w p s (Stops c) = tt
  keeps_none n w p s (Moves d) = tt

  keeps_one : (after : Config → Verdict) (n : ℕ) (w : Program) (p : ℕ) (s : State) (m : Move) → KeepsMove s.zones m
      → ((d : Config) → FinishesAlike (state_of d) (after d)) → FinishesAlike s (verdict_by after n w p s m)
  unfolding KeepsMove
  keeps_one after n w p s Finishes h more = shapes_same s.zones
  keeps_one after n w p s (Stops c) h more = tt
  keeps_one after n w p s (Moves d) h more = alike_since s (state_of d) (after d) h (more d)

  keeps_from : (left n : ℕ) (c : Config) → FinishesAlike (state_of c) (answer_from (row_at texts) left n c)
  unfolding answer_from state_of
  keeps_from zero n (config K w p s) = keeps_none n w p s (moved_by (row_at texts w p s) K w)
  keeps_from (suc left) n (config K w p s) = keeps_one (λ to. answer_from (row_at texts) left (suc n) to) n w p s
      (moved_by (row_at texts w p s) K w) (move_keeps s.zones (row_at texts w p s) K w (at_keeps (texts w) w p s))
      (λ d. keeps_from left (suc n) d)

  pub runs_keep : (limit : ℕ) (w : Program) (s : State) → FinishesAlike s (answer_of (row_at texts) limit w s)
  unfolding state_of
  runs_keep limit w s = keeps_from limit 0 (config [] w 0 s)
