-- A state that holds nothing yet.
use Rattle.std.specs.Prelude.{length, replicate, pos}
use Rattle.fx_sfnt.specs.Tables.{Face}
use Rattle.fx_scale.specs.declared.scale.Scale.{Scale}
use Rattle.fx_machine.specs.declared.state.State.{State}
use Rattle.fx_machine.specs.Known.{controls_of, first_state, first_store}

-- the state that fpgm begins with, but with control values of 0
abbrev pub blank_state : Face → Scale → State
blank_state face scale = record (first_state face scale) {
  store = record (first_store face scale) { cvt = replicate (length (controls_of face scale)) (pos 0) };
}
