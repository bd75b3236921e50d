use Rattle.std.specs.Prelude.{Ok}
use Rattle.fx_fixed.specs.Texts.{Adds, Fails}
use Rattle.fx_cli.specs.Faces.{face_lines}
use Rattle.fx_cli.proofs.faces.add_faces.Given as goal

-- the lines of the faces so far were added
abbrev pub invariant-faces : goal.invariant-faces
invariant-faces g l = Adds Fails l.fn.text l.text (face_lines l.bytes l.face) (Ok tt)
