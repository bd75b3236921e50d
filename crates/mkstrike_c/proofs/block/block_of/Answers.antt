use Rattle.std.proofs.lemmas.Result.{err_from_is_err_and}
use Rattle.std.proofs.Common.{rules, ◌∙◌, ap, refl, ◌++◌, List, ℕ}
use Rattle.fx_sfnt.specs.Collections.{face_in}
use Rattle.mkstrike_c.proofs.Preparing.{block_made, unmade}
use Rattle.mkstrike_c.proofs.block.block_of.Goals as goal

pub returns-in_err-words-clause-refused : goal.returns-in_err-words-clause-refused
returns-in_err-words-clause-refused c =
    let p = err_from_is_err_and c.from_residual-in_err-words.result c.from_residual-in_err-words.ensures.1 in
    unmade (face_in c.args.font.now c.args.face) c.args.ppem c.args.mode c.in_ok-striker.striker
    c.from_residual-in_err-words.result p.0 p.1 p.2 (rw c.new.ensures at c.in_ok-striker.ensures.setting)

pub returns-in_err-block-clause-refused : goal.returns-in_err-block-clause-refused
returns-in_err-block-clause-refused c =
    let p = err_from_is_err_and c.from_residual-in_err-block.result c.from_residual-in_err-block.ensures.1 in
    unmade (face_in c.args.font.now c.args.face) c.args.ppem c.args.mode c.in_ok-striker.striker
    c.from_residual-in_err-block.result p.0 p.1 p.2 (rw c.new.ensures at c.in_ok-striker.ensures.setting)

pub returns-in_err-push_origin-clause-refused : goal.returns-in_err-push_origin-clause-refused
returns-in_err-push_origin-clause-refused c =
    let p = err_from_is_err_and c.from_residual-in_err-push_origin.result c.from_residual-in_err-push_origin.ensures.1 in
    unmade (face_in c.args.font.now c.args.face) c.args.ppem c.args.mode c.in_ok-striker.striker
    c.from_residual-in_err-push_origin.result p.0 p.1 p.2 (rw c.new.ensures at c.in_ok-striker.ensures.setting)

pub returns-in_err-extend_from_slice-clause-refused : goal.returns-in_err-extend_from_slice-clause-refused
returns-in_err-extend_from_slice-clause-refused c =
    let p = err_from_is_err_and c.from_residual-in_err-extend_from_slice.result
    c.from_residual-in_err-extend_from_slice.ensures.1 in
    unmade (face_in c.args.font.now c.args.face) c.args.ppem c.args.mode c.in_ok-striker.striker
    c.from_residual-in_err-extend_from_slice.result p.0 p.1 p.2 (rw c.new.ensures at c.in_ok-striker.ensures.setting)

pub returns-clause-block : goal.returns-clause-block
returns-clause-block c =
    block_made c.args.font.now c.args.face c.args.ppem c.args.mode c.in_ok-striker.striker c.in-Some.words.items
    c.extend_from_slice.new.self.items (rw c.new.ensures at c.in_ok-striker.ensures.setting)
    (search rules)
    (c.in_ok-extend_from_slice.ensures.items ∙ ap (λ (l : List ℕ). l ++ c.as_slice.result.now) c.in_ok-push_origin.ensures
    ∙ rw (c.in_ok-block.ensures.items, c.as_slice.ensures.value) refl)
