use Rattle.std.proofs.Common.{◌≡◌, ◌∙◌, ◌+◌, ℕ, Option, Some, None, Bor, add-one, ap, lit<, sym, take, unwrap_or, arith}
use Rattle.std.specs.Str.{IsCharBoundary}
use Rattle.std.specs.Str.Pattern.{GetsRange}
use Rattle.std.proofs.lemmas.Str.{IsCharBoundary-after_ascii, IsCharBoundary-start}
use Rattle.std.proofs.lemmas.Str.Pattern.{rfind_char}
use Rattle.fx_words.specs.Parts.{Text}
use Rattle.fx_front.proofs.Folders.{folder_is, no_folder}
use Rattle.fx_front.proofs.paths.folder_of.Goals as goal

got : (path : Text) (k : ℕ) (r : Option (Bor Text)) (x default : Bor Text) → GetsRange path 0 (k + 1) r → IsCharBoundary path 0
    → IsCharBoundary path (k + 1) → x ≡ unwrap_or r default → x.now ≡ take (k + 1) path
got path k None x default h a b e = absurd (h (omega arith) a b)
got path k (Some y) x default h a b e =
    let same : y.now ≡ take (k + 1) path = grind (arith, h.0) in ap (λ (z : Bor Text). z.now) e ∙ same

pub returns-in-Some : goal.returns-in-Some
returns-in-Some c =
    let path = c.args.path.now in
    let found = rfind_char 47 path (Some c.in-Some.at) c.in-Some.ensures.cases (lit< tt) in
    let end = IsCharBoundary-after_ascii path c.in-Some.at c.utf8.path found.0 (omega (arith, found.1)) in
    got path c.in-Some.at c.get.result _ _ c.get.ensures.cases (IsCharBoundary-start path c.utf8.path) end c.unwrap_or.ensures
    ∙ rw add-one (folder_is path c.in-Some.at found.0 found.1 found.2)

pub returns-in-None : goal.returns-in-None
returns-in-None c = sym (no_folder c.args.path.now (rfind_char 47 c.args.path.now None c.in-None.ensures.cases (lit< tt)))
