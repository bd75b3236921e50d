-- A line that says what is wrong is its pieces in turn (`all_said`), with the word after the longest good beginning: `words_at`.
-- Serves the functions of `mistakes`.
use Rattle.std.proofs.Common.{◌≡◌, ◌∙◌, sym, ap, refl, ℕ, zero, suc, ◌≤◌, List, [], ◌∷◌, ◌++◌, drop, take, length}
use Rattle.std.proofs.Common.{Bool, true, false, Result, Err, cond, subst}
use Rattle.std.specs.Prelude.{slice_index_or}
use Rattle.std.specs.List.{flat_map}
use Rattle.std.specs.Borrow.{Bor}
use Rattle.std.proofs.lemmas.List.{drop-map, length-map, take_all}
use Rattle.clap.specs.Words.{Text}
use Rattle.fx_arguments.specs.declared.said.Said.{Said}
use Rattle.fx_arguments.specs.declared.verb.Verb.{Verb}
use Rattle.fx_arguments.specs.Arguments.{texts}
use Rattle.fx_arguments.specs.Mistakes.{SaysUnless, is_taken, taken_words, word_said, words_said}
use Rattle.fx_arguments.specs.Wrong.{said}

-- ---- pieces

pieces_joined : (ps : List (Bor Text)) → flat_map (λ p. p.now) ps ≡ flat_map (λ p. p) (texts ps)
pieces_joined [] = refl
pieces_joined (p ∷ ps) = ap (λ (t : Text). p.now ++ t) (pieces_joined ps)

pub all_said : (ps : List (Bor Text)) (i : ℕ) (items new : Text) → length ps ≤ i → items ≡ flat_map (λ p. p.now) (take i ps)
    → new ≡ items ++ 10 ∷ [] → new ≡ said (texts ps)
all_said ps i items new h e d =
    d ∙ ap (λ (t : Text). t ++ 10 ∷ [])
    (e ∙ ap (λ (qs : List (Bor Text)). flat_map (λ p. p.now) qs) (take_all i ps h) ∙ pieces_joined ps)

-- ---- words

pub texts_take : (n : ℕ) (ws : List (Bor Text)) → take n (texts ws) ≡ texts (take n ws)
texts_take zero ws = refl
texts_take (suc n) [] = refl
texts_take (suc n) (w ∷ ws) = ap (λ (l : List Text). w.now ∷ l) (texts_take n ws)

texts_drop : (n : ℕ) (ws : List (Bor Text)) → texts (drop n ws) ≡ drop n (texts ws)
texts_drop n ws = sym (drop-map (λ (w : Bor Text). w.now) n ws)

-- the word after the longest beginning that the command takes
pub words_at : (verb : Verb) (ws : List (Bor Text)) (n : ℕ) (name word next : Text) (r : Result (Unit {0}) Said)
    → taken_words verb (texts ws) (length ws) ≡ n → name ≡ slice_index_or (texts ws) 0 []
    → word ≡ slice_index_or (texts (drop n ws)) 0 [] → next ≡ slice_index_or (texts (drop n ws)) 1 []
    → SaysUnless {B = Unit {0}} (λ u. u) r (Err (word_said verb name (texts (take n ws)) word next))
    → SaysUnless {B = Unit {0}} (λ u. u) r (Err (words_said verb (texts ws)))
words_at verb ws n name word next r h a c d says =
    let P : Text → Type 0 = λ t. SaysUnless {B = Unit {0}} (λ u. u) r (Err t) in
    let F : ℕ → Text = λ k. word_said verb (slice_index_or (texts ws) 0 []) (take k (texts ws))
    (slice_index_or (drop k (texts ws)) 0 []) (slice_index_or (drop k (texts ws)) 1 []) in
    let found : taken_words verb (texts ws) (length (texts ws)) ≡ n =
    ap (λ (k : ℕ). taken_words verb (texts ws) k) (length-map ws (λ (w : Bor Text). w.now)) ∙ h in
    let word_is : word ≡ slice_index_or (drop n (texts ws)) 0 [] =
    c ∙ ap (λ (l : List Text). slice_index_or l 0 []) (texts_drop n ws) in
    let next_is : next ≡ slice_index_or (drop n (texts ws)) 1 [] =
    d ∙ ap (λ (l : List Text). slice_index_or l 1 []) (texts_drop n ws) in
    let same : word_said verb name (texts (take n ws)) word next ≡ F n =
    ap (λ (t : Text). word_said verb t (texts (take n ws)) word next) a
    ∙ ap (λ (l : List Text). word_said verb (slice_index_or (texts ws) 0 []) l word next) (sym (texts_take n ws))
    ∙ ap (λ (t : Text). word_said verb (slice_index_or (texts ws) 0 []) (take n (texts ws)) t next) word_is
    ∙ ap (λ (t : Text). word_said verb (slice_index_or (texts ws) 0 []) (take n (texts ws))
    (slice_index_or (drop n (texts ws)) 0 []) t) next_is in
    subst P (same ∙ ap F (sym found)) says

-- a beginning that the command takes is the longest; any other leads to a shorter one
by_test : (verb : Verb) (words : List Text) (n : ℕ) → taken_words verb words (suc n) ≡
    cond (is_taken verb (take (suc n) words)) (suc n) (taken_words verb words n)
unfolding taken_words
by_test verb words n = refl

pub taken_here : (verb : Verb) (words : List Text) (n k : ℕ) → n ≡ suc k → is_taken verb (take n words) ≡ true
    → taken_words verb words n ≡ n
taken_here verb words n k e h =
    rw e (by_test verb words k ∙ ap (λ (b : Bool). cond b (suc k) (taken_words verb words k)) (rw e at h))

pub taken_shorter : (verb : Verb) (words : List Text) (n k : ℕ) → n ≡ suc k → is_taken verb (take n words) ≡ false
    → taken_words verb words n ≡ taken_words verb words k
taken_shorter verb words n k e h =
    rw e (by_test verb words k ∙ ap (λ (b : Bool). cond b (suc k) (taken_words verb words k)) (rw e at h))

pub taken_none : (verb : Verb) (words : List Text) → taken_words verb words 0 ≡ 0
unfolding taken_words
taken_none verb words = refl
