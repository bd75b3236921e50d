-- A list of pieces turned one after the other is the list of the turned pieces: `turned_all`.
-- Serves `Pieces::turned`.
use Rattle.std.proofs.Common.{◌≡◌, ◌∙◌, refl, sym, ap, ℕ, suc, ◌+◌, ◌<◌, List, [], ◌∷◌, ◌++◌, map, take, get_or, length, arith}
use Rattle.std.proofs.Math.Seq.{take-suc}
use Rattle.std.proofs.lemmas.List.{map-append}
use Rattle.fx_winding.specs.Turned.{turned_span}
use Rattle.fx_winding.specs.declared.point.Piece.{Piece}
use Rattle.fx_winding.specs.Winding.{Span, span_of}

pub turned_more : (ps qs : List Piece) (i : ℕ) (s t : Piece) → i < length ps → s ≡ get_or ps i s
    → span_of t ≡ turned_span (span_of s) → map span_of qs ≡ map (λ s. turned_span (span_of s)) (take i ps)
    → map span_of (qs ++ (t ∷ [])) ≡ map (λ s. turned_span (span_of s)) (take (i + 1) ps)
turned_more ps qs i s t within is e same =
    let f : Piece → Span = λ s. turned_span (span_of s) in
    let next : suc i ≡ i + 1 = omega arith in
    map-append span_of qs (t ∷ []) ∙ (λ k. same k ++ (e k ∷ []))
    ∙ sym (map-append f (take i ps) (s ∷ []))
    ∙ ap (λ s'. map f (take i ps ++ (s' ∷ []))) is
    ∙ sym (ap (map f) (take-suc ps i s within)) ∙ ap (λ n. map f (take n ps)) next

pub turned_all : (ps : List Piece) → map (λ s. turned_span (span_of s)) ps ≡ map turned_span (map span_of ps)
turned_all [] = refl
turned_all (s ∷ ps) = ap (λ l. turned_span (span_of s) ∷ l) (turned_all ps)
