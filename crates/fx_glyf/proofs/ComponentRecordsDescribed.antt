-- Bytes are read as the components that the grammar describes, both ways: `found_components`, `only_components`.
-- For the clauses of `read` on composites.
use Rattle.std.proofs.Common.{◌≡◌, ℕ, zero, suc, ◌+◌, ◌≤◌, Bool, true, false, List, [], ◌∷◌, ◌++◌, length, take, Some}
use Rattle.std.proofs.Common.{refl, sym, ap, ◌∙◌, arith, subst, append_assoc, length-append}
use Rattle.std.specs.Prelude.{option_and_then}
use Rattle.std.proofs.lemmas.Option.{option_and_then_some, same_Some, none-some}
use Rattle.std.proofs.lemmas.Bool.{le-ltb}
use Rattle.std.proofs.lemmas.List.{take-append-drop, length-take-le, take_at, drop_at}
use Rattle.fx_sfnt.specs.Fields.{field}
use Rattle.fx_glyf.specs.declared.component.Component.{Component}
use Rattle.fx_glyf.specs.Words.{with_front}
use Rattle.fx_glyf.specs.Components.{component_size, component_of, next_component, is_followed, components_from, components_in}
use Rattle.fx_glyf.specs.Grammar.{SpellsComponents, AreComponents}
use Rattle.fx_glyf.proofs.Steps.{front_is}
use Rattle.fx_glyf.proofs.ComponentRecords.{field-taken, next_is}

-- a field within the front
pub field-front : (at : ℕ) (xs ys : List ℕ) → at + 2 ≤ length xs → field 2 (xs ++ ys) at ≡ field 2 xs at
field-front at xs ys h =
    sym (field-taken at (length xs) (xs ++ ys) h) ∙ ap (λ (zs : List ℕ). field 2 zs at) (take_at xs ys (length xs) refl)

-- whether a component follows, by the one before it
abbrev Follow : Bool → List Component → Type 0
Follow more [] = more ≡ false
Follow more (p ∷ ps) = (more ≡ true) × Follow (is_followed p) ps

follow_apart : (p : Component) (ps : List Component) → Follow (is_followed p) ps → AreComponents (p ∷ ps)
follow_apart p [] h = h
follow_apart p (q ∷ ps) h = (h.0, follow_apart q ps h.1)

-- components of which just those before the last are followed
pub components_follow : (ps : List Component) → Follow true ps → AreComponents ps
components_follow [] h = absurd (cc)
components_follow (p ∷ ps) h = follow_apart p ps h.1

follow_rest : (p : Component) (ps : List Component) → AreComponents (p ∷ ps) → Follow (is_followed p) ps
follow_rest p [] h = h
follow_rest p (q ∷ ps) h = (h.0, follow_rest q ps h.1)

pub follow_components : (ps : List Component) → AreComponents ps → Follow true ps
follow_components [] h = absurd h
follow_components (p ∷ ps) h = (refl, follow_rest p ps h)

component_flags : (bytes : List ℕ) → (component_of bytes).flags ≡ field 2 bytes 0
unfolding component_of
component_flags bytes = refl

-- components that are read
record Found (more : Bool) (bytes : List ℕ) (ps : List Component) (rest : List ℕ) : Type 0 where
  front : List ℕ
  split : bytes ≡ front ++ rest
  spells : SpellsComponents ps front
  follow : Follow more ps

found_in : (more : Bool) (most : ℕ) (bytes : List ℕ) (ps : List Component) (rest : List ℕ)
    → components_from more most bytes ≡ Some (ps, rest) → Found more bytes ps rest
unfolding components_from
found_in false most bytes ps rest e = grind (arith, same_Some)
found_in true zero bytes ps rest e = absurd (none-some _ e)
found_in true (suc most) bytes ps rest e =
    option_and_then_some (λ (d : Component × List ℕ). with_front d.0 (components_from (is_followed d.0) most d.1))
    (next_component bytes) (ps, rest) e (λ d q w.
    let n = next_is bytes d q in
    let f = front_is d.0 _ ps rest w in
    let i = found_in (is_followed d.0) most d.1 f.0 rest f.1 in
    let size = component_size (field 2 bytes 0) in
    let four : 2 ≤ component_size (field 2 bytes 0) = omega arith in
    let flags : d.0.flags ≡ field 2 bytes 0 = ap (λ (p : Component). p.flags) n.component
    ∙ component_flags (take (component_size (field 2 bytes 0)) bytes)
    ∙ field-taken 0 (component_size (field 2 bytes 0)) bytes (omega arith) in
    let P : List Component → Type 0 = λ qs. Found true bytes qs rest in
    subst P (sym f.2) (record {
      front = take (component_size (field 2 bytes 0)) bytes ++ i.front;
      split = sym (take-append-drop (component_size (field 2 bytes 0)) bytes)
          ∙ ap (λ (x : List ℕ). take (component_size (field 2 bytes 0)) bytes ++ x) (sym n.rest ∙ i.split)
          ∙ sym (append_assoc (take (component_size (field 2 bytes 0)) bytes) i.front rest);
      spells = (
        take (component_size (field 2 bytes 0)) bytes,
        i.front,
        refl,
        length-take-le (component_size (field 2 bytes 0)) bytes n.inside
            ∙ ap component_size (sym flags),
        n.component,
        i.spells,
      );
      follow = (refl, i.follow);
    }))

-- what is read is described by the bytes
pub record ComponentsFound (bytes : List ℕ) (ps : List Component) (rest : List ℕ) : Type 0 where
  pub front : List ℕ
  pub split : bytes ≡ front ++ rest
  pub spells : SpellsComponents ps front
  pub last : AreComponents ps

pub found_components : (bytes : List ℕ) (ps : List Component) (rest : List ℕ) → components_in true bytes ≡ Some (ps, rest)
    → ComponentsFound bytes ps rest
found_components bytes ps rest e =
    let f = found_in true (length bytes) bytes ps rest e in
    record { front = f.front; split = f.split; spells = f.spells; last = components_follow ps f.follow }

-- the bytes of a component are read as it
next_read : (p : Component) (front rest : List ℕ) → length front ≡ component_size p.flags → p ≡ component_of front
    → next_component (front ++ rest) ≡ Some (p, rest)
unfolding next_component
next_read p front rest h e = grind (arith, component_flags, field-front, length-append, le-ltb, take_at, drop_at)

read_in : (more : Bool) (ps : List Component) (front rest : List ℕ) (most : ℕ) → SpellsComponents ps front → Follow more ps
    → length front ≤ most → components_from more most (front ++ rest) ≡ Some (ps, rest)
unfolding components_from
read_in false [] front rest most h k l = ap (λ (x : List ℕ). Some ([], x ++ rest)) h
read_in true [] front rest most h k l = absurd (cc)
read_in false (p ∷ ps) front rest most h k l = let e : false ≡ true = k.0 in absurd (cc)
read_in true (p ∷ ps) front rest zero h k l = grind (arith, length-append)
read_in true (p ∷ ps) front rest (suc most) h k l =
    let four : 4 ≤ component_size p.flags = omega arith in
    let long : length front ≡ length h.0 + length h.1 = ap length h.2 ∙ length-append h.0 h.1 in
    let size : length h.0 ≡ component_size p.flags = h.3 in
    let bytes : front ++ rest ≡ h.0 ++ (h.1 ++ rest) = ap (λ (x : List ℕ). x ++ rest) h.2 ∙ append_assoc h.0 h.1 rest in
    ap (λ (x : List ℕ). option_and_then (λ (d : Component × List ℕ). with_front d.0 (components_from (is_followed d.0) most d.1))
    (next_component x)) bytes
    ∙ ap (option_and_then (λ (d : Component × List ℕ). with_front d.0 (components_from (is_followed d.0) most d.1)))
    (next_read p h.0 (h.1 ++ rest) h.3 h.4)
    ∙ ap (with_front p) (read_in (is_followed p) ps h.1 rest most h.5 k.1 (omega arith))

-- what the bytes describe is read
pub only_components : (ps : List Component) (front rest : List ℕ) → SpellsComponents ps front → AreComponents ps
    → components_in true (front ++ rest) ≡ Some (ps, rest)
only_components ps front rest h k = grind (arith, length-append, read_in, follow_components)
