-- The component at the front of the bytes, and the components after it, are the list: `components_at`.
-- For `next_component`, `skip_components` and the iterator `Components`.
use Rattle.std.proofs.Common.{◌≡◌, ℕ, zero, suc, ◌+◌, ◌-◌, ◌<◌, ◌≤◌, Bool, true, false, List, [], ◌∷◌, length, take, drop, Option}
use Rattle.std.proofs.Common.{Some, None, refl, sym, ap, ◌∙◌, arith, length-drop}
use Rattle.std.specs.Prelude.{IsSome, option_map, option_and_then, ◌||◌}
use Rattle.std.proofs.lemmas.Option.{same_Some}
use Rattle.std.proofs.lemmas.Bool.{ltb-false, le-ltb}
use Rattle.std.proofs.lemmas.List.{drop-take, length-take-le}
use Rattle.std.proofs.Math.Bool.{or_assoc, or-false}
use Rattle.byteorder.specs.Endian.{big_number}
use Rattle.byteorder.specs.Numbers.{big_from-take}
use Rattle.fx_sfnt.specs.Fields.{field}
use Rattle.fx_glyf.specs.declared.component.Component.{Component}
use Rattle.fx_glyf.specs.Words.{has, with_front, list_in}
use Rattle.fx_glyf.specs.Components.{component_size, component_of, next_component, is_followed, components_from, components_in, has_program}
use Rattle.fx_glyf.specs.Components.{we_have_instructions, more_components}
use Rattle.fx_glyf.proofs.EndPoints.{guarded}
use Rattle.fx_glyf.proofs.Steps.{Stepped, stepped, none_absurd}

-- a field within the bytes that were taken
pub field-taken : (at m : ℕ) (bytes : List ℕ) → at + 2 ≤ m → field 2 (take m bytes) at ≡ field 2 bytes at
unfolding field
field-taken at m bytes h =
    let e : at + (m - at) ≡ m = omega arith in
    ap (big_number 2) (ap (λ (k : ℕ). drop at (take k bytes)) (sym e) ∙ drop-take at (m - at) bytes)
    ∙ big_from-take 0 2 (m - at) (drop at bytes) (omega arith)

-- the flags of a component that is taken are those at the front
pub flags_taken : (bytes : List ℕ) (m : ℕ) (p : Component) → p ≡ component_of (take m bytes) → 2 ≤ m → p.flags ≡ field 2 bytes 0
unfolding component_of
flags_taken bytes m p e h = ap (λ (x : Component). x.flags) e ∙ field-taken 0 m bytes h

component_there_is : (bytes : List ℕ) → 4 ≤ length bytes → component_size (field 2 bytes 0) ≤ length bytes
    → Some (component_of (take (component_size (field 2 bytes 0)) bytes), drop (component_size (field 2 bytes 0)) bytes)
    ≡ next_component bytes
unfolding next_component
component_there_is bytes four inside = rw (le-ltb _ _ four, le-ltb _ _ inside) refl

-- a component that is taken has the size that was taken
pub size_of_taken : (n : ℕ) (bytes taken : List ℕ) (p : Component) → n ≡ component_size (field 2 bytes 0) → taken ≡ take n bytes
    → p ≡ component_of taken → component_size p.flags ≡ n
size_of_taken n bytes taken p e t is =
    ap component_size (flags_taken bytes n p (is ∙ ap component_of t) (omega (arith, e))) ∙ sym e

-- such a component, and what comes after its size
pub component_found : (n : ℕ) (bytes taken : List ℕ) (p : Component) → n ≡ component_size (field 2 bytes 0) → n ≤ length bytes
    → taken ≡ take n bytes → p ≡ component_of taken → Some (p, drop (component_size p.flags) bytes) ≡ next_component bytes
component_found n bytes taken p e h t is = grind (arith, size_of_taken, component_there_is)

-- the next component with the rest, in which a number of bytes was left out that is its size
pub component_with_rest : (bytes : List ℕ) (p : Component) (n : ℕ) (rest : List ℕ) → n ≡ component_size p.flags
    → rest ≡ drop n bytes → Some (p, drop (component_size p.flags) bytes) ≡ next_component bytes
    → Some (p, rest) ≡ next_component bytes
component_with_rest bytes p n rest size left e = grind arith

-- what the next component is, and what is left
pub record Next (bytes : List ℕ) (d : Component × List ℕ) : Type 0 where
  pub inside : component_size (field 2 bytes 0) ≤ length bytes
  pub component : d.0 ≡ component_of (take (component_size (field 2 bytes 0)) bytes)
  pub rest : d.1 ≡ drop (component_size (field 2 bytes 0)) bytes

pub next_is : (bytes : List ℕ) (d : Component × List ℕ) → next_component bytes ≡ Some d → Next bytes d
unfolding next_component
next_is bytes d e = grind (arith, guarded, same_Some, ltb-false)

-- less is left
pub shorter : (bytes : List ℕ) (d : Component × List ℕ) → next_component bytes ≡ Some d → length d.1 < length bytes
shorter bytes d e = grind (arith, next_is, length-drop)

step_same : {X Y : Type 0} (o : Option X) (f g : X → Option Y) → ((x : X) → o ≡ Some x → f x ≡ g x)
    → option_and_then f o ≡ option_and_then g o
step_same None f g h = refl
step_same (Some x) f g h = h x refl

step_none : {X Y : Type 0} (o : Option X) (f : X → Option Y) → ((x : X) → o ≡ Some x → ⊥) → option_and_then f o ≡ None
step_none None f h = refl
step_none (Some x) f h = absurd (h x refl)

-- a component, and those that follow it, at most `most` of them
abbrev within_most : ℕ → Component × List ℕ → Option (List Component × List ℕ)
within_most most d = with_front d.0 (components_from (is_followed d.0) most d.1)

-- there is no component without a byte
none_there : (f : Component × List ℕ → Option (List Component × List ℕ)) (bytes : List ℕ) → length bytes ≤ 0
    → option_and_then f (next_component bytes) ≡ None
none_there f bytes h = step_none (next_component bytes) f (λ d e. let s = shorter bytes d e in omega arith)

-- a bound above the number of bytes changes nothing
room_enough : (more : Bool) (n m : ℕ) (bytes : List ℕ) → length bytes ≤ n → length bytes ≤ m
    → components_from more n bytes ≡ components_from more m bytes
unfolding components_from
room_enough false n m bytes h k = refl
room_enough true zero zero bytes h k = refl
room_enough true zero (suc m) bytes h k = sym (none_there (within_most m) bytes h)
room_enough true (suc n) zero bytes h k = none_there (within_most n) bytes k
room_enough true (suc n) (suc m) bytes h k =
    step_same (next_component bytes) (within_most n) (within_most m) (λ d e.
    let s = shorter bytes d e in
    ap (with_front d.0) (room_enough (is_followed d.0) n m d.1 (omega arith) (omega arith)))

-- a component, and those that follow it
abbrev and_rest : Component × List ℕ → Option (List Component × List ℕ)
and_rest d = with_front d.0 (components_in (is_followed d.0) d.1)

-- components, one by one
pub components_step : (bytes : List ℕ) → components_in true bytes ≡ option_and_then and_rest (next_component bytes)
unfolding components_from
components_step [] = sym (none_there and_rest [] (omega arith))
components_step (b ∷ bytes) =
    step_same (next_component (b ∷ bytes)) (within_most (length bytes)) and_rest (λ d e.
    let s = shorter (b ∷ bytes) d e in
    ap (with_front d.0) (room_enough (is_followed d.0) (length bytes) (length d.1) d.1 (omega arith) (omega arith)))

-- the next component is d's
pub components_at : (bytes : List ℕ) (p : Component) (rest : List ℕ) → Some (p, rest) ≡ next_component bytes
    → components_in true bytes ≡ with_front p (components_in (is_followed p) rest)
components_at bytes p rest e = components_step bytes ∙ ap (option_and_then and_rest) (sym e)

-- there is no next component
pub components_short : (bytes : List ℕ) → None ≡ next_component bytes → components_in true bytes ≡ None
components_short bytes e = components_step bytes ∙ ap (option_and_then and_rest) (sym e)

-- no component is to come
pub components_done : (bytes : List ℕ) → components_in false bytes ≡ Some ([], bytes)
unfolding components_from
components_done bytes = refl

-- the next component is passed: what was announced before, and what comes after the rest
abbrev pub ending_with : Bool → List Component × List ℕ → Bool × List ℕ
ending_with announced components = (announced || has_program components.0, components.1)

ending_front : (announced : Bool) (p : Component) (o : Option (List Component × List ℕ))
    → option_map (ending_with (announced || has p.flags we_have_instructions)) o ≡ option_map (ending_with announced)
    (with_front p o)
ending_front announced p None = refl
ending_front announced p (Some r) = grind (arith, or_assoc)

components_passed : (announced more : Bool) (bytes : List ℕ) (p : Component) (rest : List ℕ) (says after : Bool) → more ≡ true
    → Some (p, rest) ≡ next_component bytes → says ≡ has p.flags we_have_instructions → after ≡ is_followed p
    → option_map (ending_with (announced || says)) (components_in after rest)
    ≡ option_map (ending_with announced) (components_in more bytes)
components_passed announced more bytes p rest says after m e s a =
    ap (λ (b : Bool). option_map (ending_with (announced || b)) (components_in after rest)) s
    ∙ ap (λ (b : Bool). option_map (ending_with (announced || has p.flags we_have_instructions)) (components_in b rest)) a
    ∙ ending_front announced p _
    ∙ sym (ap (λ (b : Bool). option_map (ending_with announced) (components_in b bytes)) m
    ∙ ap (option_map (ending_with announced)) (components_at bytes p rest e))

-- the same by its flags
pub flags_passed : (announced more : Bool) (bytes : List ℕ) (flags n : ℕ) (rest : List ℕ) (says after : Bool) → more ≡ true
    → flags ≡ field 2 bytes 0 → component_size flags ≤ length bytes → n ≡ component_size flags → rest ≡ drop n bytes
    → says ≡ has flags we_have_instructions → after ≡ has flags more_components
    → option_map (ending_with (announced || says)) (components_in after rest)
    ≡ option_map (ending_with announced) (components_in more bytes)
flags_passed announced more bytes flags n rest says after m is inside size left s a =
    let taken = component_of (take n bytes) in
    let same : taken.flags ≡ flags = flags_taken bytes n taken refl (omega (arith, size)) ∙ sym is in
    let there = component_found n bytes (take n bytes) taken (size ∙ ap component_size is) (omega (arith, size, inside))
    refl refl in
    let next = component_with_rest bytes taken n rest (size ∙ ap component_size (sym same)) left there in
    components_passed announced more bytes taken rest says after m next (s ∙ ap (λ (k : ℕ). has k we_have_instructions) (sym same))
    (a ∙ ap (λ (k : ℕ). has k more_components) (sym same))

-- less is left after it
pub flags_shorter : (bytes : List ℕ) (flags n : ℕ) (rest : List ℕ) → component_size flags ≤ length bytes → n ≡ component_size flags
    → rest ≡ drop n bytes → length rest < length bytes
flags_shorter bytes flags n rest inside size left = grind (arith, length-drop)

pub components_stopped : (announced more : Bool) (bytes : List ℕ) → more ≡ true → None ≡ next_component bytes
    → None ≡ option_map (ending_with announced) (components_in more bytes)
components_stopped announced more bytes m e = grind (arith, components_short)

pub components_ended : (announced more : Bool) (bytes : List ℕ) → more ≡ false
    → Some (announced, bytes) ≡ option_map (ending_with announced) (components_in more bytes)
components_ended announced more bytes m = grind (arith, components_done, or-false)

-- no component is to come
pub components_none : (more : Bool) (bytes : List ℕ) → more ≡ false → list_in (components_in more bytes) ≡ []
components_none more bytes m = ap (λ (b : Bool). list_in (components_in b bytes)) m ∙ ap list_in (components_done bytes)

-- what holds after one component was taken
pub component_stepped : (more : Bool) (bytes : List ℕ) (p : Component) (rest : List ℕ) (after : Bool) → more ≡ true
    → Some (p, rest) ≡ next_component bytes → after ≡ is_followed p → IsSome (components_in more bytes)
    → Stepped (components_in more bytes) (components_in after rest) p
component_stepped more bytes p rest after m e a h =
    stepped _ _ _ (ap (λ (b : Bool). components_in b bytes) m ∙ components_at bytes p rest e
    ∙ ap (λ (b : Bool). with_front p (components_in b rest)) (sym a)) h

-- a component is found if one is to come
pub component_there : (more : Bool) (bytes : List ℕ) → more ≡ true → None ≡ next_component bytes
    → IsSome (components_in more bytes) → ⊥
component_there more bytes m e h = none_absurd _ (ap (λ (b : Bool). components_in b bytes) m ∙ components_short bytes e) h

-- the bytes of a component are those of its flags
pub component_taken : (n : ℕ) (bytes taken : List ℕ) → n ≡ component_size (field 2 bytes 0) → n ≤ length bytes
    → taken ≡ take n bytes → component_size (field 2 taken 0) ≤ length taken
component_taken n bytes taken e h t = grind (arith, field-taken, length-take-le)

pub ruleset next_steps = (component_with_rest, components_none, component_stepped, component_there)

pub ruleset skip_steps = (flags_shorter, flags_passed, components_stopped, components_ended)
