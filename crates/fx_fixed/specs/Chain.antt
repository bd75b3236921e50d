-- Checks in order: the first fault is the result.
use Rattle.std.specs.Prelude.{◌≡◌, List, [], ◌∷◌, Result, Ok, Err, Option, Some, None, Bool, if◌then◌else◌}

-- continues with a value, and stops at a fault
infixl 10 ◌>>=◌
abbrev pub ◌>>=◌ : {A B E : Type 0} → Result A E → (A → Result B E) → Result B E
(Ok x) >>= f = f x
(Err e) >>= f = Err e

-- a fault if a test holds
abbrev pub refuse : {E : Type 0} → Bool → E → Result (Unit {0}) E
refuse bad fault = if bad then Err fault else Ok tt

-- a value that is required
abbrev pub wanted : {A E : Type 0} → Option A → E → Result A E
wanted (Some x) fault = Ok x
wanted None fault = Err fault

-- the value, seen otherwise
abbrev pub map_ok : {A B E : Type 0} → (A → B) → Result A E → Result B E
map_ok view (Ok x) = Ok (view x)
map_ok view (Err e) = Err e

-- the fault, seen otherwise
abbrev pub map_fault : {A D E : Type 0} → (D → E) → Result A D → Result A E
map_fault view (Ok x) = Ok x
map_fault view (Err e) = Err (view e)

-- each in order, up to the first fault
abbrev pub map_chain : {A B E : Type 0} → (A → Result B E) → List A → Result (List B) E
map_chain f [] = Ok []
map_chain f (x ∷ xs) = f x >>= λ y. map_chain f xs >>= λ ys. Ok (y ∷ ys)

-- what code returns that may also be out of memory: the value that is due, as it is seen; or a fault that Fails allows
abbrev pub GivesUnless : {A B E : Type 0} → (E → Result B E → Type 0) → (A → B) → Result A E → Result B E → Type 0
GivesUnless Fails view (Ok x) due = due ≡ Ok (view x)
GivesUnless Fails view (Err e) due = Fails e due
