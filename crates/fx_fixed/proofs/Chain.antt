-- What continued after a check was not refused, and what was refused names its fault: `refuse_then`, `bind_then`, `bind_ok`.
-- For proofs that take a chain apart, step by step, from its result.
use Rattle.std.proofs.Common.{◌≡◌, Bool, true, false, Result, Ok, Err, Option, Some, None, refl}
use Rattle.fx_fixed.specs.Chain.{◌>>=◌, refuse, wanted, map_ok, map_fault}

-- what a step that was not refused gives, for the next to use
pub refuse_then : {B E : Type 0} {P : Type 0} (b : Bool) (e : E) (f : Unit {0} → Result B E) (y : B) → (refuse b e >>= f) ≡ Ok y
    → (b ≡ false → f tt ≡ Ok y → P) → P
refuse_then true e f y h k = absurd (cc)
refuse_then false e f y h k = k refl h

-- it had a value
pub bind_then : {A B E : Type 0} {P : Type 0} (r : Result A E) (f : A → Result B E) (y : B) → (r >>= f) ≡ Ok y
    → ((x : A) → r ≡ Ok x → f x ≡ Ok y → P) → P
bind_then (Ok x) f y h k = k x refl h
bind_then (Err e) f y h k = absurd (cc)

-- what was required is there
pub wanted_then : {A B E : Type 0} {P : Type 0} (o : Option A) (e : E) (f : A → Result B E) (y : B) → (wanted o e >>= f) ≡ Ok y
    → ((x : A) → o ≡ Some x → f x ≡ Ok y → P) → P
wanted_then (Some x) e f y h k = k x refl h
wanted_then None e f y h k = absurd (cc)

-- the values of two equal results
pub ok_injective : {A E : Type 0} (x y : A) → ◌≡◌ {A = Result A E} (Ok x) (Ok y) → x ≡ y
ok_injective x y h = cc

-- two values of one result
pub same_Ok : {A E : Type 0} {r : Result A E} (x y : A) → r ≡ Ok x → r ≡ Ok y → x ≡ y
same_Ok x y h k = cc

-- a chain with a value went through its first step
pub bind_ok : {A B E : Type 0} (r : Result A E) (f : A → Result B E) (y : B) → (r >>= f) ≡ Ok y
    → (x : A) × (r ≡ Ok x) × (f x ≡ Ok y)
bind_ok (Ok x) f y h = (x, refl, h)
bind_ok (Err e) f y h = absurd (cc)

-- a test that was passed did not hold
pub refuse_ok : {B E : Type 0} (b : Bool) (e : E) (f : Unit {0} → Result B E) (y : B) → (refuse b e >>= f) ≡ Ok y
    → (b ≡ false) × (f tt ≡ Ok y)
refuse_ok true e f y h = absurd (cc)
refuse_ok false e f y h = (refl, h)

-- what was wanted is there
pub wanted_ok : {A B E : Type 0} (o : Option A) (e : E) (f : A → Result B E) (y : B) → (wanted o e >>= f) ≡ Ok y
    → (x : A) × (o ≡ Some x) × (f x ≡ Ok y)
wanted_ok (Some x) e f y h = (x, refl, h)
wanted_ok None e f y h = absurd (cc)

-- a value seen otherwise is there
pub map_ok_ok : {A B E : Type 0} (view : A → B) (r : Result A E) (y : B) → map_ok view r ≡ Ok y
    → (x : A) × (r ≡ Ok x) × (view x ≡ y)
map_ok_ok view (Ok x) y h = (x, refl, cc)
map_ok_ok view (Err e) y h = absurd (cc)

pub map_fault_ok : {A D E : Type 0} (view : D → E) (r : Result A D) (x : A) → map_fault view r ≡ Ok x → r ≡ Ok x
map_fault_ok view (Ok y) x h = cc
map_fault_ok view (Err d) x h = absurd (cc)
