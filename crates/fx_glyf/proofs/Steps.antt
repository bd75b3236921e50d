-- The flag and the delta at the front, and those after it, are the lists: `flags_at`, `deltas_at`, `points_at`.
-- For `Flags::next`, `measured` and the iterator `Points`.
use Rattle.std.proofs.Common.{◌≡◌, ℕ, suc, ◌+◌, ◌%◌, List, [], ◌∷◌, Option, Some, None, refl, sym, ap, ◌∙◌, subst}
use Rattle.std.specs.Prelude.{IsSome, option_map, option_and_then}
use Rattle.std.proofs.lemmas.Option.{same_Some, none-some}
use Rattle.fx_glyf.specs.declared.point.GlyphPoint.{GlyphPoint}
use Rattle.fx_glyf.specs.Words.{with_front, list_in}
use Rattle.fx_glyf.specs.inner.Moves.{moved_by}
use Rattle.fx_glyf.specs.Points.{Cursor, x_short_vector, x_is_same_or_positive_x_short_vector, y_short_vector}
use Rattle.fx_glyf.specs.Points.{y_is_same_or_positive_y_short_vector, next_flag, flags_from, delta_of, deltas_from, points_of}
use Rattle.fx_glyf.specs.Points.{point_at}

pub front_some : {X : Type 0} (x : X) (o : Option (List X × List ℕ)) → IsSome (with_front x o) → IsSome o
front_some x None h = h
front_some x (Some r) h = refl

pub front_list : {X : Type 0} (x : X) (o : Option (List X × List ℕ)) → IsSome o → list_in (with_front x o) ≡ x ∷ list_in o
front_list x None h = absurd (cc)
front_list x (Some r) h = refl

pub front_rest : {X : Type 0} (x : X) (o : Option (List X × List ℕ))
    → option_map (λ r. r.1) (with_front x o) ≡ option_map (λ r. r.1) o
front_rest x None = refl
front_rest x (Some r) = refl

-- a list that was read with a first item, by its parts
pub front_is : {X : Type 0} (x : X) (o : Option (List X × List ℕ)) (xs : List X) (rest : List ℕ) → with_front x o ≡ Some (xs, rest)
    → (ys : List X) × (o ≡ Some (ys, rest)) × (xs ≡ x ∷ ys)
front_is {X} x None xs rest e = absurd (none-some _ e)
front_is {X} x (Some p) xs rest e =
    let q = same_Some _ _ e in
    (p.0, ap (λ (r : List ℕ). Some (p.0, r)) (ap (λ (y : List X × List ℕ). y.1) q), sym (ap (λ (y : List X × List ℕ). y.0) q))

-- no point is left
pub flags_none : (n : ℕ) (c : Cursor) → n ≡ 0 → list_in (flags_from n c) ≡ []
unfolding flags_from
flags_none n c h = ap (λ (m : ℕ). list_in (flags_from m c)) h

-- the next flag is d's
pub flags_at : (n m : ℕ) (c d : Cursor) → n ≡ suc m → Some d ≡ next_flag c → flags_from n c ≡ with_front d.flag (flags_from m d)
unfolding flags_from
flags_at n m c d h e =
    ap (λ (k : ℕ). flags_from k c) h ∙ ap (option_and_then (λ (x : Cursor). with_front x.flag (flags_from m x))) (sym e)

-- there is no next flag
pub flags_short : (n m : ℕ) (c : Cursor) → n ≡ suc m → None ≡ next_flag c → flags_from n c ≡ None
unfolding flags_from
flags_short n m c h e =
    ap (λ (k : ℕ). flags_from k c) h ∙ ap (option_and_then (λ (x : Cursor). with_front x.flag (flags_from m x))) (sym e)

-- the next delta is d
pub deltas_at : (short same f : ℕ) (fs bytes : List ℕ) (d : ℕ) (rest : List ℕ) → Some (d, rest) ≡ delta_of short same f bytes
    → deltas_from short same (f ∷ fs) bytes ≡ with_front d (deltas_from short same fs rest)
unfolding deltas_from
deltas_at short same f fs bytes d rest e =
    ap (option_and_then (λ (x : ℕ × List ℕ). with_front x.0 (deltas_from short same fs x.1))) (sym e)

-- there is no next delta
pub deltas_short : (short same f : ℕ) (fs bytes : List ℕ) → None ≡ delta_of short same f bytes
    → deltas_from short same (f ∷ fs) bytes ≡ None
unfolding deltas_from
deltas_short short same f fs bytes e =
    ap (option_and_then (λ (x : ℕ × List ℕ). with_front x.0 (deltas_from short same fs x.1))) (sym e)

pub none_absurd : {X : Type 0} (o : Option X) → o ≡ None → IsSome o → ⊥
none_absurd {X} o e h = let P : Option X → Type 0 = IsSome in let n : IsSome {T = X} None = subst P e h in cc

-- what holds of a list that a first step was taken from
pub record Stepped {X : Type 0} (old new : Option (List X × List ℕ)) (x : X) : Type 0 where
  pub some : IsSome new
  pub list : list_in old ≡ x ∷ list_in new

pub stepped : {X : Type 0} (old new : Option (List X × List ℕ)) (x : X) → old ≡ with_front x new → IsSome old → Stepped old new x
stepped {X} old new x e h =
    let P : Option (List X × List ℕ) → Type 0 = IsSome in
    let some = front_some x new (subst P e h) in
    record { some = some; list = ap list_in e ∙ front_list x new some }

pub points_at : (f : ℕ) (fs : List ℕ) (dx dy : ℕ) (dxs dys : List ℕ) (x y : ℕ)
    → points_of (f ∷ fs) (dx ∷ dxs) (dy ∷ dys) x y ≡ point_at ((x + dx) % 65536) ((y + dy) % 65536) f ∷ points_of fs dxs dys
    ((x + dx) % 65536) ((y + dy) % 65536)
unfolding points_of
points_at f fs dx dy dxs dys x y = refl

pub points_none : (dxs dys : List ℕ) (x y : ℕ) → points_of [] dxs dys x y ≡ []
unfolding points_of
points_none dxs dys x y = refl

-- the first point, and those after it
points_step : (f : ℕ) (fs xs ys xs' ys' : List ℕ) (dx dy x y x' y' : ℕ) (p : GlyphPoint)
    → Some (dx, xs') ≡ delta_of x_short_vector x_is_same_or_positive_x_short_vector f xs
    → Some (dy, ys') ≡ delta_of y_short_vector y_is_same_or_positive_y_short_vector f ys
    → IsSome (deltas_from x_short_vector x_is_same_or_positive_x_short_vector (f ∷ fs) xs)
    → IsSome (deltas_from y_short_vector y_is_same_or_positive_y_short_vector (f ∷ fs) ys)
    → x' ≡ (x + dx) % 65536 → y' ≡ (y + dy) % 65536 → p ≡ point_at x' y' f
    → points_of (f ∷ fs) (list_in (deltas_from x_short_vector x_is_same_or_positive_x_short_vector (f ∷ fs) xs))
    (list_in (deltas_from y_short_vector y_is_same_or_positive_y_short_vector (f ∷ fs) ys)) x y ≡ p ∷ points_of fs
    (list_in (deltas_from x_short_vector x_is_same_or_positive_x_short_vector fs xs'))
    (list_in (deltas_from y_short_vector y_is_same_or_positive_y_short_vector fs ys')) x' y'
points_step f fs xs ys xs' ys' dx dy x y x' y' p ex ey hx hy nx ny np =
    let sx = stepped _ _ _ (deltas_at x_short_vector x_is_same_or_positive_x_short_vector f fs xs dx xs' ex) hx in
    let sy = stepped _ _ _ (deltas_at y_short_vector y_is_same_or_positive_y_short_vector f fs ys dy ys' ey) hy in
    ap (λ (ds : List ℕ). points_of (f ∷ fs) ds
    (list_in (deltas_from y_short_vector y_is_same_or_positive_y_short_vector (f ∷ fs) ys)) x y) sx.list
    ∙ ap (λ (ds : List ℕ). points_of (f ∷ fs)
    (dx ∷ list_in (deltas_from x_short_vector x_is_same_or_positive_x_short_vector fs xs')) ds x y) sy.list
    ∙ points_at f fs dx dy _ _ x y ∙ (rw (np, nx, ny) refl)

pub deltas_done : (short same : ℕ) (bytes : List ℕ) → option_map (λ r. r.1) (deltas_from short same [] bytes) ≡ Some bytes
unfolding deltas_from
deltas_done short same bytes = refl

pub points_end : (fs dxs dys : List ℕ) (x y : ℕ) → fs ≡ [] → points_of fs dxs dys x y ≡ []
points_end fs dxs dys x y e = ap (λ (gs : List ℕ). points_of gs dxs dys x y) e ∙ points_none dxs dys x y

-- a coordinate that was moved came by a delta
pub came_by : (at to : ℕ) (o : Option (ℕ × List ℕ)) (rest : List ℕ) → Some (to, rest) ≡ moved_by at o
    → (d : ℕ) × (Some (d, rest) ≡ o) × (to ≡ (at + d) % 65536)
came_by at to None rest e = absurd (none-some _ (sym e))
came_by at to (Some p) rest e =
    let q = same_Some _ _ e in
    (p.0, ap (λ (r : List ℕ). Some (p.0, r)) (ap (λ (y : ℕ × List ℕ). y.1) q), ap (λ (y : ℕ × List ℕ). y.0) q)

-- the same as `points_step`, for values that are known by equations
pub points_first : (gs : List ℕ) (f : ℕ) (fs xs ys xs' ys' : List ℕ) (x y x' y' : ℕ) (p : GlyphPoint) → gs ≡ f ∷ fs
    → Some (x', xs') ≡ moved_by x (delta_of x_short_vector x_is_same_or_positive_x_short_vector f xs)
    → Some (y', ys') ≡ moved_by y (delta_of y_short_vector y_is_same_or_positive_y_short_vector f ys)
    → IsSome (deltas_from x_short_vector x_is_same_or_positive_x_short_vector gs xs)
    → IsSome (deltas_from y_short_vector y_is_same_or_positive_y_short_vector gs ys) → p ≡ point_at x' y' f
    → points_of gs (list_in (deltas_from x_short_vector x_is_same_or_positive_x_short_vector gs xs))
    (list_in (deltas_from y_short_vector y_is_same_or_positive_y_short_vector gs ys)) x y ≡ p ∷ points_of fs
    (list_in (deltas_from x_short_vector x_is_same_or_positive_x_short_vector fs xs'))
    (list_in (deltas_from y_short_vector y_is_same_or_positive_y_short_vector fs ys')) x' y'
points_first gs f fs xs ys xs' ys' x y x' y' p e mx my hx hy np =
    let P : List ℕ → Type 0 = λ hs. IsSome (deltas_from x_short_vector x_is_same_or_positive_x_short_vector hs xs) in
    let Q : List ℕ → Type 0 = λ hs. IsSome (deltas_from y_short_vector y_is_same_or_positive_y_short_vector hs ys) in
    let dx = came_by x x' _ xs' mx in
    let dy = came_by y y' _ ys' my in
    ap (λ (hs : List ℕ). points_of hs (list_in (deltas_from x_short_vector x_is_same_or_positive_x_short_vector hs xs))
    (list_in (deltas_from y_short_vector y_is_same_or_positive_y_short_vector hs ys)) x y) e
    ∙ points_step f fs xs ys xs' ys' dx.0 dy.0 x y x' y' p dx.1 dy.1 (subst P e hx) (subst Q e hy) dx.2 dy.2 np
