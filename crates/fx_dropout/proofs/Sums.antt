-- Sums over the numbers below one: part after part (`sum_split`, `sum_blocks`), in the other order (`sum_swap`), and over a box
-- outside of which each term is 0 (`sum_box`).
-- Serves `work`.
use Rattle.std.proofs.Common.{◌≡◌, ◌⊎◌, inl, inr, refl, sym, ◌∙◌, ℕ, zero, suc, ◌+◌, ◌-◌, ◌*◌, ◌^◌, ◌≤◌, ◌<◌, ℤ, pos, ◌+ℤ◌, ◌-ℤ◌}
use Rattle.std.proofs.Common.{◌≤ℤ◌}
use Rattle.std.proofs.Common.{◌<ℤ◌, unsigned_abs, arith}
use Rattle.std.proofs.lemmas.Int.{ints}
use Rattle.fx_fixed.proofs.Linear.{signed_linear}
use Rattle.fx_winding.specs.Limits.{least_pixel, end_of_pixels}
use Rattle.fx_dropout.specs.Work.{sum_all, sum_below}

-- ---- terms
pub sum_none : (f : ℕ → ℕ) → sum_below 0 f ≡ 0
unfolding sum_below
sum_none f = refl

pub sum_more : (n : ℕ) (f : ℕ → ℕ) → sum_below (n + 1) f ≡ sum_below n f + f n
unfolding sum_below
sum_more n f = let e : n + 1 ≡ suc n = omega arith in λ t. sum_below (e t) f

pub sum_same : (n : ℕ) (f g : ℕ → ℕ) → ((k : ℕ) → k < n → f k ≡ g k) → sum_below n f ≡ sum_below n g
unfolding sum_below
sum_same zero f g h = refl
sum_same (suc n) f g h = λ t. sum_same n f g (λ k l. h k (omega (arith, l))) t + h n (omega arith) t

pub sum_zero : (n : ℕ) (f : ℕ → ℕ) → ((k : ℕ) → k < n → f k ≡ 0) → sum_below n f ≡ 0
unfolding sum_below
sum_zero zero f h = refl
sum_zero (suc n) f h = let r = sum_zero n f (λ k l. h k (omega (arith, l))) in let e = h n (omega arith) in omega (arith, r, e)

-- ---- parts
pub sum_split : (a b : ℕ) (f : ℕ → ℕ) → sum_below (a + b) f ≡ sum_below a f + sum_below b (λ k. f (a + k))
unfolding sum_below
sum_split a zero f = let e : a + 0 ≡ a = omega arith in (λ t. sum_below (e t) f) ∙ omega arith
sum_split a (suc b) f =
    let e : a + suc b ≡ suc (a + b) = omega arith in
    let r = sum_split a b f in (λ t. sum_below (e t) f) ∙ omega (arith, r)

pub sum_within : (a n : ℕ) (f : ℕ → ℕ) → a ≤ n → sum_below a f ≤ sum_below n f
sum_within a n f h =
    let e : a + (n - a) ≡ n = omega (arith, h) in
    let s = sum_split a (n - a) f in
    let same : sum_below (a + (n - a)) f ≡ sum_below n f = λ t. sum_below (e t) f in omega (arith, s, same)

pub sum_cut : (w n : ℕ) (f : ℕ → ℕ) → w ≤ n → ((k : ℕ) → w ≤ k → k < n → f k ≡ 0) → sum_below n f ≡ sum_below w f
sum_cut w n f h none =
    let e : n ≡ w + (n - w) = omega (arith, h) in
    let s = sum_split w (n - w) f in
    let z = sum_zero (n - w) (λ k. f (w + k)) (λ k l. none (w + k) (omega arith) (omega (arith, l))) in
    (λ t. sum_below (e t) f) ∙ omega (arith, s, z)

pub sum_blocks : (rows size : ℕ) (f : ℕ → ℕ)
    → sum_below (rows * size) f ≡ sum_below rows (λ r. sum_below size (λ k. f (r * size + k)))
unfolding sum_below
sum_blocks zero size f = let e : 0 * size ≡ 0 = omega arith in λ t. sum_below (e t) f
sum_blocks (suc r) size f =
    let e : suc r * size ≡ r * size + size = omega arith in
    let s = sum_split (r * size) size f in
    let b = sum_blocks r size f in (λ t. sum_below (e t) f) ∙ omega (arith, s, b)

-- ---- order
sum_add : (n : ℕ) (f g : ℕ → ℕ) → sum_below n (λ k. f k + g k) ≡ sum_below n f + sum_below n g
unfolding sum_below
sum_add zero f g = refl
sum_add (suc n) f g = let r = sum_add n f g in omega (arith, r)

pub sum_swap : (m n : ℕ) (g : ℕ → ℕ → ℕ)
    → sum_below m (λ a. sum_below n (λ b. g a b)) ≡ sum_below n (λ b. sum_below m (λ a. g a b))
unfolding sum_below
sum_swap zero n g = sym (sum_zero n (λ b. 0) (λ k l. refl))
sum_swap (suc m) n g =
    let r = sum_swap m n g in
    let a = sum_add n (λ b. sum_below m (λ a. g a b)) (λ b. g m b) in omega (arith, r, a)

-- ---- boxes
-- the sum over some numbers is that over a part of them, if the other terms are 0
sum_part : (f : ℤ → ℕ) (first a : ℤ) (n w : ℕ) → first ≤ℤ a → (a +ℤ pos w) ≤ℤ (first +ℤ pos n)
    → ((i : ℤ) → (i <ℤ a) ⊎ ((a +ℤ pos w) ≤ℤ i) → f i ≡ 0)
    → sum_below n (λ k. f (first +ℤ pos k)) ≡ sum_below w (λ k. f (a +ℤ pos k))
sum_part f first a n w low high none =
    let d : ℕ = unsigned_abs (a -ℤ first) in
    let at : first +ℤ pos d ≡ a = omega (arith, ints) in
    let e : n ≡ d + (w + (n - d - w)) = omega (arith, signed_linear, at, low, high) in
    let F : ℕ → ℕ = λ k. f (first +ℤ pos k) in
    let G : ℕ → ℕ = λ k. F (d + k) in
    let s = sum_split d (w + (n - d - w)) F in
    let z = sum_zero d F (λ k l. none (first +ℤ pos k) (inl (omega (arith, signed_linear, at, l)))) in
    let c = sum_cut w (w + (n - d - w)) G (omega arith)
    (λ k l m. none (first +ℤ pos (d + k)) (inr (omega (arith, signed_linear, at, l)))) in
    let here : (k : ℕ) → k < w → G k ≡ f (a +ℤ pos k) = λ k l.
    (let p : first +ℤ pos (d + k) ≡ a +ℤ pos k = omega (arith, signed_linear, at) in λ t. f (p t)) in
    let same = sum_same w G (λ k. f (a +ℤ pos k)) here in
    (λ t. sum_below (e t) F) ∙ omega (arith, s, z, c, same)

-- the same in columns and rows
pub sum_box : (g : ℤ → ℤ → ℕ) (left bottom : ℤ) (width height : ℕ) → least_pixel ≤ℤ left → (left +ℤ pos width) ≤ℤ end_of_pixels
    → least_pixel ≤ℤ bottom → (bottom +ℤ pos height) ≤ℤ end_of_pixels
    → ((i j : ℤ) → (i <ℤ left) ⊎ ((left +ℤ pos width) ≤ℤ i) → g i j ≡ 0)
    → ((i j : ℤ) → (j <ℤ bottom) ⊎ ((bottom +ℤ pos height) ≤ℤ j) → g i j ≡ 0)
    → sum_all (λ j. sum_all (λ i. g i j)) ≡ sum_below height (λ r. sum_below width (λ k. g (left +ℤ pos k) (bottom +ℤ pos r)))
sum_box g left bottom width height a b c d beside above =
    sum_part (λ j. sum_all (λ i. g i j)) least_pixel bottom (2 ^ 16) height c (omega (arith, signed_linear, d))
    (λ j h. sum_zero (2 ^ 16) _ (λ k l. above (least_pixel +ℤ pos k) j h))
    ∙ sum_same height _ _ (λ r l. sum_part (λ i. g i (bottom +ℤ pos r)) least_pixel left (2 ^ 16) width a
    (omega (arith, signed_linear, b)) (λ i h. beside i (bottom +ℤ pos r) h))

-- where there is nothing the sum is 0
pub sum_nothing : (g : ℤ → ℤ → ℕ) → ((i j : ℤ) → g i j ≡ 0) → sum_all (λ j. sum_all (λ i. g i j)) ≡ 0
sum_nothing g none =
    sum_zero (2 ^ 16) _ (λ r l. sum_zero (2 ^ 16) _ (λ k m. none (least_pixel +ℤ pos k) (least_pixel +ℤ pos r)))
