-- Two polynomials with one normal form have one value: `ring`.
-- For products of signed numbers, in all crates.
use Rattle.std.proofs.Common.{◌≡◌, refl, sym, ap, ◌∙◌, subst, ℕ, zero, suc, ◌*◌, ℤ, pos, negsuc, ◌+ℤ◌, ◌-ℤ◌, ◌*ℤ◌, neg_ℤ, List, []}
use Rattle.std.proofs.Common.{◌∷◌, Bool, true, false, cond, ◌&&◌, eqb, leb, T, arith}
use Rattle.std.proofs.lemmas.Int.{ints}
use borrow.Author.Differences.{up, down, same_in, sum_is_lem, product_is}
use lib.Dec.{eqb→eq}
use Rattle.fx_fixed.specs.Polynomial.{Expr, var, num, ◌⊞◌, ◌⊠◌, minus, ◌⊟◌, at, value, Poly, nil, term, mono_value, poly_value}
use Rattle.fx_fixed.specs.Polynomial.{with_var, mono_mul, same_mono, with_term, poly_add, poly_scale, poly_mul, normal, all_zero}

pub *ℤ-+ℤ : (a b c : ℤ) → a *ℤ (b +ℤ c) ≡ a *ℤ b +ℤ a *ℤ c
*ℤ-+ℤ a b c =
    let u = ap (λ n. up a * n) (sum_is_lem b c) in
    let d = ap (λ n. down a * n) (sum_is_lem b c) in
    same_in _ _ (omega (arith, product_is, sum_is_lem, u, d))

pub *ℤ_comm : (a b : ℤ) → a *ℤ b ≡ b *ℤ a
*ℤ_comm a b = same_in _ _ (omega (arith, product_is))

pub +ℤ-*ℤ : (a b c : ℤ) → (a +ℤ b) *ℤ c ≡ a *ℤ c +ℤ b *ℤ c
+ℤ-*ℤ a b c = *ℤ_comm (a +ℤ b) c ∙ *ℤ-+ℤ c a b ∙ (λ i. *ℤ_comm c a i +ℤ *ℤ_comm c b i)

pub *ℤ_assoc : (a b c : ℤ) → (a *ℤ b) *ℤ c ≡ a *ℤ (b *ℤ c)
*ℤ_assoc a b c =
    let p = product_is a b in
    let q = product_is b c in
    let h1 = ap (λ n. n * up c) p.0 in
    let h2 = ap (λ n. n * up c) p.1 in
    let h3 = ap (λ n. n * down c) p.0 in
    let h4 = ap (λ n. n * down c) p.1 in
    let k1 = ap (λ n. up a * n) q.0 in
    let k2 = ap (λ n. up a * n) q.1 in
    let k3 = ap (λ n. down a * n) q.0 in
    let k4 = ap (λ n. down a * n) q.1 in
    same_in _ _ (omega (arith, product_is (a *ℤ b) c, product_is a (b *ℤ c), h1, h2, h3, h4, k1, k2, k3, k4))

pub one-*ℤ : (a : ℤ) → pos 1 *ℤ a ≡ a
one-*ℤ a = omega (arith, ints)

pub neg-*ℤ : (a : ℤ) → negsuc 0 *ℤ a ≡ neg_ℤ a
neg-*ℤ a = omega (arith, ints)

pub *ℤ_zero : (a : ℤ) → a *ℤ pos 0 ≡ pos 0
*ℤ_zero a = omega (arith, ints)

pub zero_*ℤ : (a : ℤ) → pos 0 *ℤ a ≡ pos 0
zero_*ℤ a = omega (arith, ints)

swap : (a b c : ℤ) → a *ℤ (b *ℤ c) ≡ b *ℤ (a *ℤ c)
swap a b c = sym (*ℤ_assoc a b c) ∙ ap (λ z. z *ℤ c) (*ℤ_comm a b) ∙ *ℤ_assoc b a c

cross : (a b c d : ℤ) → (a *ℤ b) *ℤ (c *ℤ d) ≡ (a *ℤ c) *ℤ (b *ℤ d)
cross a b c d = *ℤ_assoc a b (c *ℤ d) ∙ ap (λ z. a *ℤ z) (swap b c d) ∙ sym (*ℤ_assoc a c (b *ℤ d))

swap_sum : (a b c : ℤ) → a +ℤ (b +ℤ c) ≡ b +ℤ (a +ℤ c)
swap_sum a b c = omega (arith, ints)

assoc_sum : (a b c : ℤ) → a +ℤ (b +ℤ c) ≡ (a +ℤ b) +ℤ c
assoc_sum a b c = omega (arith, ints)

same_mono_is : (m n : List ℕ) → T (same_mono m n) → m ≡ n
same_mono_is [] [] t = refl
same_mono_is [] (w ∷ n) t = absurd t
same_mono_is (v ∷ m) [] t = absurd t
same_mono_is (v ∷ m) (w ∷ n) t = by (same_mono_is m n) (eqb v w) refl t
  where
    by : (T (same_mono m n) → m ≡ n) → (b : Bool) → eqb v w ≡ b → T (b && same_mono m n) → (v ∷ m) ≡ (w ∷ n)
    by ih true e s = (λ i. eqb→eq v w (subst T (sym e) tt) i ∷ ih s i)
    by ih false e s = absurd s

with_var_is : (env : List ℤ) (v : ℕ) (m : List ℕ) → mono_value env (with_var v m) ≡ at env v *ℤ mono_value env m
with_var_is env v [] = refl
with_var_is env v (w ∷ m) = by (with_var_is env v m) (leb v w)
  where
    by : mono_value env (with_var v m) ≡ at env v *ℤ mono_value env m → (b : Bool)
        → mono_value env (cond b (v ∷ w ∷ m) (w ∷ with_var v m)) ≡ at env v *ℤ (at env w *ℤ mono_value env m)
    by ih true = refl
    by ih false = ap (λ z. at env w *ℤ z) ih ∙ swap (at env w) (at env v) (mono_value env m)

mono_mul_is : (env : List ℤ) (m n : List ℕ) → mono_value env (mono_mul m n) ≡ mono_value env m *ℤ mono_value env n
mono_mul_is env [] n = sym (one-*ℤ (mono_value env n))
mono_mul_is env (v ∷ m) n =
    with_var_is env v (mono_mul m n) ∙ ap (λ z. at env v *ℤ z) (mono_mul_is env m n)
    ∙ sym (*ℤ_assoc (at env v) (mono_value env m) (mono_value env n))

with_term_is : (env : List ℤ) (c : ℤ) (m : List ℕ) (p : Poly)
    → poly_value env (with_term c m p) ≡ c *ℤ mono_value env m +ℤ poly_value env p
with_term_is env c m nil = refl
with_term_is env c m (term d n p) = by (with_term_is env c m p) (same_mono m n) refl
  where
    by : poly_value env (with_term c m p) ≡ c *ℤ mono_value env m +ℤ poly_value env p → (b : Bool) → same_mono m n ≡ b
        → poly_value env (cond b (term (c +ℤ d) n p) (term d n (with_term c m p))) ≡ c *ℤ mono_value env m +ℤ
        (d *ℤ mono_value env n +ℤ poly_value env p)
    by ih true e =
        ap (λ z. z +ℤ poly_value env p) (+ℤ-*ℤ c d (mono_value env n))
        ∙ sym (assoc_sum (c *ℤ mono_value env n) (d *ℤ mono_value env n) (poly_value env p))
        ∙ ap (λ k. c *ℤ mono_value env k +ℤ (d *ℤ mono_value env n +ℤ poly_value env p))
        (sym (same_mono_is m n (subst T (sym e) tt)))
    by ih false e = ap (λ z. d *ℤ mono_value env n +ℤ z) ih
        ∙ swap_sum (d *ℤ mono_value env n) (c *ℤ mono_value env m) (poly_value env p)

poly_add_is : (env : List ℤ) (p q : Poly) → poly_value env (poly_add p q) ≡ poly_value env p +ℤ poly_value env q
poly_add_is env nil q = omega (arith, ints)
poly_add_is env (term c m p) q =
    with_term_is env c m (poly_add p q) ∙ ap (λ z. c *ℤ mono_value env m +ℤ z) (poly_add_is env p q)
    ∙ assoc_sum (c *ℤ mono_value env m) (poly_value env p) (poly_value env q)

poly_scale_is : (env : List ℤ) (c : ℤ) (m : List ℕ) (p : Poly)
    → poly_value env (poly_scale c m p) ≡ (c *ℤ mono_value env m) *ℤ poly_value env p
poly_scale_is env c m nil = sym (*ℤ_zero (c *ℤ mono_value env m))
poly_scale_is env c m (term d n p) =
    (λ i. (c *ℤ d) *ℤ mono_mul_is env m n i +ℤ poly_scale_is env c m p i)
    ∙ ap (λ z. z +ℤ (c *ℤ mono_value env m) *ℤ poly_value env p) (cross c d (mono_value env m) (mono_value env n))
    ∙ sym (*ℤ-+ℤ (c *ℤ mono_value env m) (d *ℤ mono_value env n) (poly_value env p))

poly_mul_is : (env : List ℤ) (p q : Poly) → poly_value env (poly_mul p q) ≡ poly_value env p *ℤ poly_value env q
poly_mul_is env nil q = sym (zero_*ℤ (poly_value env q))
poly_mul_is env (term c m p) q =
    poly_add_is env (poly_scale c m q) (poly_mul p q)
    ∙ (λ i. poly_scale_is env c m q i +ℤ poly_mul_is env p q i)
    ∙ sym (+ℤ-*ℤ (c *ℤ mono_value env m) (poly_value env p) (poly_value env q))

number_is : (z : ℤ) → z *ℤ pos 1 +ℤ pos 0 ≡ z
number_is z = omega (arith, ints)

variable_is : (z : ℤ) → pos 1 *ℤ (z *ℤ pos 1) +ℤ pos 0 ≡ z
variable_is z = omega (arith, ints, one-*ℤ (z *ℤ pos 1))

normal_is : (env : List ℤ) (e : Expr) → poly_value env (normal e) ≡ value env e
normal_is env (var n) = variable_is (at env n)
normal_is env (num z) = number_is z
normal_is env (a ⊞ b) = poly_add_is env (normal a) (normal b) ∙ (λ i. normal_is env a i +ℤ normal_is env b i)
normal_is env (a ⊠ b) = poly_mul_is env (normal a) (normal b) ∙ (λ i. normal_is env a i *ℤ normal_is env b i)
normal_is env (minus a) =
    poly_scale_is env (negsuc 0) [] (normal a) ∙ neg-*ℤ (poly_value env (normal a)) ∙ ap neg_ℤ (normal_is env a)

all_zero_is : (env : List ℤ) (p : Poly) → T (all_zero p) → poly_value env p ≡ pos 0
all_zero_is env nil t = refl
all_zero_is env (term (pos zero) m p) t = (λ i. zero_*ℤ (mono_value env m) i +ℤ all_zero_is env p t i)
all_zero_is env (term (pos (suc n)) m p) t = absurd t
all_zero_is env (term (negsuc n) m p) t = absurd t

equal_from_difference : (a b : ℤ) → a -ℤ b ≡ pos 0 → a ≡ b
equal_from_difference a b h = omega (arith, ints)

-- a ≡ b at any variables, where a - b has only zero coefficients: `ring env a b tt`
pub ring : (env : List ℤ) (a b : Expr) → T (all_zero (normal (a ⊟ b))) → value env a ≡ value env b
ring env a b t =
    equal_from_difference (value env a) (value env b) (sym (normal_is env (a ⊟ b)) ∙ all_zero_is env (normal (a ⊟ b)) t)
