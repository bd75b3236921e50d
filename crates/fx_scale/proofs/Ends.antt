-- Each end of a contour is the number of a point: `ends_below`.
-- For `zone_of`.
use Rattle.std.proofs.Common.{◌≡◌, ℕ, zero, suc, ◌+◌, ◌<◌, List, [], ◌∷◌, arith}
use Rattle.std.specs.List.{All}
use Rattle.fx_glyf.specs.Grammar.{AreEnds}
use Rattle.fx_glyf.proofs.EndPoints.{ends_reach}

-- each end is below the number of points
pub ends_below : (start : ℕ) (es : List ℕ) (n : ℕ) → AreEnds start es n → All (λ e. e < n) es
ends_below start [] n h k d lt = absurd (omega arith)
ends_below start (e ∷ es) n h zero d lt = let r = ends_reach (e + 1) es n h.1 in omega arith
ends_below start (e ∷ es) n h (suc k) d lt = ends_below (e + 1) es n h.1 k d (omega arith)

pub ends_below_at : (es given : List ℕ) (n m : ℕ) → AreEnds 0 given n → es ≡ given → m ≡ n → All (λ e. e < m) es
ends_below_at es given n m h e f = rw (e, f) (ends_below 0 given n h)
