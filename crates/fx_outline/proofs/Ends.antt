-- No contour begins after the last point: `ends_reach`, from `fx_glyf`.
-- For the walk over contours in fx_contour.
pub use Rattle.fx_glyf.proofs.EndPoints.{ends_reach}
