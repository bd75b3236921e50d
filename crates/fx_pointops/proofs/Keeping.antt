-- Every row keeps the number of points and the contours of both zones: `rows_keep`.
-- It serves the law of this crate that says so, and the one that whole runs keep them.
use Rattle.std.proofs.Common.{ℕ, ℤ, Bool, true, false, if◌then◌else◌, List, [], ◌∷◌, Option, Some, None}
use Rattle.fx_fixed.specs.declared.places.Place.{Place}
use Rattle.fx_zone.specs.declared.point.ZonePoint.{ZonePoint}
use Rattle.fx_zone.specs.Figures.{Figure, HasShape, changed, in_range, in_range_without}
use Rattle.fx_zone.specs.Points.{curved}
use Rattle.fx_zone.proofs.Shapes.{shape_same, shape_then, changed_shape, each_shape, interpolated_shape}
use Rattle.fx_gstate.specs.declared.deltas.Delta.{Delta}
use Rattle.fx_gstate.specs.declared.state.GState.{GState}
use Rattle.fx_gstate.specs.declared.zones.ZonePointer.{ZonePointer}
use Rattle.fx_gstate.specs.declared.zones.ZonePointer.TheVariants.{Twilight, Glyph}
use Rattle.fx_gstate.specs.Deltas.{delta_of, each_pair}
use Rattle.fx_pointops.specs.declared.zones.Zones.{Zones}
use Rattle.fx_pointops.specs.Zones.{HasShapes, on_zone, index_of, point_at, changed_of, changed_at, with_stray, counting, counting_two, on_point}
use Rattle.fx_pointops.specs.Kept.{RowsKeepShapes}
use Rattle.fx_pointops.specs.ShiftPoint.{shift_by, point_shifted}
use Rattle.fx_pointops.specs.Loops.{each}
use Rattle.fx_pointops.specs.Measure.{gc_of, md_of, line_between}
use Rattle.fx_pointops.specs.Direct.{utp_of, mdap_of, laid_from_rp, msirp_of, aligned_to_rp, alignrp_of}
use Rattle.fx_pointops.specs.Direct.{alignpts_of, scfs_of, shpix_of, mdrp_of}
use Rattle.fx_pointops.specs.Indirect.{miap_of, mirp_of}
use Rattle.fx_pointops.specs.Shift.{shp_of, contour_shifted, shc_of, shz_of}
use Rattle.fx_pointops.specs.Interpolate.{point_in_proportion, ip_of}
use Rattle.fx_pointops.specs.Intersect.{isect_of}
use Rattle.fx_pointops.specs.Flip.{point_flipped, flippt_of, run_curved, run_curved_at, fliprg_of}
use Rattle.fx_pointops.specs.Delta.{point_moved_at, point_delta, deltap_of}
use Rattle.fx_pointops.specs.Iup.{iup_of}

-- ---- parts of rows

pub shapes_same : (z : Zones) → HasShapes z z
shapes_same z = record { twilight = shape_same z.twilight; glyph = shape_same z.glyph }

pub shapes_then : (x y z : Zones) → HasShapes x y → HasShapes y z → HasShapes x z
shapes_then x y z a b = record {
  twilight = shape_then x.twilight y.twilight z.twilight a.twilight b.twilight;
  glyph = shape_then x.glyph y.glyph z.glyph a.glyph b.glyph;
}

if_keeps : (z x y : Zones) (b : Bool) → HasShapes z x → HasShapes z y → HasShapes z (if b then x else y)
if_keeps z x y true h g = h
if_keeps z x y false h g = g

figure_if : (f x y : Figure) (b : Bool) → HasShape f x → HasShape f y → HasShape f (if b then x else y)
figure_if f x y true h g = h
figure_if f x y false h g = g

zone_keeps : (change : Figure → Figure) → ((f : Figure) → HasShape f (change f)) → (zone : ZonePointer) (z : Zones)
    → HasShapes z (on_zone change zone z)
zone_keeps change h Twilight z = record { twilight = h z.twilight; glyph = shape_same z.glyph }
zone_keeps change h Glyph z = record { twilight = shape_same z.twilight; glyph = h z.glyph }

index_keeps : (change : ZonePoint → ZonePoint) (zone : ZonePointer) (n : Option ℕ) (z : Zones)
    → HasShapes z (changed_of change zone n z)
index_keeps change zone None z = shapes_same z
index_keeps change zone (Some n) z = zone_keeps (changed change n) (changed_shape change n) zone z

changed_keeps : (change : ZonePoint → ZonePoint) (zone : ZonePointer) (n : ℤ) (z : Zones) → HasShapes z (changed_at change zone n z)
unfolding changed_at
changed_keeps change zone n z = index_keeps change zone (index_of n) z

stray_keeps : (z : Zones) → HasShapes z (with_stray z)
stray_keeps z = record { twilight = shape_same z.twilight; glyph = shape_same z.glyph }

counting_keeps : (p : Option ZonePoint) (z : Zones) → HasShapes z (counting p z)
counting_keeps (Some p) z = shapes_same z
counting_keeps None z = stray_keeps z

counting_two_keeps : (p q : Option ZonePoint) (z : Zones) → HasShapes z (counting_two p q z)
counting_two_keeps p q z = shapes_then z (counting p z) _ (counting_keeps p z) (counting_keeps q _)

-- a row after it has counted its strays
after_one : (p : Option ZonePoint) (z y : Zones) → HasShapes (counting p z) y → HasShapes z y
after_one p z y h = shapes_then z _ y (counting_keeps p z) h

after_two : (p q : Option ZonePoint) (z y : Zones) → HasShapes (counting_two p q z) y → HasShapes z y
after_two p q z y h = shapes_then z _ y (counting_two_keeps p q z) h

point_keeps : (change : ZonePoint → ZonePoint) (zone : ZonePointer) (n : ℤ) (z : Zones) → HasShapes z (on_point change zone n z)
point_keeps change zone n z = after_one (point_at zone n z) z _ (changed_keeps change zone n _)

each_keeps : (steps : ℤ → Zones → Zones) → ((p : ℤ) (z : Zones) → HasShapes z (steps p z)) → (ps : List ℤ) (z : Zones)
    → HasShapes z (each steps ps z)
unfolding each
each_keeps steps h [] z = shapes_same z
each_keeps steps h (p ∷ ps) z =
    shapes_then z (steps p z) (each steps ps (steps p z)) (h p z) (each_keeps steps h ps (steps p z))

pairs_keep : (steps : ℤ → ℤ → Zones → Zones) → ((p a : ℤ) (z : Zones) → HasShapes z (steps p a z)) → (ps : List ℤ) (z : Zones)
    → HasShapes z (each_pair steps ps z)
unfolding each_pair
pairs_keep steps h [] z = shapes_same z
pairs_keep steps h (p ∷ []) z = shapes_same z
pairs_keep steps h (p ∷ a ∷ ps) z =
    shapes_then z (steps p a z) (each_pair steps ps (steps p a z)) (h p a z) (pairs_keep steps h ps (steps p a z))

laid_keeps : (g : GState) (p : ℤ) (by : Place) (z : Zones) → HasShapes z (laid_from_rp g p by z)
laid_keeps g p by z = if_keeps z _ z _ (changed_keeps _ g.zp1 p z) (shapes_same z)

contour_keeps : (g : GState) (by : Place) (except : Option ℕ) (c : Option (ℕ × ℕ)) (z : Zones)
    → HasShapes z (contour_shifted g by except c z)
contour_keeps g by except (Some c) z = zone_keeps _ (each_shape (in_range_without _) _) g.zp2 z
contour_keeps g by except None z = stray_keeps z

run_shape : (on : Bool) (low high : ℕ) (f : Figure) → HasShape f (run_curved on low high f)
run_shape on low high f = figure_if f _ f _ (each_shape (in_range low _) (curved on) f) (shape_same f)

range_keeps : (on : Bool) (zone : ZonePointer) (low high : Option ℕ) (z : Zones) → HasShapes z (run_curved_at on zone low high z)
range_keeps on zone (Some low) (Some high) z = zone_keeps (run_curved on low high) (run_shape on low high) zone z
range_keeps on zone (Some low) None z = shapes_same z
range_keeps on zone None high z = shapes_same z

at_size_keeps : (g : GState) (ppem : ℕ) (d : Delta) (p : ℤ) (z : Zones) → HasShapes z (point_moved_at g ppem d p z)
at_size_keeps g ppem d p z = if_keeps z _ _ _ (point_keeps _ g.zp0 p z) (shapes_same z)

-- ---- rows

pub rows_keep : RowsKeepShapes
unfolding isect_of alignpts_of utp_of mdap_of iup_of shp_of shc_of shz_of shpix_of ip_of msirp_of alignrp_of miap_of gc_of scfs_of
    md_of deltap_of flippt_of fliprg_of mdrp_of mirp_of line_between point_shifted aligned_to_rp point_in_proportion
    point_flipped point_delta
rows_keep = record {
  isect = λ g p a0 a1 b0 b1 z. after_two (point_at g.zp1 a0 z) (point_at g.zp1 a1 z) z _
      (after_two (point_at g.zp0 b0 z) (point_at g.zp0 b1 z) _ _ (point_keeps _ g.zp2 p _));
  alignpts = λ g p q z. after_two _ _ z _ (shapes_then _ _ _ (changed_keeps _ g.zp1 p _) (changed_keeps _ g.zp0 q _));
  utp = λ g p z. point_keeps _ g.zp0 p z;
  mdap = λ g rounds p z. point_keeps _ g.zp0 p z;
  iup = λ axis z. record { twilight = shape_same z.twilight; glyph = interpolated_shape axis z.glyph };
  shp = λ g one points z. after_one _ z _ (each_keeps _ (λ p y. point_keeps _ g.zp2 p y) points _);
  shc = λ g one k z. after_one _ z _ (contour_keeps g _ _ _ _);
  shz = λ g one zone z. after_one _ z _ (zone_keeps _ (each_shape (in_range_without _) _) zone _);
  shpix = λ g points a z. each_keeps _ (λ p y. point_keeps _ g.zp2 p y) points z;
  ip = λ g points z. after_two _ _ z _ (each_keeps _ (λ p y. point_keeps _ g.zp2 p y) points _);
  msirp = λ g p d z. after_two _ _ z _ (shapes_then _ _ _ (laid_keeps g p (shift_by g d) _) (changed_keeps _ g.zp1 p _));
  alignrp = λ g points z. after_one _ z _ (each_keeps (aligned_to_rp g) (λ p y. point_keeps _ g.zp1 p y) points _);
  miap = λ g rounds p v z. point_keeps _ g.zp0 p z;
  gc = λ g original p z. counting_keeps _ z;
  scfs = λ g p v z. point_keeps _ g.zp2 p z;
  md = λ g original p q z. counting_two_keeps _ _ z;
  deltap = λ g form ppem pairs z. pairs_keep (point_delta g form ppem)
      (λ p a y. at_size_keeps g ppem (delta_of form g.delta_base g.delta_shift a) p y) pairs z;
  flippt = λ g points z. each_keeps (point_flipped g) (λ p y. point_keeps _ g.zp0 p y) points z;
  fliprg = λ g on low high z. after_two _ _ z _ (range_keeps on g.zp0 (index_of low) (index_of high) _);
  mdrp = λ g how p z. after_two _ _ z _ (changed_keeps _ g.zp1 p _);
  mirp = λ g how p v z. after_two _ _ z _ (shapes_then _ _ _ (laid_keeps g p _ _) (changed_keeps _ g.zp1 p _));
  line = λ g p q z. counting_two_keeps _ _ z;
}
