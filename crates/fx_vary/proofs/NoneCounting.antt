-- Where none of its tuples counts a glyph is as in the font, as `rests_if_none` says.
-- For the law that says so.
use Rattle.std.proofs.Common.{◌≡◌, ℕ, ◌≤◌, ◌-ℤ◌, unsigned_abs, Bool, true, false, List, [], ◌∷◌, Result, Ok, Err, refl, sym, ap, ◌∙◌}
use Rattle.fx_fixed.specs.Chain.{◌>>=◌, map_fault}
use Rattle.fx_sfnt.specs.declared.records.Metrics.{Metrics}
use Rattle.fx_glyf.specs.declared.glyph.Glyph.{Glyph}
use Rattle.fx_tuples.specs.declared.fault.TupleFault.{TupleFault}
use Rattle.fx_tuples.specs.Tuples.{TupleSettingView}
use Rattle.fx_tuples.specs.Stores.{TupleStoreView, store_of}
use Rattle.fx_moves.specs.declared.point.GivenPoint.{GivenPoint}
use Rattle.fx_moves.specs.Moves.{tuples_added}
use Rattle.fx_moves.specs.Stores.{store_added, glyph_added}
use Rattle.fx_tuples.proofs.Resting.{same_value}
use Rattle.fx_moves.proofs.AddingNothing.{adds_nothing}
use Rattle.fx_vary.specs.declared.fault.ShapeFault.{ShapeFault}
use Rattle.fx_vary.specs.declared.fault.ShapeFault.TheVariants.{BadVariations}
use Rattle.fx_vary.specs.Gvar.{glyph_data_of}
use Rattle.fx_vary.specs.Instance.{InstanceView, setting_of, points_added}
use Rattle.fx_vary.specs.Shape.{own_shape, ShapeView, ends_of, points_before, summed, shape_in, x_min_of}
use Rattle.fx_vary.specs.Laws.{IsInFont, StoreRests, NoneCountsIn}
use Rattle.fx_vary.proofs.Resting.{rests}

added_rests : (s : TupleSettingView) (ends : List ℕ) (second : Bool) (bytes : List ℕ) (ps qs : List GivenPoint)
    → NoneCountsIn s bytes → glyph_added s ends second bytes ps ≡ Ok qs → qs ≡ ps
unfolding glyph_added store_added
added_rests s ends second [] ps qs h e = sym (same_value _ _ _ e refl)
added_rests s ends second (b ∷ bytes) ps qs h e = by (store_of (b ∷ bytes) 0) h e
  where
    by : (r : Result TupleStoreView TupleFault) → StoreRests s r
        → (r >>= λ t. tuples_added s ends second t.numbers t.count t.cursor ps) ≡ Ok qs → qs ≡ ps
    by (Err f) h e = absurd (cc e)
    by (Ok t) h e = adds_nothing s ends second t.numbers t.count t.cursor ps qs h e

module _ (i : InstanceView) (g : ℕ) (glyph : Glyph) (h : NoneCountsIn (setting_of i) (glyph_data_of i.gvar g)) where
  summed_rests : (second : Bool) (qs : List GivenPoint) → summed i g second glyph ≡ Ok qs
      → summed i g second glyph ≡ Ok (points_before second glyph)
  unfolding summed
  summed_rests second qs e =
      by (points_added i g (ends_of glyph) second (points_before second glyph)) refl e
    where
      by : (r : Result (List GivenPoint) TupleFault) → points_added i g (ends_of glyph) second (points_before second glyph) ≡ r
          → map_fault (λ _. BadVariations g) r ≡ Ok qs → map_fault (λ _. BadVariations g) r ≡ Ok (points_before second glyph)
      by (Err f) k e = absurd (cc e)
      by (Ok ps) k e = ap Ok (added_rests (setting_of i) (ends_of glyph) second (glyph_data_of i.gvar g)
          (points_before second glyph) ps h k)

  first_fault : (m : Metrics) (f : ShapeFault) → summed i g false glyph ≡ Err f → shape_in i g m glyph ≡ Err f
  unfolding shape_in
  first_fault m f e = rw e refl

  second_fault : (m : Metrics) (xs : List GivenPoint) (f : ShapeFault) → summed i g false glyph ≡ Ok xs
      → summed i g true glyph ≡ Err f → shape_in i g m glyph ≡ Err f
  unfolding shape_in
  second_fault m xs f d e = rw (d, e) refl

  by_sums : (m : Metrics) (shape : ShapeView) (C : Type 0) (a b : Result (List GivenPoint) ShapeFault)
      → summed i g false glyph ≡ a → summed i g true glyph ≡ b → shape_in i g m glyph ≡ Ok shape
      → (summed i g false glyph ≡ Ok (points_before false glyph) → summed i g true glyph ≡ Ok (points_before true glyph) → C) → C
  by_sums m shape C (Err f) b ea eb e t = absurd (cc (sym (first_fault m f ea) ∙ e))
  by_sums m shape C (Ok xs) (Err f) ea eb e t = absurd (cc (sym (second_fault m xs f ea eb) ∙ e))
  by_sums m shape C (Ok xs) (Ok ys) ea eb e t = t (summed_rests false xs ea) (summed_rests true ys eb)

pub rests_if_none : (i : InstanceView) (g : ℕ) (m : Metrics) (glyph : Glyph) (shape : ShapeView) → IsInFont glyph
    → unsigned_abs (x_min_of glyph -ℤ m.lsb) ≤ 65535 → m.advance_width ≤ 65535
    → NoneCountsIn (setting_of i) (glyph_data_of i.gvar g) → shape_in i g m glyph ≡ Ok shape
    → shape ≡ own_shape m glyph
rests_if_none i g m glyph shape h b w n e =
    by_sums i g glyph n m shape _ (summed i g false glyph) (summed i g true glyph) refl refl e
    (λ x y. same_value _ _ _ (sym e) (rests i g m glyph h b w x y))
