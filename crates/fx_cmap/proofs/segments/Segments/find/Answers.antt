use Rattle.std.proofs.Common.{Some, nat_le, option_map, length, map, sym, ap, ◌∙◌, arith}
use Rattle.std.specs.List.{position, range_with_len}
use Rattle.std.proofs.lemmas.List.{length-map}
use Rattle.std.proofs.lemmas.List.FromFn.{length-map-range_with_len}
use Rattle.fx_cmap.specs.Segments.{SegmentsView, segment_of, segment_for}
use Rattle.fx_cmap.specs.declared.segment.Segment.{Segment}
use Rattle.fx_cmap.proofs.Searching.{found_by_number, found_reaches}
use Rattle.fx_cmap.proofs.segments.Segments.find.Goals as goal

pub returns-in-Some-clause-value : goal.returns-in-Some-clause-value
returns-in-Some-clause-value c =
    let s = c.self.inside in
    let last = λ (x : Segment). x.end_code in
    let f = segment_of s.cmap.now s.start s.seg_count in
    ap Some c.segment.ensures.value
    ∙ ap (option_map f) (sym c.in-Some.is ∙ c.find.ensures.value ∙ ap (position (nat_le c.args.code)) (sym c.self.invariant.1))
    ∙ sym (found_by_number last f s.seg_count c.args.code)
    ∙ ap (λ (v : SegmentsView). segment_for v.segments c.args.code) c.self.view_is

pub returns-in-None-clause-value : goal.returns-in-None-clause-value
returns-in-None-clause-value c =
    let s = c.self.inside in
    let last = λ (x : Segment). x.end_code in
    let f = segment_of s.cmap.now s.start s.seg_count in
    ap (option_map f) (sym c.in-None.is ∙ c.find.ensures.value ∙ ap (position (nat_le c.args.code)) (sym c.self.invariant.1))
    ∙ sym (found_by_number last f s.seg_count c.args.code)
    ∙ ap (λ (v : SegmentsView). segment_for v.segments c.args.code) c.self.view_is

pub segment-requires-clause-within : goal.segment-requires-clause-within
segment-requires-clause-within c =
    let s = c.self.inside in
    let f = segment_of s.cmap.now s.start s.seg_count in
    let size = length-map (map f (range_with_len 0 s.seg_count)) (λ (x : Segment). x.end_code) in
    omega (arith, length-map-range_with_len f 0 s.seg_count, size, ap length c.self.invariant.1, c.in-Some.ensures.within)

pub returns-in-Some-clause-reaches : goal.returns-in-Some-clause-reaches
returns-in-Some-clause-reaches c =
    found_reaches (λ (x : Segment). x.end_code) c.args.self.now.segments c.segment.result c.args.code
    (sym (returns-in-Some-clause-value c))
