use Rattle.std.proofs.Common.{List, Some, nat_le, option_map, length, map, sym, ap, ◌∙◌, arith}
use Rattle.std.specs.List.{position, range_with_len}
use Rattle.std.proofs.lemmas.List.{length-map}
use Rattle.std.proofs.lemmas.List.FromFn.{length-map-range_with_len}
use Rattle.fx_cmap.specs.Groups.{group_of, group_for}
use Rattle.fx_cmap.specs.declared.group.Group.{Group}
use Rattle.fx_cmap.proofs.Searching.{found_by_number}
use Rattle.fx_cmap.proofs.groups.Groups.find.Goals as goal

pub returns-in-Some : goal.returns-in-Some
returns-in-Some c =
    let s = c.self.inside in
    let last = λ (x : Group). x.end_char_code in
    let f = group_of s.cmap.now s.start in
    ap Some c.group.ensures
    ∙ ap (option_map f) (sym c.in-Some.is ∙ c.find.ensures.value ∙ ap (position (nat_le c.args.code)) (sym c.self.invariant.1))
    ∙ sym (found_by_number last f s.num_groups c.args.code)
    ∙ ap (λ (all : List Group). group_for all c.args.code) c.self.view_is

pub returns-in-None : goal.returns-in-None
returns-in-None c =
    let s = c.self.inside in
    let last = λ (x : Group). x.end_char_code in
    let f = group_of s.cmap.now s.start in
    ap (option_map f) (sym c.in-None.is ∙ c.find.ensures.value ∙ ap (position (nat_le c.args.code)) (sym c.self.invariant.1))
    ∙ sym (found_by_number last f s.num_groups c.args.code)
    ∙ ap (λ (all : List Group). group_for all c.args.code) c.self.view_is

pub group-requires : goal.group-requires
group-requires c =
    let s = c.self.inside in
    let f = group_of s.cmap.now s.start in
    let size = length-map (map f (range_with_len 0 s.num_groups)) (λ (x : Group). x.end_char_code) in
    omega (arith, length-map-range_with_len f 0 s.num_groups, size, ap length c.self.invariant.1, c.in-Some.ensures.within)
