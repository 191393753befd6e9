use Rattle.std.proofs.Common.{◌≡◌, ◌++◌, ◌∙◌, ℕ, List, ap}
use Rattle.std.specs.List.{flat_map}
use Rattle.std.proofs.lemmas.List.Concat.{flat_map-append}
use Rattle.pd_chart.specs.Elements.{attribute_text, element_text}
use Rattle.pd_chart.specs.Picture.{elements_of, head_of}
use Rattle.pd_draw.specs.declared.lane.Lane.{Lane}
use Rattle.pd_draw.specs.Lanes.{shown_ports}
use Rattle.pd_draw.specs.Picture.{end_after, keys, lanes_text, picture}
use Rattle.pd_draw.proofs.PictureLemmas.{groups_text, parts}
use Rattle.pd_draw.proofs.picture.push_picture.Goals as goal

pub returns : goal.returns
unfolding picture
returns c =
    let f = c.args.frame in
    let n = c.args.ports in
    let levels = c.args.levels.now in
    let holds = c.args.look.holds in
    let name = c.args.name.now in
    let ports : List ℕ = shown_ports n c.args.look.port in
    λ d lanes drawn.
    let first = c.as_slice.ensures.value ∙ c.in_ok-shown.ensures.ports in
    let second = c.as_slice-2.ensures.value ∙ c.in_ok-shown.ensures.ports in
    let bottom : c.end_of-bottom.result ≡ end_after d.lanes 4000 ports =
    c.end_of-bottom.ensures.value ∙ ap (end_after c.args.lanes.now.lanes 4000) first
    ∙ ap (λ (v : List Lane). end_after v 4000 ports) lanes in
    parts _ _ _ _ _ _ _ _ _ _ _ _ _ _ _ _ _ c.in_ok-extend_from_slice.ensures.items
    (c.in_ok-push_head.ensures ∙ ap (λ b. c.extend_from_slice.new.self.items ++ flat_map attribute_text (head_of f b)) bottom)
    c.in_ok-extend_from_slice-2.ensures.items
    (c.in_ok-push_chart.ensures
    ∙ ap (λ b. c.extend_from_slice-2.new.self.items ++ flat_map element_text (elements_of f b n holds levels)) bottom)
    c.in_ok-push_lane_keys.ensures
    (c.in_ok-push_lanes.ensures
    ∙ ap (λ (v : List ℕ). c.push_lane_keys.new.text.items ++ lanes_text f c.args.lanes.now.lanes c.args.lanes.now.texts 4000 v) second
    ∙ ap (λ (v : List Lane). c.push_lane_keys.new.text.items ++ lanes_text f v c.args.lanes.now.texts 4000 ports) lanes
    ∙ ap (λ (v : List (List ℕ)). c.push_lane_keys.new.text.items ++ lanes_text f d.lanes v 4000 ports) drawn)
    c.in_ok-extend_from_slice-3.ensures.items
    (flat_map-append element_text (elements_of f (end_after d.lanes 4000 ports) n holds levels) (keys f name))
    (groups_text f d 4000 ports)
