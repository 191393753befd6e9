-- The text of a picture, lane by lane.
use Rattle.std.proofs.Common.{◌≡◌, ℕ, ◌+◌, ◌-◌, List, [], ◌∷◌, ◌++◌, refl, sym, ap, ◌∙◌, append_assoc}
use Rattle.std.specs.List.{flat_map}
use Rattle.std.proofs.Math.ListN.{get_or-map}
use Rattle.std.proofs.lemmas.List.Concat.{flat_map-append}
use Rattle.pd_chart.specs.Elements.{Element, element_text, group_text}
use Rattle.pd_chart.specs.declared.frame.Frame.{Frame}
use Rattle.pd_draw.specs.Lanes.{Drawn, drawn_at, lane_at, lane_height, last_elements}
use Rattle.pd_draw.specs.Picture.{groups_of, lane_elements, lane_text, lanes_text, names_of, placed_text}
use Rattle.pd_draw.proofs.WalkLemmas.{texts_of}

three : (e : Element → List ℕ) (a b c : List Element) → flat_map e (a ++ (b ++ c)) ≡ flat_map e a ++ (flat_map e b ++ flat_map e c)
three e a b c = flat_map-append e a (b ++ c) ∙ ap (λ (v : List ℕ). flat_map e a ++ v) (flat_map-append e b c)

-- the text of a lane is that of its elements
lane_is : (f : Frame) (d : Drawn) (port : ℕ)
    → flat_map element_text (lane_elements f d port) ≡ lane_text f d.lanes (texts_of d.elements) port
unfolding lane_text
lane_is f d port =
    let names : List Element = names_of (lane_at d.lanes port).marked port in
    let last : List ℕ = flat_map element_text (last_elements f d.lanes port) in
    three element_text names (drawn_at d.elements port) (last_elements f d.lanes port)
    ∙ ap (λ (v : List ℕ). flat_map element_text names ++ (v ++ last))
    (sym (get_or-map (flat_map element_text) d.elements (port - 1) []))

placed_is : (down : ℕ) (elements : List Element)
    → group_text (record { down = down; elements = elements }) ≡ placed_text down (flat_map element_text elements)
unfolding placed_text
placed_is down elements = refl

-- the text of the lanes is that of their groups
pub groups_text : (f : Frame) (d : Drawn) (down : ℕ) (ports : List ℕ)
    → flat_map group_text (groups_of f d down ports) ≡ lanes_text f d.lanes (texts_of d.elements) down ports
groups_text f d down [] = refl
groups_text f d down (port ∷ ports) =
    let rest : List ℕ = flat_map group_text (groups_of f d (down + lane_height (lane_at d.lanes port)) ports) in
    ap (λ (v : List ℕ). v ++ rest) (placed_is down (lane_elements f d port) ∙ ap (placed_text down) (lane_is f d port))
    ∙ ap (λ (v : List ℕ). placed_text down (lane_text f d.lanes (texts_of d.elements) port) ++ v)
    (groups_text f d (down + lane_height (lane_at d.lanes port)) ports)

-- the parts of a drawing, one after the other
pub parts : (t t1 t2 t3 t4 t5 t6 t7 a head b chart keys lanes z whole groups : List ℕ) → t1 ≡ t ++ a → t2 ≡ t1 ++ head → t3 ≡ t2 ++ b →
    t4 ≡ t3 ++ chart → t5 ≡ t4 ++ keys → t6 ≡ t5 ++ lanes → t7 ≡ t6 ++ z → whole ≡ chart ++ keys → groups ≡ lanes →
    t7 ≡ t ++ (a ++ (head ++ (b ++ (whole ++ (groups ++ z)))))
parts t t1 t2 t3 t4 t5 t6 t7 a head b chart keys lanes z whole groups h1 h2 h3 h4 h5 h6 h7 e k =
    rw (h7, h6, h5, h4, h3, h2, h1, e, k) (simp append_assoc)
