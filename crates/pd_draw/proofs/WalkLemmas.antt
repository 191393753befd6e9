-- Facts on a run that is drawn.
use Rattle.std.proofs.Common.{◌≡◌, ℕ, ◌+◌, ◌-◌, ◌<◌, ◌≤◌, Bool, true, false, cond, List, [], ◌∷◌, ◌++◌, Option, length, map, set}
use Rattle.std.proofs.Common.{refl, sym, ap, ◌∙◌, arith}
use Rattle.std.specs.List.{flat_map}
use Rattle.std.proofs.Math.ListN.{get_or-map}
use Rattle.std.proofs.lemmas.List.{map-set}
use Rattle.std.proofs.lemmas.List.Concat.{flat_map-append}
use Rattle.std.proofs.lemmas.List.Sums.{fold-append}
use Rattle.pd_chart.specs.Elements.{Element, element_text}
use Rattle.pd_port.specs.declared.due.Due.{Due}
use Rattle.pd_scenario.specs.Plan.{IsPlan, Plan, count}
use Rattle.pd_run.specs.Run.{Move}
use Rattle.pd_run.specs.Live.{next_move}
use Rattle.pd_watch.specs.Watch.{WatchData}
use Rattle.pd_show.specs.declared.seen.Seen.{Seen}
use Rattle.pd_show.specs.Seen.{seen_of}
use Rattle.pd_show.specs.Since.{told_at}
use Rattle.pd_chart.specs.declared.frame.Frame.{Frame}
use Rattle.pd_chart.specs.Curves.{CurvesData, curves_after, curves_of, curves_start}
use Rattle.pd_draw.specs.declared.lane.Lane.{Lane}
use Rattle.pd_draw.specs.Lanes.{Drawn, drawn_after, drawn_at, drawn_of, drawn_start, elements_after, has_place, lane_at, lanes_after}
use Rattle.pd_draw.specs.Lanes.{move_elements, place_of, texts_after, with_drawn}

port_is : (plan : Plan) (ws : List WatchData) (m : Move) → (seen_of plan ws m).port ≡ m.port + 1
unfolding seen_of
port_is plan ws m = refl

-- the port of what is seen of a move is numbered from 1
pub first_port : (plan : Plan) (ws : List WatchData) (past : List Move) (p : ℕ) (d : Due) (seen : Seen) →
    seen ≡ seen_of plan ws (next_move plan past p d) → 1 ≤ seen.port
first_port plan ws past p d seen e =
    let is : seen.port ≡ p + 1 = ap (λ (s : Seen). s.port) e ∙ port_is plan ws (next_move plan past p d) in
    omega arith

pub last_port : (n : ℕ) (plan : Plan) (ws : List WatchData) (past : List Move) (p : ℕ) (d : Due) (seen : Seen) →
    seen ≡ seen_of plan ws (next_move plan past p d) → p < count plan → IsPlan n plan → seen.port ≤ 8
last_port n plan ws past p d seen e known is_plan =
    let is : seen.port ≡ p + 1 = ap (λ (s : Seen). s.port) e ∙ port_is plan ws (next_move plan past p d) in
    let ports : length plan.settings ≡ n = is_plan.settings_count in
    let few : n ≤ 8 = is_plan.few_ports in
    omega arith

-- the curves after one more move
pub curves_more : (f : Frame) (plan : Plan) (seens : List Seen) (s seen : Seen) (c c' : CurvesData) → c ≡ curves_of f plan seens →
    seen ≡ s → c' ≡ curves_after f c seen → c' ≡ curves_of f plan (seens ++ s ∷ [])
curves_more f plan seens s seen c c' h e g =
    g ∙ ap (λ v. curves_after f v seen) h ∙ ap (curves_after f (curves_of f plan seens)) e
    ∙ sym (fold-append (curves_after f) (curves_start f plan) seens (s ∷ []))

pub drawn_push : (f : Frame) (chosen : Option ℕ) (seens : List Seen) (s : Seen)
    → drawn_of f chosen (seens ++ s ∷ []) ≡ drawn_after f chosen (drawn_of f chosen seens) s
drawn_push f chosen seens s =
    fold-append (drawn_after f chosen) (drawn_start f) seens (s ∷ [])

-- the time of the last line after one more move
pub before_more : (f : Frame) (chosen : Option ℕ) (seens : List Seen) (s seen : Seen) (b b' : ℕ) →
    b ≡ (drawn_of f chosen seens).before → seen ≡ s → b' ≡ told_at b seen → b' ≡ (drawn_of f chosen (seens ++ s ∷ [])).before
before_more f chosen seens s seen b b' h e g =
    g ∙ ap (λ (v : ℕ). told_at v seen) h ∙ ap (told_at (drawn_of f chosen seens).before) e
    ∙ sym (ap (λ (d : Drawn). d.before) (drawn_push f chosen seens s))

-- the lanes after one more move
pub lanes_more : (f : Frame) (chosen : Option ℕ) (seens : List Seen) (s seen : Seen) (b : ℕ) (ls ls' : List Lane) →
    b ≡ (drawn_of f chosen seens).before → ls ≡ (drawn_of f chosen seens).lanes → seen ≡ s →
    ls' ≡ lanes_after f chosen b ls seen → ls' ≡ (drawn_of f chosen (seens ++ s ∷ [])).lanes
lanes_more f chosen seens s seen b ls ls' k h e g =
    let d : Drawn = drawn_of f chosen seens in
    g ∙ ap (λ (v : ℕ). lanes_after f chosen v ls seen) k ∙ ap (λ (v : List Lane). lanes_after f chosen d.before v seen) h
    ∙ ap (lanes_after f chosen d.before d.lanes) e ∙ sym (ap (λ (v : Drawn). v.lanes) (drawn_push f chosen seens s))

-- the texts of what has been drawn in the lanes
abbrev pub texts_of : List (List Element) → List (List ℕ)
texts_of all = map (flat_map element_text) all

-- one more piece in a lane
with_more : (all : List (List Element)) (port : ℕ) (more : List Element)
    → with_drawn (texts_of all) port (flat_map element_text more) ≡ texts_of (with_drawn all port more)
with_more all port more =
    let at : drawn_at (texts_of all) port ≡ flat_map element_text (drawn_at all port) =
    get_or-map (flat_map element_text) all (port - 1) [] in
    ap (λ (v : List ℕ). set (texts_of all) (port - 1) (v ++ flat_map element_text more)) at
    ∙ ap (set (texts_of all) (port - 1)) (sym (flat_map-append element_text (drawn_at all port) more))
    ∙ sym (map-set (flat_map element_text) all (port - 1) (drawn_at all port ++ more))

texts_if : (b : Bool) (all : List (List Element)) (port : ℕ) (more : List Element)
    → cond b (with_drawn (texts_of all) port (flat_map element_text more)) (texts_of all) ≡ texts_of (cond b (with_drawn all port more) all)
texts_if true all port more = with_more all port more
texts_if false all port more = refl

texts_then : (f : Frame) (chosen : Option ℕ) (before : ℕ) (ls : List Lane) (all : List (List Element)) (s : Seen)
    → texts_after f chosen before ls (texts_of all) s ≡ texts_of (elements_after f chosen before ls all s)
unfolding texts_after elements_after
texts_then f chosen before ls all s =
    texts_if (has_place f chosen s) all s.port (move_elements (place_of f before s) (lane_at ls s.port) s)

-- what has been drawn then
pub texts_more : (f : Frame) (chosen : Option ℕ) (seens : List Seen) (s seen : Seen) (b : ℕ) (ls : List Lane) (ts ts' : List (List ℕ)) →
    b ≡ (drawn_of f chosen seens).before → ls ≡ (drawn_of f chosen seens).lanes →
    ts ≡ texts_of (drawn_of f chosen seens).elements → seen ≡ s → ts' ≡ texts_after f chosen b ls ts seen →
    ts' ≡ texts_of (drawn_of f chosen (seens ++ s ∷ [])).elements
texts_more f chosen seens s seen b ls ts ts' l h k e g =
    let d : Drawn = drawn_of f chosen seens in
    g ∙ ap (λ (v : List (List ℕ)). texts_after f chosen b ls v seen) k
    ∙ ap (λ (v : ℕ). texts_after f chosen v ls (texts_of d.elements) seen) l
    ∙ ap (λ (v : List Lane). texts_after f chosen d.before v (texts_of d.elements) seen) h
    ∙ ap (texts_after f chosen d.before d.lanes (texts_of d.elements)) e
    ∙ texts_then f chosen d.before d.lanes d.elements s
    ∙ sym (ap (λ (v : Drawn). texts_of v.elements) (drawn_push f chosen seens s))
