-- Facts on marks, one after the other.
use Rattle.std.proofs.Common.{◌≡◌, ℕ, List, [], ◌∷◌, ◌++◌, refl, sym, ap, ◌∙◌, append_assoc}
use Rattle.std.specs.Prelude.{true}
use Rattle.std.specs.List.{flat_map}
use Rattle.std.proofs.lemmas.List.Concat.{flat_map-append}
use Rattle.std.proofs.lemmas.List.Sums.{fold-append}
use Rattle.pd_chart.specs.Elements.{Element, element_text}
use Rattle.pd_draw.specs.declared.lane.Lane.{Lane}
use Rattle.pd_draw.specs.declared.place.Place.{Place}
use Rattle.pd_draw.specs.Marks.{Mark, joins, lane_marked, lane_with, mark_elements, marks_elements}

pub lane_marked-append : (p : Place) (l : Lane) (xs ys : List Mark) → lane_marked p l (xs ++ ys) ≡ lane_marked p (lane_marked p l xs) ys
lane_marked-append p l xs ys = fold-append (lane_with p) l xs ys

marks_elements-append : (p : Place) (l : Lane) (xs ys : List Mark)
    → marks_elements p l (xs ++ ys) ≡ marks_elements p l xs ++ marks_elements p (lane_marked p l xs) ys
marks_elements-append p l [] ys = refl
marks_elements-append p l (x ∷ xs) ys =
    ap (λ (v : List Element). mark_elements p l x ++ v) (marks_elements-append p (lane_with p l x) xs ys)
    ∙ sym (append_assoc (mark_elements p l x) (marks_elements p (lane_with p l x) xs)
    (marks_elements p (lane_marked p (lane_with p l x) xs) ys))

-- the text of some marks
abbrev pub marks_text : Place → Lane → List Mark → List ℕ
marks_text p l ms = flat_map element_text (marks_elements p l ms)

-- some marks, and then some more
pub marks_more : (p : Place) (l l1 : Lane) (xs ys : List Mark) (t t1 t2 : List ℕ) → t1 ≡ t ++ marks_text p l xs → l1 ≡ lane_marked p l xs →
    t2 ≡ t1 ++ marks_text p l1 ys → t2 ≡ t ++ marks_text p l (xs ++ ys)
marks_more p l l1 xs ys t t1 t2 g h e =
    let rest : List ℕ = marks_text p (lane_marked p l xs) ys in
    e ∙ ap (λ (v : List ℕ). v ++ marks_text p l1 ys) g ∙ ap (λ (v : Lane). (t ++ marks_text p l xs) ++ marks_text p v ys) h
    ∙ append_assoc t (marks_text p l xs) rest
    ∙ ap (λ (v : List ℕ). t ++ v) (sym (flat_map-append element_text (marks_elements p l xs) (marks_elements p (lane_marked p l xs) ys)))
    ∙ ap (λ (v : List Element). t ++ flat_map element_text v) (sym (marks_elements-append p l xs ys))

pub lane_more : (p : Place) (l l1 l2 : Lane) (xs ys : List Mark) → l1 ≡ lane_marked p l xs → l2 ≡ lane_marked p l1 ys
    → l2 ≡ lane_marked p l (xs ++ ys)
lane_more p l l1 l2 xs ys h e = e ∙ ap (λ (v : Lane). lane_marked p v ys) h ∙ sym (lane_marked-append p l xs ys)

-- what is drawn together with the mark before draws nothing
pub joined_elements : (p : Place) (l : Lane) (m : Mark) → joins p l m.figure ≡ true → marks_elements p l (m ∷ []) ≡ []
unfolding mark_elements
joined_elements p l m h = rw h refl

pub joined_lane : (p : Place) (l : Lane) (m : Mark) → joins p l m.figure ≡ true → lane_marked p l (m ∷ []) ≡ l
unfolding lane_with
joined_lane p l m h = rw h refl
