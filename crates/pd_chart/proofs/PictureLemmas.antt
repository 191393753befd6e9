-- The elements of a picture, section by section.
use Rattle.std.proofs.Common.{◌≡◌, ℕ, Bool, List, [], ◌∷◌, ◌++◌, map, refl, ap, ◌∙◌, append_assoc}
use Rattle.std.specs.List.{flat_map}
use Rattle.std.proofs.lemmas.List.Concat.{flat_map-append}
use Rattle.pd_chart.specs.Elements.{Element, element_text}
use Rattle.pd_chart.specs.Shapes.{style_of}
use Rattle.pd_chart.specs.declared.curves.Level.{Level}
use Rattle.pd_chart.specs.declared.frame.Frame.{Frame}
use Rattle.pd_chart.specs.Chart.{area_of, budget_of, held_ports, key_of, names_of, outline_of, ports_down, ports_up}
use Rattle.pd_chart.specs.Chart.{power_tick, power_ticks, time_tick, time_ticks}
use Rattle.pd_chart.specs.Picture.{axes_text, curves_text, elements_of, keys_text, least_elements, rules, stacks_text, top_of}

twice : {A : Type 0} (e : Element → List ℕ) (g : A → List Element) (xs : List A)
    → flat_map e (flat_map g xs) ≡ flat_map (λ x. flat_map e (g x)) xs
twice e g [] = refl
twice e g (x ∷ xs) = flat_map-append e (g x) (flat_map g xs) ∙ ap (λ v. flat_map e (g x) ++ v) (twice e g xs)

mapped : {A : Type 0} (e : Element → List ℕ) (g : A → Element) (xs : List A) → flat_map e (map g xs) ≡ flat_map (λ x. e (g x)) xs
mapped e g [] = refl
mapped e g (x ∷ xs) = ap (λ v. e (g x) ++ v) (mapped e g xs)

joined : (a b c d : List ℕ) → a ≡ b → c ≡ d → a ++ c ≡ b ++ d
joined a b c d g h = rw (g, h) refl

sections : (e : Element → List ℕ) (s : Element) (f g h : ℕ → List Element) (i j : ℕ → Element) (ks ts ps ds hs : List ℕ)
    (lines rest : List Element)
    → flat_map e (s ∷ (flat_map f ks ++ (lines ++ (flat_map g ts ++ (flat_map h ps ++ (map i ds ++ (map j hs ++ rest)))))))
    ≡ e s ++ ((flat_map (λ k. flat_map e (f k)) ks ++ flat_map e lines)
    ++ ((flat_map (λ k. flat_map e (g k)) ts ++ flat_map (λ k. flat_map e (h k)) ps)
    ++ ((flat_map (λ k. e (i k)) ds ++ flat_map (λ k. e (j k)) hs) ++ flat_map e rest)))
sections e s f g h i j ks ts ps ds hs lines rest =
    let six : flat_map e (map j hs ++ rest) ≡ flat_map (λ k. e (j k)) hs ++ flat_map e rest =
    flat_map-append e (map j hs) rest ∙ joined _ _ _ _ (mapped e j hs) refl in
    let five : flat_map e (map i ds ++ (map j hs ++ rest))
    ≡ flat_map (λ k. e (i k)) ds ++ (flat_map (λ k. e (j k)) hs ++ flat_map e rest) =
    flat_map-append e (map i ds) (map j hs ++ rest) ∙ joined _ _ _ _ (mapped e i ds) six in
    let four : flat_map e (flat_map h ps ++ (map i ds ++ (map j hs ++ rest))) ≡ flat_map (λ k. flat_map e (h k)) ps
    ++ (flat_map (λ k. e (i k)) ds ++ (flat_map (λ k. e (j k)) hs ++ flat_map e rest)) =
    flat_map-append e (flat_map h ps) (map i ds ++ (map j hs ++ rest)) ∙ joined _ _ _ _ (twice e h ps) five in
    let three : flat_map e (flat_map g ts ++ (flat_map h ps ++ (map i ds ++ (map j hs ++ rest))))
    ≡ flat_map (λ k. flat_map e (g k)) ts ++ (flat_map (λ k. flat_map e (h k)) ps
    ++ (flat_map (λ k. e (i k)) ds ++ (flat_map (λ k. e (j k)) hs ++ flat_map e rest))) =
    flat_map-append e (flat_map g ts) (flat_map h ps ++ (map i ds ++ (map j hs ++ rest))) ∙ joined _ _ _ _ (twice e g ts) four in
    let two : flat_map e (lines ++ (flat_map g ts ++ (flat_map h ps ++ (map i ds ++ (map j hs ++ rest)))))
    ≡ flat_map e lines ++ (flat_map (λ k. flat_map e (g k)) ts ++ (flat_map (λ k. flat_map e (h k)) ps
    ++ (flat_map (λ k. e (i k)) ds ++ (flat_map (λ k. e (j k)) hs ++ flat_map e rest)))) =
    flat_map-append e lines (flat_map g ts ++ (flat_map h ps ++ (map i ds ++ (map j hs ++ rest)))) ∙ joined _ _ _ _ refl three in
    let one : flat_map e (flat_map f ks ++ (lines ++ (flat_map g ts ++ (flat_map h ps ++ (map i ds ++ (map j hs ++ rest))))))
    ≡ flat_map (λ k. flat_map e (f k)) ks ++ (flat_map e lines ++ (flat_map (λ k. flat_map e (g k)) ts
    ++ (flat_map (λ k. flat_map e (h k)) ps
    ++ (flat_map (λ k. e (i k)) ds ++ (flat_map (λ k. e (j k)) hs ++ flat_map e rest))))) =
    flat_map-append e (flat_map f ks) (lines ++ (flat_map g ts ++ (flat_map h ps ++ (map i ds ++ (map j hs ++ rest)))))
    ∙ joined _ _ _ _ (twice e f ks) two in
    ap (λ v. e s ++ v) (one ∙ simp append_assoc)

-- the text of the elements is that of the style, of the axes, and of the curves
pub elements_text : (f : Frame) (bottom n : ℕ) (holds : Bool) (levels : List Level)
    → flat_map element_text (elements_of f bottom n holds levels)
    ≡ element_text (style_of rules) ++ (keys_text f n holds ++ (axes_text f bottom levels ++ curves_text f n holds levels))
unfolding keys_text axes_text curves_text stacks_text
elements_text f bottom n holds levels =
    sections element_text (style_of rules) key_of (time_tick f bottom) (power_tick f (top_of levels)) (area_of f (top_of levels) levels)
    (outline_of f (top_of levels) levels) (ports_up n) time_ticks power_ticks (ports_down n) (held_ports n holds)
    (names_of f n holds)
    (budget_of f (top_of levels) levels ∷ least_elements f (top_of levels) levels)
