use Rattle.std.proofs.Common.{◌≡◌, ◌∙◌, ◌+◌, ◌∷◌, ◌++◌, [], List, ℕ, ap, sym, map, arith}
use Rattle.std.specs.List.{range_with_len}
use Rattle.std.proofs.lemmas.List.{map-append}
use Rattle.std.proofs.lemmas.List.FromFn.{map-range_with_len_more}
use Rattle.pd_vary.specs.Sets.{set_data, value_at}
use Rattle.pd_vary.proofs.set.EditSet.texts.Goals as goal

pub loop-place-preserved : goal.loop-place-preserved
loop-place-preserved c =
    let f : ℕ → List ℕ = value_at (set_data c.args.self.now).values in
    let place = c.loop-place.place in
    let here : 0 + place ≡ place = omega arith in
    ap (map (λ t. t.items)) c.in_ok-push.ensures.items
    ∙ map-append (λ t. t.items) c.loop-place.texts.items (c.in_ok-text.text ∷ [])
    ∙ ap (λ (l : List (List ℕ)). l ++ c.in_ok-text.text.items ∷ []) c.loop-place.invariant
    ∙ ap (λ (t : List ℕ). map f (range_with_len 0 place) ++ t ∷ []) c.in_ok-text.ensures
    ∙ sym (map-range_with_len_more f 0 place place here)
