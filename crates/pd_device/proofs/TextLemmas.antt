-- Facts on numbers as text.
use Rattle.std.proofs.Common.{◌≡◌, ℕ, ◌-◌, ◌≤◌, List, ◌++◌, take, replicate, length, arith, refl, ap, ◌∙◌, append_assoc}
use Rattle.std.specs.Prelude.{decimal}
use Rattle.std.proofs.lemmas.List.{take-replicate}
use Rattle.pd_device.specs.Text.{right}

pub right_pad : (old digits : List ℕ) (pad n : ℕ) → digits ≡ decimal n → pad ≡ 9 - length digits →
    (old ++ take pad (replicate {A = ℕ} 9 32)) ++ digits ≡ old ++ right n
right_pad old digits pad n d e =
    let few : pad ≤ 9 = omega arith in
    let spaces : take pad (replicate {A = ℕ} 9 32) ≡ replicate pad 32 = take-replicate pad 9 32 few in
    append_assoc old (take pad (replicate {A = ℕ} 9 32)) digits ∙ ap (λ v. old ++ (v ++ digits)) spaces ∙ rw (e, d) refl
