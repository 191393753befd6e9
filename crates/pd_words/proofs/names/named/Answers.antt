use Rattle.std.proofs.Common.{◌≡◌, ◌+◌, ◌-◌, ◌<◌, ℕ, zero, suc, List, Option, None, Some, true, false, is_some}
use Rattle.std.proofs.Common.{arith, refl, rules, subst, sym}
use Rattle.pd_header.specs.declared.kind.Kind.{Kind}
use Rattle.pd_words.specs.Names.{named, named_below, named_of_type}
use Rattle.pd_words.proofs.names.named.Goals as goal

stays : (name : List ℕ) (n : ℕ) (k : Kind) → named_below (suc n) name ≡ Some k → (d m : ℕ) → m ≡ d + suc n → named_below m name ≡ Some k
unfolding named_below
stays name n k here zero m is =
    let here_too : suc n ≡ m = omega (arith, is) in
    subst (λ m. named_below m name ≡ Some k) here_too here
stays name n k here (suc d) zero is = absurd (omega (arith, is))
stays name n k here (suc d) (suc m) is =
    let before : m ≡ d + suc n = omega (arith, is) in
    rw (stays name n k here d m before) refl

found : (name : List ℕ) (n : ℕ) (o : Option Kind) → n < 32 → named_below n name ≡ None → o ≡ named_of_type name n → is_some o ≡ true
    → o ≡ named name
unfolding named_below
found name n None below none is some = cc
found name n (Some k) below none is some =
    let last : 32 ≡ (31 - n) + suc n = omega arith in
    sym (stays name n k (rw (none, ← is) refl) (31 - n) 32 last)

not_yet : (name : List ℕ) (n : ℕ) (o : Option Kind) → named_below n name ≡ None → o ≡ named_of_type name n → is_some o ≡ false
    → named_below (n + 1) name ≡ None
unfolding named_below
not_yet name n None none is some =
    let here : named_below (suc n) name ≡ None = rw (none, ← is) refl in
    let next : suc n ≡ n + 1 = omega arith in
    subst (λ m. named_below m name ≡ None) next here
not_yet name n (Some k) none is some = cc

pub loop-number-init : goal.loop-number-init
unfolding named_below
loop-number-init c = refl

pub returns-then-is_some : goal.returns-then-is_some
returns-then-is_some c = found c.args.name.now c.loop-number.number c.named_of_type-kind.result (omega arith) c.loop-number.invariant
    c.named_of_type-kind.ensures (search rules)

pub loop-number-preserved : goal.loop-number-preserved
loop-number-preserved c =
    not_yet c.args.name.now c.loop-number.number c.named_of_type-kind.result c.loop-number.invariant c.named_of_type-kind.ensures
    (search rules)
