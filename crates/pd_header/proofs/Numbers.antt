-- Kinds of messages and their numbers, both ways; and the type is the low five bits of a header.
use Rattle.std.proofs.Common.{◌≡◌, ◌==◌, ℕ, ◌%◌, ◌^◌, cond, Bool, true, false, find, List, [], ◌∷◌, Option, Some, refl, sym, ap, ◌∙◌, arith}
use Rattle.std.specs.Prelude.{unwrap_or, if◌then◌else◌}
use Rattle.std.specs.List.{AllByRecursion}
use Rattle.std.proofs.lemmas.Bool.{eqb-true}
use Rattle.pd_header.specs.declared.kind.Kind.{Kind}
use Rattle.pd_header.specs.declared.kind.Kind.TheVariants.{VendorDefined, Other}
use Rattle.pd_header.specs.Header.{HeaderData, count_of, type_of, packed}
use Rattle.pd_header.specs.Kinds.{control_messages, data_messages, number_of, kinds_for, kind_of, kind_of_header}
use Rattle.pd_header.specs.Laws.{KindsComeBack, NumbersComeBack}

by_test : (n : ℕ) (k : Kind) (b : Bool) (o : Option Kind) → (number_of k == n) ≡ b → number_of (unwrap_or o (Other n)) ≡ n
    → number_of (unwrap_or (cond b (Some k) o) (Other n)) ≡ n
by_test n k true o same rest = eqb-true (number_of k) n same
by_test n k false o same rest = rest

found_has_number : (n : ℕ) (kinds : List Kind) → number_of (unwrap_or (find (λ k. number_of k == n) kinds) (Other n)) ≡ n
found_has_number n [] = refl
found_has_number n (k ∷ kinds) =
    by_test n k (number_of k == n) (find (λ j. number_of j == n) kinds) refl (found_has_number n kinds)

-- by whether there are objects
tell_themselves : (none : Bool) → let kinds = if none then control_messages else data_messages in
    AllByRecursion (λ kind. unwrap_or (find (λ k. number_of k == number_of kind) kinds) (Other (number_of kind)) ≡ kind) kinds
tell_themselves true = (refl, (refl, (refl, (refl, (refl, (refl, (refl, (refl, (refl, tt)))))))))
tell_themselves false = (refl, (refl, (refl, (refl, tt))))

pub kinds_come_back : KindsComeBack
unfolding kind_of
kinds_come_back count = tell_themselves (count == 0)

pub numbers_come_back : NumbersComeBack
unfolding kind_of
numbers_come_back n count = found_has_number n (kinds_for count)

pub vendor_is_15 : (header : ℕ) → kind_of_header header ≡ VendorDefined → type_of header ≡ number_of VendorDefined
vendor_is_15 header e = sym (numbers_come_back (type_of header) (count_of header)) ∙ ap number_of e

-- the type that a header has
pub type_packed : (h : HeaderData) → type_of (packed h) ≡ h.kind % 2 ^ 5
unfolding packed
type_packed h = omega arith
