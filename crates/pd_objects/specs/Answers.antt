-- What a port asks of the shared budget, and what it may be answered.
use Rattle.std.specs.Prelude.{◌≡◌, ℕ, Bool, ◌*◌, ◌≤◌, nat_le, List, [], ◌∷◌, Option, Some, None}
use Rattle.pd_objects.specs.Supply.{SupplyData}
use Rattle.pd_objects.specs.declared.query.Query.{Query}
use Rattle.pd_objects.specs.declared.query.Query.TheVariants as query
use Rattle.pd_objects.specs.declared.query.Answer.{Answer}
use Rattle.pd_objects.specs.declared.query.Answer.TheVariants as answer

-- a current for each supply, none of more power, in microwatts, than this
abbrev pub AreWithin : ℕ → List SupplyData → List ℕ → Type 0
AreWithin power [] [] = Unit {0}
AreWithin power (s ∷ supplies) (ma ∷ currents) = (s.mv * ma ≤ power) × AreWithin power supplies currents
AreWithin power _ _ = ⊥

-- The answers that so much free power allows: to no query none, to an offer a current for each supply within it, to a
-- power whether it is within it. Whether a hold may stay isn't told by the free power.
abbrev pub IsAllowed : ℕ → Option Query → Option Answer → Type 0
IsAllowed free None x = x ≡ None
IsAllowed free (Some (query.Offer supplies limit_ma)) x =
    (currents : List ℕ) × AreWithin free supplies.items currents × (x ≡ Some (answer.Offer (record { items = currents })))
IsAllowed free (Some (query.Fits power)) x = x ≡ Some (answer.Fits (nat_le power free))
IsAllowed free (Some (query.Keep power)) x = (stays : Bool) × (x ≡ Some (answer.Fits stays))
