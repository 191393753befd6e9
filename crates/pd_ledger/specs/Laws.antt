-- What holds of offers and answers.
use Rattle.std.specs.Prelude.{◌≡◌, ℕ, ◌*◌, ◌%◌, ◌<◌, ◌≤◌, length, sum, slice_index, slice_set, Option, option_map}
use Rattle.pd_objects.specs.Supply.{SupplyData, IsSupply}
use Rattle.pd_objects.specs.Answers.{IsAllowed}
use Rattle.pd_objects.specs.declared.query.Query.{Query}
use Rattle.pd_ledger.specs.Account.{Account, free_of}
use Rattle.pd_ledger.specs.Offer.{offered, answer_of}

-- what is answered is allowed by the power that is free
abbrev pub AnswersAreAllowed : Type 0
AnswersAreAllowed =
    (a : Account) (p : ℕ) (query : Option Query) → IsAllowed (free_of a p) query (option_map (answer_of a p) query)

-- The current is a multiple of 10 mA within the supply's, the cable's limit and the free power, and none of these is
-- greater.
pub record IsOffered (free limit_ma : ℕ) (s : SupplyData) (ma : ℕ) : Type 0 where
  pub steps : ma % 10 ≡ 0
  pub in_supply : ma ≤ s.ma
  pub in_cable : ma ≤ limit_ma
  pub in_free : s.mv * ma ≤ free
  pub greatest : (more : ℕ) → more % 10 ≡ 0 → more ≤ s.ma → more ≤ limit_ma → s.mv * more ≤ free → more ≤ ma

-- an offered current is the greatest that is allowed
abbrev pub OffersAreGreatest : Type 0
OffersAreGreatest = (free limit_ma : ℕ) (s : SupplyData) → IsSupply s → IsOffered free limit_ma s (offered free limit_ma s)

-- half a watt is enough to offer some current
abbrev pub OffersAreSome : Type 0
OffersAreSome = (free limit_ma : ℕ) (s : SupplyData) → IsSupply s → 500000 ≤ free → 10 ≤ limit_ma → 10 ≤ offered free limit_ma s

-- where a port comes to hold more than its floor and no more than is free to it, the holds add to at most the budget
abbrev pub FreeHoldsFit : Type 0
FreeHoldsFit =
    (a : Account) (p hold : ℕ) → p < length a.holds → slice_index a.floors p < hold → hold ≤ free_of a p →
    sum (slice_set a.holds p hold) ≤ a.budget
