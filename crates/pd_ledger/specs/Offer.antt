-- What a port is answered that asks for a share of the budget: this product's own rule, as docs/TABLES.md has it.
use Rattle.std.specs.Prelude.{ℕ, ◌*◌, ◌/◌, min, map, nat_le}
use Rattle.pd_objects.specs.Supply.{SupplyData}
use Rattle.pd_objects.specs.declared.query.Query.{Query}
use Rattle.pd_objects.specs.declared.query.Query.TheVariants as query
use Rattle.pd_objects.specs.declared.query.Answer.{Answer}
use Rattle.pd_objects.specs.declared.query.Answer.TheVariants as answer
use Rattle.pd_ledger.specs.Account.{Account, free_of, total_with}

-- The current in mA that a supply is offered at: the least of its own, the cable's limit and the current that so much free
-- power, in microwatts, gives at its voltage in mV, rounded down to 10 mA.
unfoldable pub offered : ℕ → ℕ → SupplyData → ℕ
offered free limit_ma s = min (min s.ma limit_ma) (free / s.mv) / 10 * 10

-- The answer to a port, the ports being numbered from 0 here: the current of each supply by the power that is free to it,
-- whether a power is within that, or whether its hold, the lower ports' holds and the higher ports' floors fit the budget.
abbrev pub answer_of : Account → ℕ → Query → Answer
answer_of a p (query.Offer supplies limit_ma) = answer.Offer (record { items = map (offered (free_of a p) limit_ma) supplies.items })
answer_of a p (query.Fits power) = answer.Fits (nat_le power (free_of a p))
answer_of a p (query.Keep power) = answer.Fits (nat_le (total_with a p power) a.budget)
