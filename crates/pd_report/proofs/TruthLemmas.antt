-- What the entries tell of contracts is what the ports' contracts are.
use Rattle.std.proofs.Common.{◌≡◌, ◌≢◌, ℕ, zero, suc, ◌+◌, ◌-◌, ◌<◌, ◌≤◌, Bool, true, false, cond, leb, ltb, ⊎_elim, inl, inr, List, []}
use Rattle.std.proofs.Common.{◌∷◌, ◌++◌, map, sum, Option, Some, None, refl, sym, ap, subst, ◌∙◌, arith, append_assoc}
use Rattle.std.specs.Prelude.{filter, codes, decimal}
use Rattle.std.specs.List.{AllByRecursion, range_with_len}
use Rattle.std.proofs.lemmas.Bool.{cases_eq, cases_lt, le-leb, lt-leb, lt-ltb, le-ltb, leb-true, ltb-true, ne_eqb}
use Rattle.std.proofs.lemmas.List.{append-nil, map-append}
use Rattle.std.proofs.lemmas.List.Elements.{filter_passes}
use Rattle.std.proofs.lemmas.List.Sums.{sum_by-cons}
use Rattle.pd_port.specs.declared.entry.ContractChange.{ContractChange}
use Rattle.pd_port.specs.declared.entry.ContractChange.TheVariants.{Made, Lost}
use Rattle.pd_port.specs.declared.entry.Entry.{Entry}
use Rattle.pd_port.specs.Budget.{contract_power}
use Rattle.pd_port.specs.Changes.{power_after}
use Rattle.pd_port.specs.Port.{PortRecord, entry_of}
use Rattle.pd_port.proofs.Contracts.{contracts_are_told}
use Rattle.pd_scenario.specs.Plan.{Plan, IsPlan, count, settings_of, force}
use Rattle.pd_run.specs.Laws.{EndsBetween, IsWithin}
use Rattle.pd_run.specs.Order.{EachAfter}
use Rattle.pd_run.specs.Run.{Move, Run, Standing, GoesOn, IsInOrder, standing, standing_from, at_start, moved, after, shown}
use Rattle.pd_run.proofs.Moves.{standing-same, standing-other, in_order-member}
use Rattle.pd_device.specs.Text.{right}
use Rattle.pd_report.specs.Margins.{change_on, power_on, up_to, most_ports, contracts_at, has_line, instant_text, margin_text}
use Rattle.pd_report.specs.Truth.{moves_up_to, recorded_contracts, recorded_power, TellsTrue, MarginsAreTrue}
use Rattle.pd_report.proofs.MarginLemmas.{Moves, at-due, power_then, change-then, change_here, change_other}

-- ---- what is told on a port

-- after these moves the last change told of on each port has left the power of its contract
abbrev Told : Plan → List Move → Type 0
Told plan past = (p : ℕ) → power_on (map shown past) (p + 1) ≡ contract_power (standing plan past p).state

-- the two ways of saying what a change leaves are one
one_way : (o : Option ContractChange) (before : ℕ) → power_then o before ≡ power_after o before
unfolding power_then
one_way None before = refl
one_way (Some (Made c)) before = refl
one_way (Some Lost) before = refl

told_start : (plan : Plan) → Told plan []
unfolding power_on
told_start plan p = sym (contracts_are_told.at_start (settings_of plan p))

entry_told : (plan : Plan) (past : List Move) (m : Move) → GoesOn plan past m →
    power_then m.entry.contract (contract_power (standing plan past m.port).state) ≡ contract_power (after plan m)
entry_told plan past m goes =
    let s = settings_of plan m.port in
    let e : m.entry.contract ≡ (entry_of s m.before m.due m.answer).contract = ap (λ (x : Entry). x.contract) goes.entry_is in
    one_way m.entry.contract (contract_power (standing plan past m.port).state)
    ∙ ap (λ (r : PortRecord). power_after m.entry.contract (contract_power r)) (sym goes.before_is)
    ∙ ap (λ (o : Option ContractChange). power_after o (contract_power m.before)) e
    ∙ contracts_are_told.after_each s m.before m.due m.answer

none_told : (p : ℕ) (moves : Moves) (m : ℕ × Entry) → change_on p m ≡ None → power_on (moves ++ m ∷ []) p ≡ power_on moves p
unfolding power_then
none_told p moves m e = change-then p moves m None e

told_step : (plan : Plan) (past : List Move) (m : Move) → Told plan past → GoesOn plan past m → Told plan (past ++ m ∷ [])
told_step plan past m told goes p =
    let more : power_on (map shown (past ++ m ∷ [])) (p + 1) ≡ power_on (map shown past ++ shown m ∷ []) (p + 1) =
    ap (λ (l : Moves). power_on l (p + 1)) (map-append shown past (m ∷ [])) in
    ⊎_elim
    (λ (same : m.port ≡ p).
    let here : m.port + 1 ≡ p + 1 = omega arith in
    let before : power_on (map shown past) (p + 1) ≡ contract_power (standing plan past m.port).state =
    told p ∙ ap (λ k. contract_power (standing plan past k).state) (sym same) in
    more ∙ change-then (p + 1) (map shown past) (shown m) m.entry.contract (change_here (p + 1) (shown m) here)
    ∙ ap (power_then m.entry.contract) before
    ∙ entry_told plan past m goes
    ∙ ap (λ (s : Standing). contract_power s.state) (sym (standing-same plan past m m.port refl))
    ∙ ap (λ k. contract_power (standing plan (past ++ m ∷ []) k).state) same)
    (λ (other : m.port ≢ p).
    let there : m.port + 1 ≢ p + 1 = λ e. other (omega arith) in
    more ∙ none_told (p + 1) (map shown past) (shown m) (change_other (p + 1) (shown m) there)
    ∙ told p ∙ ap (λ (s : Standing). contract_power s.state) (sym (standing-other plan past m p other)))
    (cases_eq m.port p)

told_all : (plan : Plan) (past ms : List Move) → Told plan past → EachAfter (GoesOn plan) past ms → Told plan (past ++ ms)
told_all plan past [] told goes = subst (Told plan) (sym (append-nil past)) told
told_all plan past (m ∷ ms) told goes =
    subst (Told plan) (append_assoc past (m ∷ []) ms) (told_all plan (past ++ m ∷ []) ms (told_step plan past m told goes.0) goes.1)

-- ---- the moves up to a time come first

abbrev moves_after : ℕ → List Move → List Move
moves_after t moves = filter (λ m. ltb t m.due.time) moves

shifted : {X : Type 0} (P : List X → X → Type 0) (a b : List X) (x : X) (rest : List X) → EachAfter P ((a ++ b) ++ x ∷ []) rest →
    EachAfter P (a ++ (b ++ x ∷ [])) rest
shifted {X} P a b x rest h = subst (λ (l : List X). EachAfter P l rest) (append_assoc a b (x ∷ [])) h

-- none of the moves that follow one is earlier
follow : (past more : List Move) (x : Move) (ms : List Move) → EachAfter IsInOrder ((past ++ x ∷ []) ++ more) ms →
    AllByRecursion (λ m. x.due.time ≤ m.due.time) ms
follow past more x [] ordered = tt
follow past more x (m ∷ ms) ordered =
    let later = in_order-member past more x m ordered.0 in
    (later.by_time, follow past (more ++ m ∷ []) x ms (shifted IsInOrder (past ++ x ∷ []) more m ms ordered.1))

none_up_to : (t u : ℕ) (ms : List Move) → t < u → AllByRecursion (λ m. u ≤ m.due.time) ms → moves_up_to t ms ≡ []
none_up_to t u [] lt h = refl
none_up_to t u (m ∷ ms) lt h =
    let k = h.0 in
    ap (λ b. cond b (m ∷ moves_up_to t ms) (moves_up_to t ms)) (lt-leb m.due.time t (omega arith)) ∙ none_up_to t u ms lt h.1

all_after : (t u : ℕ) (ms : List Move) → t < u → AllByRecursion (λ m. u ≤ m.due.time) ms → moves_after t ms ≡ ms
all_after t u [] lt h = refl
all_after t u (m ∷ ms) lt h =
    let k = h.0 in
    ap (λ b. cond b (m ∷ moves_after t ms) (moves_after t ms)) (lt-ltb t m.due.time (omega arith))
    ∙ ap (λ v. m ∷ v) (all_after t u ms lt h.1)

parted : (t : ℕ) (past ms : List Move) → EachAfter IsInOrder past ms → ms ≡ moves_up_to t ms ++ moves_after t ms
parted t past [] ordered = refl
parted t past (m ∷ ms) ordered =
    elim (cases_lt t m.due.time) [
      | inl late ↦
          let low : AllByRecursion (λ x. m.due.time ≤ x.due.time) ms =
          follow past [] m ms (subst (λ (l : List Move). EachAfter IsInOrder l ms) (sym (append-nil (past ++ m ∷ []))) ordered.1) in
          let all : AllByRecursion (λ x. m.due.time ≤ x.due.time) (m ∷ ms) = (omega arith, low) in
          sym (ap (λ v. v ++ moves_after t (m ∷ ms)) (none_up_to t m.due.time (m ∷ ms) late all) ∙ all_after t m.due.time (m ∷ ms) late all)
      | inr soon ↦
          let first : moves_up_to t (m ∷ ms) ≡ m ∷ moves_up_to t ms =
          ap (λ b. cond b (m ∷ moves_up_to t ms) (moves_up_to t ms)) (le-leb m.due.time t soon) in
          let second : moves_after t (m ∷ ms) ≡ moves_after t ms =
          ap (λ b. cond b (m ∷ moves_after t ms) (moves_after t ms)) (le-ltb t m.due.time soon) in
          ap (λ v. m ∷ v) (parted t (past ++ m ∷ []) ms ordered.1)
          ∙ sym (ap (λ v. v ++ moves_after t (m ∷ ms)) first ∙ ap (λ v. m ∷ (moves_up_to t ms ++ v)) second)
    ]

ends_there : (t : ℕ) (ms : List Move) → EndsBetween t (moves_up_to t ms) (moves_after t ms)
ends_there t ms = record {
  up_to = λ k d lt. leb-true _ _ (filter_passes (λ (m : Move). leb m.due.time t) ms k d lt);
  later = λ k d lt. ltb-true _ _ (filter_passes (λ (m : Move). ltb t m.due.time) ms k d lt);
}

some_first : (plan : Plan) (past done rest : List Move) → EachAfter (GoesOn plan) past (done ++ rest) → EachAfter (GoesOn plan) past done
some_first plan past [] rest goes = tt
some_first plan past (m ∷ ms) rest goes = (goes.0, some_first plan (past ++ m ∷ []) ms rest goes.1)

-- what is shown of them are the entries up to the time
shown_up_to : (plan : Plan) (t : ℕ) (past ms : List Move) → EachAfter (GoesOn plan) past ms →
    up_to t (map shown ms) ≡ map shown (moves_up_to t ms)
shown_up_to plan t past [] goes = refl
shown_up_to plan t past (m ∷ ms) goes =
    let time : leb m.entry.at t ≡ leb m.due.time t = ap (λ k. leb k t) (at-due plan past m goes.0) in
    let rest = shown_up_to plan t (past ++ m ∷ []) ms goes.1 in
    ap (λ b. cond b (shown m ∷ up_to t (map shown ms)) (up_to t (map shown ms))) time
    ∙ ap (λ (l : Moves). cond (leb m.due.time t) (shown m ∷ l) l) rest
    ∙ either (leb m.due.time t) m (moves_up_to t ms)
  where
    either : (b : Bool) (m : Move) (l : List Move) → cond b (shown m ∷ map shown l) (map shown l) ≡ map shown (cond b (m ∷ l) l)
    either true m l = refl
    either false m l = refl

-- ---- the sum

-- a port that isn't there has no move
absent : (plan : Plan) (past ms : List Move) (s : Standing) (p : ℕ) → count plan ≤ p → EachAfter (GoesOn plan) past ms →
    standing_from plan s ms p ≡ s
absent plan past [] s p high goes = refl
absent plan past (m ∷ ms) s p high goes =
    let known = goes.0.known in
    ap (λ b. standing_from plan (cond b (moved plan s m) s) ms p) (ne_eqb m.port p (λ e. omega arith))
    ∙ absent plan (past ++ m ∷ []) ms s p high goes.1

sum-cons : (x : ℕ) (xs : List ℕ) → sum (x ∷ xs) ≡ x + sum xs
sum-cons x xs = sum_by-cons (λ n. n) x xs

sum_none : (f : ℕ → ℕ) (a n : ℕ) → ((k : ℕ) → a ≤ k → f k ≡ 0) → sum (map f (range_with_len a n)) ≡ 0
sum_none f a zero none = refl
sum_none f a (suc n) none =
    let rest = sum_none f (a + 1) n (λ k le. none k (omega arith)) in
    omega (arith, sum-cons (f a) (map f (range_with_len (a + 1) n)), none a (omega arith))

-- a sum over more places, one place higher, of which the last are nothing
sum_more : (f g : ℕ → ℕ) (a c n : ℕ) → c ≤ n → ((k : ℕ) → f (k + 1) ≡ g k) → ((k : ℕ) → a + c ≤ k → g k ≡ 0) →
    sum (map f (range_with_len (a + 1) n)) ≡ sum (map g (range_with_len a c))
sum_more f g a zero n le same none =
    sum_none f (a + 1) n (λ k high.
    let up : k ≡ (k - 1) + 1 = omega arith in
    ap f up ∙ same (k - 1) ∙ none (k - 1) (omega arith))
sum_more f g a (suc c) zero le same none = absurd (omega arith)
sum_more f g a (suc c) (suc n) le same none =
    let rest = sum_more f g (a + 1) c n (omega arith) same (λ k high. none k (omega arith)) in
    omega (arith, sum-cons (f (a + 1)) (map f (range_with_len ((a + 1) + 1) n)), sum-cons (g a) (map g (range_with_len (a + 1) c)), same a)

-- ---- the margins

module _ (n : ℕ) (plan : Plan) (moves : List Move) (t : ℕ) (is : IsPlan n plan) (run : Run plan moves) where
  goes_on : EachAfter (GoesOn plan) [] (moves_up_to t moves)
  goes_on =
      some_first plan [] (moves_up_to t moves) (moves_after t moves)
      (subst (EachAfter (GoesOn plan) []) (parted t [] moves run.ordered) run.chained)

  on_port : (p : ℕ) → power_on (up_to t (map shown moves)) (p + 1) ≡ recorded_power plan moves t p
  on_port p =
      ap (λ (l : Moves). power_on l (p + 1)) (shown_up_to plan t [] moves run.chained)
      ∙ told_all plan [] (moves_up_to t moves) (told_start plan) goes_on p

  none_there : (p : ℕ) → count plan ≤ p → recorded_power plan moves t p ≡ 0
  none_there p high =
      ap (λ (s : Standing). contract_power s.state) (absent plan [] (moves_up_to t moves) (at_start plan p) p high goes_on)
      ∙ contracts_are_told.at_start (settings_of plan p)

  in_all : contracts_at (map shown moves) t ≡ recorded_contracts plan moves t
  unfolding contracts_at
  in_all =
      let few : count plan ≤ most_ports = omega (arith, is.settings_count, is.few_ports) in
      sum_more (power_on (up_to t (map shown moves))) (recorded_power plan moves t) 0 (count plan) most_ports few on_port
      (λ k high. none_there k (omega arith))

-- the line shows the sum, and what it leaves of the budget
line_is : (plan : Plan) (entries : Moves) (t sums : ℕ) → contracts_at entries t ≡ sums → has_line plan entries t ≡ true →
    instant_text plan entries t ≡ right t ++ codes " contracts " ++ decimal sums ++ codes " margin " ++ decimal (force plan t - sums)
    ++ codes "\n"
unfolding instant_text margin_text
line_is plan entries t sums same there =
    ap (λ b. cond b (margin_text t (contracts_at entries t) (force plan t)) []) there ∙ ap (λ k. margin_text t k (force plan t)) same

true_at : (n : ℕ) (plan : Plan) (moves : List Move) (t : ℕ) → IsPlan n plan → Run plan moves → IsWithin plan moves → t ≤ plan.end →
    TellsTrue plan moves (map shown moves) t
true_at n plan moves t is run within soon =
    let sums = in_all n plan moves t is run in
    let fits : recorded_contracts plan moves t ≤ force plan t =
    within.contracts_at_ends (moves_up_to t moves) (moves_after t moves) t (parted t [] moves run.ordered) (ends_there t moves) soon in
    record {
      on_ports = λ p lt. on_port n plan moves t is run p;
      in_all = sums;
      within = omega (arith, sums, fits);
      left = force plan t - recorded_contracts plan moves t;
      adds = omega (arith, fits);
      line = line_is plan (map shown moves) t (recorded_contracts plan moves t) sums;
    }

pub margins_true : MarginsAreTrue
margins_true n plan entries is shows t soon =
    subst (λ (l : Moves). TellsTrue plan shows.moves l t) (sym shows.entries_are)
    (true_at n plan shows.moves t is shows.safe.run shows.safe.within soon)
