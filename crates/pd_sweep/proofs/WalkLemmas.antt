-- What is found of a run by going along its entries is what its definition says.
use Rattle.std.proofs.Common.{◌≡◌, ◌≢◌, ℕ, ◌+◌, ◌-◌, ◌<◌, Bool, true, false, cond, List, [], ◌∷◌, ◌++◌, length, map, get_or, set}
use Rattle.std.proofs.Common.{Option, Some, None, ap, sym, ◌∙◌, refl, arith, add-zero, zero-add, ⊎_elim}
use Rattle.std.specs.Prelude.{◌==◌, ◌&&◌, ◌||◌, filter, fold, count_by, is_some}
use Rattle.std.specs.List.{cons_option, filter_map, last_or, list_any, range_with_len}
use Rattle.std.specs.Option.{option_map_or}
use Rattle.std.proofs.lemmas.Bool.{cases_eq, eq-eqb, ne_eqb}
use Rattle.std.proofs.lemmas.List.{get_or-replicate, get_or-set_other, get_or-set_same, length-append, length-replicate, length-set}
use Rattle.std.proofs.lemmas.List.{same_lists}
use Rattle.std.proofs.lemmas.List.Elements.{filter-append}
use Rattle.std.proofs.lemmas.List.FromFn.{get_or-map-range_with_len, length-map-range_with_len}
use Rattle.std.proofs.lemmas.List.Sums.{length-filter}
use Rattle.pd_objects.specs.declared.contract.Contract.{Contract}
use Rattle.pd_line.specs.declared.notes.Fault.{Fault}
use Rattle.pd_port.specs.declared.entry.ContractChange.{ContractChange}
use Rattle.pd_report.proofs.MarginLemmas.{Moves}
use Rattle.pd_sweep.specs.Along.{changed, makers_after, mishaps_after, no_mishap, nobody, nothing_stands, stands_after}
use Rattle.pd_sweep.specs.Summaries.{change_of, changed_at, contract_left, faults_of, is_hard_reset, last_change, left_by, makers_at}
use Rattle.pd_sweep.specs.Summaries.{makes, makes_on, mishaps_of, standing_of}
use Rattle.pd_sweep.specs.declared.makers.Makers.{Makers}
use Rattle.pd_sweep.specs.declared.summary.Mishaps.{Mishaps}
use Rattle.pd_sweep.specs.declared.summary.Standing.{Standing}
use Rattle.pd_sweep.proofs.QuietLemmas.{and_false}

-- ---- the last of some

some_last : (x y : Option Contract) (c : ContractChange) (cs : List ContractChange) →
    left_by x (last_or (Some c) cs) ≡ left_by y (last_or (Some c) cs)
some_last x y c [] = refl
some_last x y c (d ∷ cs) = some_last x y d cs

-- what a change leaves, and then the last of others
pub left_then : (x : Option Contract) (o : Option ContractChange) (cs : List ContractChange) →
    left_by (left_by x o) (last_or None cs) ≡ left_by x (last_or None (cons_option o cs))
left_then x None cs = refl
left_then x (Some c) [] = refl
left_then x (Some c) (d ∷ cs) = some_last (contract_left c) x d cs

abbrev time_or : Option ℕ → ℕ → ℕ
time_or o t = option_map_or (λ at. at) o t

some_time : (s t at : ℕ) (times : List ℕ) → time_or (last_or (Some at) times) s ≡ time_or (last_or (Some at) times) t
some_time s t at [] = refl
some_time s t at (u ∷ times) = some_time s t u times

time_then : (t : ℕ) (o : Option ℕ) (times : List ℕ) →
    time_or (last_or None times) (time_or o t) ≡ time_or (last_or None (cons_option o times)) t
time_then t None times = refl
time_then t (Some at) [] = refl
time_then t (Some at) (u ∷ times) = some_time at t u times

-- ---- contracts

contracts_count : (s : Standing) (port at : ℕ) (o : Option ContractChange) → length (changed s port at o).contracts ≡ length s.contracts
contracts_count s port at None = refl
contracts_count s port at (Some c) = length-set s.contracts (port - 1) (contract_left c)

same_none : (b : Bool) → cond {A = Option ContractChange} b None None ≡ None
same_none true = refl
same_none false = refl

contract_then : (s : Standing) (port at p : ℕ) (d : Option Contract) (o : Option ContractChange) → p < length s.contracts →
    get_or (changed s port at o).contracts p d ≡ left_by (get_or s.contracts p d) (cond (port - 1 == p) o None)
contract_then s port at p d None lt = ap (left_by (get_or s.contracts p d)) (sym (same_none (port - 1 == p)))
contract_then s port at p d (Some c) lt =
    let left : Option Contract = contract_left c in
    ⊎_elim
    (λ (same : port - 1 ≡ p).
    ap (λ i. get_or (set s.contracts i left) p d) same ∙ get_or-set_same s.contracts p left d lt
    ∙ sym (ap (λ b. left_by (get_or s.contracts p d) (cond b (Some c) None)) (eq-eqb (port - 1) p same)))
    (λ (other : port - 1 ≢ p).
    get_or-set_other s.contracts (port - 1) p left d (λ e. other (sym e))
    ∙ sym (ap (λ b. left_by (get_or s.contracts p d) (cond b (Some c) None)) (ne_eqb (port - 1) p other)))
    (cases_eq (port - 1) p)

stands_count : (s : Standing) (moves : Moves) → length (fold stands_after s moves).contracts ≡ length s.contracts
stands_count s [] = refl
stands_count s (m ∷ moves) = stands_count (stands_after s m) moves ∙ contracts_count s m.0 m.1.at m.1.contract

contract_walked : (s : Standing) (moves : Moves) (p : ℕ) (d : Option Contract) → p < length s.contracts →
    get_or (fold stands_after s moves).contracts p d ≡ left_by (get_or s.contracts p d) (last_change p moves)
contract_walked s [] p d lt = refl
contract_walked s (m ∷ moves) p d lt =
    let count = contracts_count s m.0 m.1.at m.1.contract in
    contract_walked (stands_after s m) moves p d (omega (arith, count))
    ∙ ap (λ x. left_by x (last_change p moves)) (contract_then s m.0 m.1.at p d m.1.contract lt)
    ∙ left_then (get_or s.contracts p d) (change_of p m) (filter_map (change_of p) moves)

settled_then : (s : Standing) (port at : ℕ) (o : Option ContractChange) →
    (changed s port at o).settled ≡ time_or (cond (is_some o) (Some at) None) s.settled
settled_then s port at None = refl
settled_then s port at (Some c) = refl

settled_walked : (s : Standing) (moves : Moves) →
    (fold stands_after s moves).settled ≡ time_or (last_or None (filter_map changed_at moves)) s.settled
settled_walked s [] = refl
settled_walked s (m ∷ moves) =
    settled_walked (stands_after s m) moves
    ∙ ap (λ t. time_or (last_or None (filter_map changed_at moves)) t) (settled_then s m.0 m.1.at m.1.contract)
    ∙ time_then s.settled (changed_at m) (filter_map changed_at moves)

pub standing_walked : (moves : Moves) → fold stands_after nothing_stands moves ≡ standing_of moves
unfolding standing_of
standing_walked moves =
    let none : Option Contract = None in
    let left : ℕ → Option Contract = λ p. left_by None (last_change p moves) in
    let walked : List (Option Contract) = (fold stands_after nothing_stands moves).contracts in
    let count : length walked ≡ 8 = stands_count nothing_stands moves ∙ length-replicate 8 none in
    let contracts : walked ≡ map left (range_with_len 0 8) =
    same_lists walked (map left (range_with_len 0 8)) (count ∙ sym (length-map-range_with_len left 0 8))
    (λ k d h.
    let few : k < 8 = omega (arith, count) in
    contract_walked nothing_stands moves k d few
    ∙ ap (λ x. left_by x (last_change k moves)) (get_or-replicate 8 k none d few)
    ∙ sym (get_or-map-range_with_len left 0 8 k k d few (omega arith))) in
    let settled = settled_walked nothing_stands moves in
    λ i. record { contracts = contracts i; settled = settled i }

-- ---- faults

count-append : (xs ys : List Fault) → count_by is_hard_reset (xs ++ ys) ≡ count_by is_hard_reset xs + count_by is_hard_reset ys
count-append xs ys =
    let whole = length-filter is_hard_reset (xs ++ ys) in
    let first = length-filter is_hard_reset xs in
    let second = length-filter is_hard_reset ys in
    let parted = ap length (filter-append is_hard_reset xs ys)
    ∙ length-append (filter is_hard_reset xs) (filter is_hard_reset ys) in
    omega (arith, whole, first, second, parted)

faults_walked : (m : Mishaps) (moves : Moves) → (fold mishaps_after m moves).faults ≡ m.faults + length (faults_of moves)
faults_walked m [] = sym (add-zero m.faults)
faults_walked m (e ∷ moves) =
    let rest = faults_walked (mishaps_after m e) moves in
    let more = length-append e.1.faults.items (faults_of moves) in
    omega (arith, rest, more)

resets_walked : (m : Mishaps) (moves : Moves) →
    (fold mishaps_after m moves).hard_resets ≡ m.hard_resets + count_by is_hard_reset (faults_of moves)
resets_walked m [] = sym (add-zero m.hard_resets)
resets_walked m (e ∷ moves) =
    let rest = resets_walked (mishaps_after m e) moves in
    let more = count-append e.1.faults.items (faults_of moves) in
    omega (arith, rest, more)

pub mishaps_walked : (moves : Moves) → fold mishaps_after no_mishap moves ≡ mishaps_of moves
unfolding mishaps_of
mishaps_walked moves =
    let all : List Fault = faults_of moves in
    let faults = faults_walked no_mishap moves ∙ zero-add (length all) in
    let resets = resets_walked no_mishap moves ∙ zero-add (count_by is_hard_reset all) in
    λ i. record { faults = faults i; hard_resets = resets i }

-- ---- whose contracts are made at an instant

module _ (at : ℕ) where
  or_assoc : (a b c : Bool) → ((a || b) || c) ≡ (a || (b || c))
  or_assoc true b c = refl
  or_assoc false b c = refl

  or_false : (a : Bool) → (a || false) ≡ a
  or_false true = refl
  or_false false = refl

  or_true : (a : Bool) → (a || true) ≡ true
  or_true true = refl
  or_true false = refl

  abbrev marked : Makers → ℕ → Bool → Makers
  marked m port b = cond b (record { ports = set m.ports (port - 1) true }) m

  marks_count : (m : Makers) (port : ℕ) (b : Bool) → length (marked m port b).ports ≡ length m.ports
  marks_count m port true = length-set m.ports (port - 1) true
  marks_count m port false = refl

  mark_then : (m : Makers) (port p : ℕ) (d b : Bool) → p < length m.ports →
      get_or (marked m port b).ports p d ≡ (get_or m.ports p d || (port - 1 == p && b))
  mark_then m port p d false lt =
      sym (ap (λ x. get_or m.ports p d || x) (and_false (port - 1 == p)) ∙ or_false (get_or m.ports p d))
  mark_then m port p d true lt =
      ⊎_elim
      (λ (same : port - 1 ≡ p).
      ap (λ i. get_or (set m.ports i true) p d) same ∙ get_or-set_same m.ports p true d lt
      ∙ sym (ap (λ x. get_or m.ports p d || (x && true)) (eq-eqb (port - 1) p same) ∙ or_true (get_or m.ports p d)))
      (λ (other : port - 1 ≢ p).
      get_or-set_other m.ports (port - 1) p true d (λ e. other (sym e))
      ∙ sym (ap (λ x. get_or m.ports p d || (x && true)) (ne_eqb (port - 1) p other) ∙ or_false (get_or m.ports p d)))
      (cases_eq (port - 1) p)

  makers_count : (m : Makers) (moves : Moves) → length (fold (makers_after at) m moves).ports ≡ length m.ports
  makers_count m [] = refl
  makers_count m (e ∷ moves) = makers_count (makers_after at m e) moves ∙ marks_count m e.0 (makes at e.1)

  maker_walked : (m : Makers) (moves : Moves) (p : ℕ) (d : Bool) → p < length m.ports →
      get_or (fold (makers_after at) m moves).ports p d ≡ (get_or m.ports p d || list_any (makes_on at p) moves)
  maker_walked m [] p d lt = sym (or_false (get_or m.ports p d))
  maker_walked m (e ∷ moves) p d lt =
      let count = marks_count m e.0 (makes at e.1) in
      maker_walked (makers_after at m e) moves p d (omega (arith, count))
      ∙ ap (λ x. x || list_any (makes_on at p) moves) (mark_then m e.0 p d (makes at e.1) lt)
      ∙ or_assoc (get_or m.ports p d) (makes_on at p e) (list_any (makes_on at p) moves)

  pub makers_walked : (moves : Moves) → fold (makers_after at) nobody moves ≡ makers_at at moves
  unfolding makers_at
  makers_walked moves =
      let made : ℕ → Bool = λ p. list_any (makes_on at p) moves in
      let walked : List Bool = (fold (makers_after at) nobody moves).ports in
      let count : length walked ≡ 8 = makers_count nobody moves ∙ length-replicate 8 false in
      let ports : walked ≡ map made (range_with_len 0 8) =
      same_lists walked (map made (range_with_len 0 8)) (count ∙ sym (length-map-range_with_len made 0 8))
      (λ k d h.
      let few : k < 8 = omega (arith, count) in
      maker_walked nobody moves k d few ∙ ap (λ x. x || made k) (get_or-replicate 8 k false d few)
      ∙ sym (get_or-map-range_with_len made 0 8 k k d few (omega arith))) in
      λ i. record { ports = ports i }
