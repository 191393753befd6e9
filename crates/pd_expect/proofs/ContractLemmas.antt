-- Going along the entries up to a time: the last change of a port's contract is what counts.
use Rattle.std.proofs.Common.{◌≡◌, ℕ, Bool, true, false, cond, [], ◌∷◌, Option, None, ap, sym, ◌∙◌, refl}
use Rattle.std.specs.Prelude.{◌==◌, ◌&&◌, fold, nat_le}
use Rattle.std.specs.List.{cons_option, filter_map, last_or}
use Rattle.pd_objects.specs.declared.contract.Contract.{Contract}
use Rattle.pd_port.specs.declared.entry.ContractChange.{ContractChange}
use Rattle.pd_port.specs.declared.entry.Entry.{Entry}
use Rattle.pd_report.specs.Margins.{change_on, up_to}
use Rattle.pd_sweep.specs.Summaries.{left_by}
use Rattle.pd_sweep.proofs.WalkLemmas.{left_then}
use Rattle.pd_expect.specs.Along.{stands_after}
use Rattle.pd_expect.specs.OverTime.{Moves, contract_at}

module _ (port at : ℕ) where
  abbrev last : Moves → Option ContractChange
  last moves = last_or None (filter_map (change_on port) moves)

  entry_then : (b a : Bool) (o : Option ContractChange) (x : Option Contract) (m : ℕ × Entry) (moves : Moves) →
      change_on port m ≡ cond b o None →
      left_by (cond (b && a) (left_by x o) x) (last moves) ≡ left_by x (last (cond a (m ∷ moves) moves))
  entry_then true true o x m moves e =
      left_then x o (filter_map (change_on port) moves)
      ∙ ap (λ c. left_by x (last_or None (cons_option c (filter_map (change_on port) moves)))) (sym e)
  entry_then false true o x m moves e =
      ap (λ c. left_by x (last_or None (cons_option c (filter_map (change_on port) moves)))) (sym e)
  entry_then true false o x m moves e = refl
  entry_then false false o x m moves e = refl

  stands_walked : (x : Option Contract) (moves : Moves) → fold (stands_after port at) x moves ≡ left_by x (last (up_to at moves))
  stands_walked x [] = refl
  stands_walked x (m ∷ moves) =
      stands_walked (stands_after port at x m) moves
      ∙ entry_then (m.0 == port) (nat_le m.1.at at) m.1.contract x m (up_to at moves) refl

  pub contract_walked : (moves : Moves) → fold (stands_after port at) None moves ≡ contract_at port at moves
  contract_walked moves = stands_walked None moves
