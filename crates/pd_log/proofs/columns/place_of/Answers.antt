use Rattle.std.proofs.Common.{ap, sym, ◌∙◌, ◌≡◌, arith, true, false}
use Rattle.std.specs.Prelude.{option_map}
use Rattle.pd_log.specs.Columns.{is_named}
use Rattle.pd_log.proofs.CellByCell.{found, passed_over, smaller}
use Rattle.pd_log.proofs.columns.place_of.Goals as goal

pub loop-behind-preserved : goal.loop-behind-preserved
loop-behind-preserved c =
    let is = ap (option_map (λ rest. rest.now)) c.in-Some.is in
    let fails : is_named c.args.column c.first_cell.result.0.now ≡ false = sym c.in_ok-is_found.ensures ∙ c.if-is_found.false in
    let less = smaller _ (option_map (λ rest. rest.now) c.first_cell.result.1) c.in-Some.rest.now is c.first_cell.ensures.shorter in (
      passed_over (is_named c.args.column) c.args.separator c.loop-behind.place c.first_cell.result.0.now c.in-Some.rest.now _ _ is
          c.first_cell.ensures.parted fails
          ∙ c.loop-behind.invariant.0,
      omega (arith, less, c.loop-behind.invariant.1),
    )

pub returns-then-is_found : goal.returns-then-is_found
returns-then-is_found c =
    let is = ap (option_map (λ rest. rest.now)) c.in-Some.is in
    let passes : is_named c.args.column c.first_cell.result.0.now ≡ true = sym c.in_ok-is_found.ensures ∙ c.if-is_found.true in
    found (is_named c.args.column) c.args.separator c.loop-behind.place c.first_cell.result.0.now c.in-Some.rest.now _ _ is
    c.first_cell.ensures.parted passes
    ∙ c.loop-behind.invariant.0
