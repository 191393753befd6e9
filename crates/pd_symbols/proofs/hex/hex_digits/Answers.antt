use Rattle.std.proofs.Common.{◌≡◌, ℕ, ◌-◌, [], ◌∷◌, replicate, drop, sym, ap, ◌∙◌, arith}
use Rattle.std.proofs.lemmas.Grind.{common_steps}
use Rattle.pd_symbols.specs.Hex.{hex_digits}
use Rattle.pd_symbols.proofs.HexLemmas.{hex_digits-none, put_before, hex_digits-more, shift_more}
use Rattle.pd_symbols.proofs.hex.hex_digits.Goals as goal

pub loop-done-init : goal.loop-done-init
loop-done-init g c = record {
  long = grind (arith, common_steps);
  low = let none : drop (g.row.K - 0) (replicate {A = ℕ} g.row.K 48) ≡ [] = grind (arith, common_steps) in
      none ∙ sym (hex_digits-none c.args.number);
  left = omega arith;
}

pub loop-done-preserved : goal.loop-done-preserved
loop-done-preserved g c = record {
  long = grind (arith, common_steps);
  low = put_before _ _ _ _ _ c.loop-done.invariant.long c.loop-done-test.true c.loop-done.invariant.low
      ∙ ap (λ (d : ℕ). d ∷ hex_digits c.loop-done.done c.args.number) c.hex_digit.ensures
      ∙ hex_digits-more c.loop-done.done c.args.number _ c.loop-done.invariant.left;
  left = shift_more c.loop-done.done c.args.number c.loop-done.rest c.loop-done.invariant.left;
}
