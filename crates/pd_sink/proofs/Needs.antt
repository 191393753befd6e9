-- What is needed of a voltage.
use Rattle.std.proofs.Common.{◌≡◌, ℕ, ◌+◌, ◌*◌, ◌/◌, ◌<◌, ◌≤◌, sym, subst, ◌∙◌, ap, arith}
use Rattle.std.proofs.Math.Nat.{lt_of_mul-lt-mul_right, mul_assoc, mul_comm}
use Rattle.std.proofs.lemmas.Grind.{div_ceil_times}
use Rattle.std.specs.Int.{div_ceil}
use Rattle.pd_sink.specs.Rule.{IsNeed, need_of}

-- mv * (n * 10) is n * (mv * 10)
turned : (mv n : ℕ) → mv * (n * 10) ≡ n * (mv * 10)
turned mv n = mul_comm mv (n * 10) ∙ (mul_assoc n 10 mv ∙ ap (λ (x : ℕ). n * x) (mul_comm 10 mv))

-- the least k with a ≤ k * b
least : (a b n k : ℕ) → n * b < a + b → a ≤ k * b → n ≤ k
least a b n k h l =
    let e : (k + 1) * b ≡ k * b + b = grind arith in
    let m : n * b < (k + 1) * b = rw e (omega arith) in
    let s = lt_of_mul-lt-mul_right b m in
    omega arith

pub IsNeed-need_of : (mv demand_mw : ℕ) → 0 < mv → IsNeed mv demand_mw (need_of mv demand_mw)
IsNeed-need_of mv demand_mw h =
    let n = div_ceil (demand_mw * 1000) (mv * 10) in
    let positive : 0 < mv * 10 = omega arith in
    let bounds = div_ceil_times (demand_mw * 1000) (mv * 10) positive in
    record {
      steps = omega arith;
      enough = subst (λ (x : ℕ). demand_mw * 1000 ≤ x) (sym (turned mv n)) bounds.0;
      least = λ other steps enough.
          let k = other / 10 in
          let e : other ≡ k * 10 = omega arith in
          let l : demand_mw * 1000 ≤ mv * (k * 10) = subst (λ (x : ℕ). demand_mw * 1000 ≤ mv * x) e enough in
          let m : demand_mw * 1000 ≤ k * (mv * 10) = subst (λ (x : ℕ). demand_mw * 1000 ≤ x) (turned mv k) l in
          let s = least (demand_mw * 1000) (mv * 10) n k bounds.1 m in
          omega arith;
    }
