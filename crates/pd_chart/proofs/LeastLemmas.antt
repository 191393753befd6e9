-- Of true steps the tightest leaves the least.
use Rattle.std.proofs.Common.{◌≡◌, ℕ, ◌<◌, ◌≤◌, cond, List, [], ◌∷◌, refl, sym, ap, subst}
use Rattle.std.proofs.Common.{inl, inr, arith}
use Rattle.std.proofs.lemmas.Bool.{cases_lt, le-ltb, lt-ltb}
use Rattle.pd_port.specs.declared.entry.Entry.{Entry}
use Rattle.pd_scenario.specs.Plan.{Plan}
use Rattle.pd_report.specs.LeastMargin.{margin_at}
use Rattle.pd_chart.specs.declared.curves.Level.{Level}
use Rattle.pd_chart.specs.Curves.{margin, tighter, tightest}
use Rattle.pd_chart.specs.Laws.{AreTrueSteps, IsTrueStep, starts_at}

module _ (plan : Plan) (entries : List (ℕ × Entry)) (from : ℕ) where
  -- of the instants up to a time this step leaves the least, and the first
  pub record IsTightest (end : ℕ) (l : Level) : Type 0 where
    pub not_before : from ≤ l.at
    pub earlier : l.at < end
    pub left_is : margin l ≡ margin_at plan entries l.at
    pub is_least : (t : ℕ) → from ≤ t → t < end → margin l ≤ margin_at plan entries t
    pub is_first : (t : ℕ) → from ≤ t → t < l.at → margin l < margin_at plan entries t

  left_then : (t : ℕ) (l : Level) → IsTrueStep plan entries t l → margin l ≡ margin_at plan entries t
  left_then t l h = let b = h.budget in let c = h.contracts in omega arith

  -- the first step, up to the next
  pub first_tightest : (end : ℕ) (l : Level) → from ≡ l.at → l.at < end
      → ((t : ℕ) → l.at ≤ t → t < end → IsTrueStep plan entries t l) → IsTightest end l
  first_tightest end l start some is = record {
    not_before = omega arith;
    earlier = some;
    left_is = left_then l.at l (is l.at (omega arith) some);
    is_least = λ t low high. let e = left_then t l (is t (omega arith) high) in omega arith;
    is_first = λ t low high. absurd (omega arith);
  }

  -- one more step, which stands up to a later time
  one_more : (cur end : ℕ) (best l : Level) → IsTightest cur best → l.at ≡ cur → l.at < end
      → ((t : ℕ) → l.at ≤ t → t < end → IsTrueStep plan entries t l) → IsTightest end (tighter best l)
  one_more cur end best l h start some is =
      elim (cases_lt (margin l) (margin best)) [
        | inl less ↦
            subst (IsTightest end) (sym (ap (λ b. cond b l best) (lt-ltb (margin l) (margin best) less))) (record {
              not_before = let a = h.not_before in let b = h.earlier in omega arith;
              earlier = some;
              left_is = left_then l.at l (is l.at (omega arith) some);
              is_least = λ t low high.
                  elim (cases_lt t cur) [
                    | inl past ↦ let k = h.is_least t low past in omega arith
                    | inr now ↦ let e = left_then t l (is t (omega arith) high) in omega arith
                  ];
              is_first = λ t low high. let k = h.is_least t low (omega arith) in omega arith;
            })
        | inr not_less ↦
            subst (IsTightest end) (sym (ap (λ b. cond b l best) (le-ltb (margin l) (margin best) not_less))) (record {
              not_before = h.not_before;
              earlier = let b = h.earlier in omega arith;
              left_is = h.left_is;
              is_least = λ t low high.
                  elim (cases_lt t cur) [
                    | inl past ↦ h.is_least t low past
                    | inr now ↦ let e = left_then t l (is t (omega arith) high) in omega arith
                  ];
              is_first = h.is_first;
            })
      ]

  tightest_from : (end : ℕ) (best : Level) (ls : List Level) → IsTightest (starts_at ls end) best → AreTrueSteps plan entries ls end
      → IsTightest end (tightest best ls)
  tightest_from end best [] h are = h
  tightest_from end best (l ∷ ls) h are =
      tightest_from end (tighter best l) ls (one_more l.at (starts_at ls end) best l h refl are.0 are.1) are.2

  -- the tightest of all
  pub tightest_is : (end : ℕ) (l : Level) (ls : List Level) → from ≡ l.at → AreTrueSteps plan entries (l ∷ ls) end
      → IsTightest end (tightest l ls)
  tightest_is end l ls start are =
      tightest_from end l ls (first_tightest (starts_at ls end) l start are.0 are.1) are.2
