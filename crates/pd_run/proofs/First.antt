-- The first due among the ports.
use Rattle.std.proofs.Common.{◌≡◌, ◌⊎◌, ℕ, ◌+◌, ◌-◌, ◌<◌, ◌≤◌, zero, suc, Option, Some, None, refl, sym, ◌∙◌, ap, inl, inr, arith}
use Rattle.std.proofs.Common.{subst, Bool, true, false, IsTrue, MatchOption}
use Rattle.std.specs.Prelude.{⊤}
use Rattle.std.proofs.lemmas.Bool.{cases_lt}
use Rattle.pd_port.specs.declared.due.Due.{Due}
use Rattle.pd_scenario.specs.Plan.{Plan, count}
use Rattle.pd_run.specs.Live.{LiveData, IsFirstOf, IsNext, IsSoFar, due_at}

below_more : (k n : ℕ) → k < n + 1 → (k < n) ⊎ (k ≡ n)
below_more zero zero h = inr refl
below_more zero (suc n) h = inl (omega arith)
below_more (suc k) zero h = absurd (omega arith)
below_more (suc k) (suc n) h = elim (below_more k n (omega arith)) [ inl a ↦ inl (omega arith) | inr e ↦ inr (ap suc e) ]

-- one port's due is one
same_due : (live : LiveData) (p q : ℕ) (d f : Due) → p ≡ q → due_at live q ≡ Some d → due_at live p ≡ Some f → d ≡ f
same_due live p q d f e g h =
    let i : due_at live p ≡ due_at live q = ap (due_at live) e in
    let j : Some d ≡ Some f = sym g ∙ sym i ∙ h in
    cc

-- this is before what was the first so far, or nothing was
abbrev pub IsSooner : ℕ → Option (ℕ × Due) → Type 0
IsSooner t first = MatchOption first ⊤ (λ r. t < r.1.time)

earliest_yet : (plan : Plan) (live : LiveData) (n : ℕ) (d : Due) → due_at live n ≡ Some d → d.time ≤ plan.end →
    ((q : ℕ) (f : Due) → q < n → due_at live q ≡ Some f → d.time < f.time) → IsFirstOf plan live (n + 1) n d
earliest_yet plan live n d e h all =
    record {
      known = omega arith;
      is_due = e;
      soon = h;
      least = λ q f below g. elim (below_more q n below) [
        | inl k ↦ let l = all q f k g in record { by_time = omega arith; by_port = λ x. absurd (omega arith) }
        | inr k ↦ let s : d.time ≡ f.time = ap (λ (x : Due). x.time) (same_due live q n d f k e g) in
            record { by_time = omega arith; by_port = λ x. omega arith }
      ];
    }

-- a due that is sooner is the first now
pub takes : (plan : Plan) (live : LiveData) (n : ℕ) (d : Due) (first : Option (ℕ × Due)) → IsSoFar plan live n first →
    due_at live n ≡ Some d → d.time ≤ plan.end → IsSooner d.time first → IsSoFar plan live (n + 1) (Some (n, d))
takes plan live n d None h e l s = earliest_yet plan live n d e l (λ q f below g. let k = h.late q f below g in omega arith)
takes plan live n d (Some r) h e l s = earliest_yet plan live n d e l (λ q f below g. let k = (h.least q f below g).by_time in omega arith)

-- this is after the end, or not before what was the first so far
abbrev pub Passes : Plan → Due → Option (ℕ × Due) → Type 0
Passes plan f None = plan.end < f.time
Passes plan f (Some r) = r.1.time ≤ f.time

-- where the port's due is no sooner, what was the first stays so
pub keeps : (plan : Plan) (live : LiveData) (n : ℕ) (first : Option (ℕ × Due)) → IsSoFar plan live n first →
    ((f : Due) → due_at live n ≡ Some f → Passes plan f first) → IsSoFar plan live (n + 1) first
keeps plan live n None h p =
    record {
      late = λ q f below g. elim (below_more q n below) [
        | inl k ↦ h.late q f k g
        | inr k ↦ p f (ap (due_at live) (sym k) ∙ g)
      ];
    }
keeps plan live n (Some r) h p =
    let known = h.known in
    record {
      known = omega arith;
      is_due = h.is_due;
      soon = h.soon;
      least = λ q f below g. elim (below_more q n below) [
        | inl k ↦ h.least q f k g
        | inr k ↦ let l : r.1.time ≤ f.time = p f (ap (due_at live) (sym k) ∙ g) in
            record { by_time = l; by_port = λ x. omega arith }
      ];
    }

-- what is after the end passes
pub passes_late : (plan : Plan) (live : LiveData) (n : ℕ) (f : Due) (first : Option (ℕ × Due)) → IsSoFar plan live n first
    → plan.end < f.time → Passes plan f first
passes_late plan live n f None h l = l
passes_late plan live n f (Some r) h l = let s = h.soon in omega arith

-- what is no sooner passes
pub passes_no_sooner : (plan : Plan) (d : Due) (first : Option (ℕ × Due)) (b : Bool) → (IsSooner d.time first → IsTrue b) → b ≡ false
    → Passes plan d first
passes_no_sooner plan d None b h n = absurd (let t : b ≡ true = h tt in let x : true ≡ false = sym t ∙ n in cc)
passes_no_sooner plan d (Some r) b h n =
    elim (cases_lt d.time r.1.time) [
      | inl k ↦ absurd (let t : b ≡ true = h k in let x : true ≡ false = sym t ∙ n in cc)
      | inr k ↦ k
    ]

-- one due of a port passes, and so each that the port has
pub passes_each : (plan : Plan) (live : LiveData) (n : ℕ) (first : Option (ℕ × Due)) (d : Due) → due_at live n ≡ Some d
    → Passes plan d first →
    (f : Due) → due_at live n ≡ Some f → Passes plan f first
passes_each plan live n first d e p f g =
    subst (λ (x : Due). Passes plan x first) (same_due live n n d f refl e g) p

-- where nothing falls due, all that does passes
pub passes_none : (plan : Plan) (live : LiveData) (n : ℕ) (first : Option (ℕ × Due)) → due_at live n ≡ None →
    (f : Due) → due_at live n ≡ Some f → Passes plan f first
passes_none plan live n first e f g = absurd (let x : None ≡ Some f = sym e ∙ g in cc)

-- the first due of all ports is the next one, its port numbered from 1
pub first_is_next : (plan : Plan) (live : LiveData) (n p : ℕ) (d : Due) → count plan ≡ n → IsFirstOf plan live n p d
    → IsNext plan live (p + 1) d
first_is_next plan live n p d e h =
    let q : p ≡ p + 1 - 1 = omega arith in
    let k : IsFirstOf plan live n (p + 1 - 1) d = subst (λ (x : ℕ). IsFirstOf plan live n x d) q h in
    record { from_one = omega arith; first = subst (λ (m : ℕ). IsFirstOf plan live m (p + 1 - 1) d) (sym e) k }
