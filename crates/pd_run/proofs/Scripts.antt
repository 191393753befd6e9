-- Where in a port's script the budget changes.
use Rattle.std.proofs.Common.{◌≡◌, ◌≢◌, ⊎_elim, ℕ, zero, suc, ◌+◌, ◌-◌, ◌<◌, ◌≤◌, List, Some, false, ap, ◌∙◌, inl, inr, arith}
use Rattle.std.proofs.Common.{get_or, slice_get}
use Rattle.std.specs.Prelude.{Contains}
use Rattle.std.proofs.lemmas.Bool.{cases_lt, cases_eq}
use Rattle.std.proofs.lemmas.Option.{slice_get-get_or, slice_get_within}
use Rattle.pd_setup.specs.Events.{EventData}
use Rattle.pd_scenario.specs.Plan.{is_change, IsFollowedBy, told_at}

-- a script in the order of times and numbers
abbrev pub IsSorted : List EventData → Type 0
IsSorted script = (i : ℕ) (e f : EventData) → slice_get script i ≡ Some e → slice_get script (i + 1) ≡ Some f → IsFollowedBy e f

no_later : (e f : EventData) → IsFollowedBy e f → e.at ≤ f.at
no_later e f h = ⊎_elim (λ (before : e.at < f.at). omega arith)
    (λ (same : (e.at ≡ f.at) × (is_change f.happening ≡ false)). omega (arith, same.0)) h

-- nothing comes before a change at its time
before_change : (e : EventData) (t : ℕ) → IsFollowedBy e (told_at t) → e.at < t
before_change e t h = ⊎_elim (λ (before : e.at < t). before)
    (λ (same : (e.at ≡ t) × (is_change (told_at t).happening ≡ false)). absurd cc) h

-- so all that stands before a change is earlier
all_earlier : (script : List EventData) (t j : ℕ) → IsSorted script → slice_get script j ≡ Some (told_at t) → (n i : ℕ) (e : EventData)
    → i + (n + 1) ≡ j → slice_get script i ≡ Some e → e.at < t
all_earlier script t j sorted at zero i e is get =
    let next : i + 1 ≡ j = omega arith in
    before_change e t (sorted i e (told_at t) get (ap (slice_get script) next ∙ at))
all_earlier script t j sorted at (suc n) i e is get =
    let inside = slice_get_within script j (told_at t) at in
    let g = get_or script (i + 1) e in
    let got : slice_get script (i + 1) ≡ Some g = slice_get-get_or script (i + 1) e (omega arith) in
    let k = all_earlier script t j sorted at n (i + 1) g (omega arith) got in
    let l = no_later e g (sorted i e g get got) in
    omega arith

-- Where the budget changes at t, the events that a port has had are earlier, and its next one isn't, the next one tells of
-- the change.
pub next_tells : (script : List EventData) (taken t : ℕ) → IsSorted script → Contains script (told_at t)
    → ((i : ℕ) (e : EventData) → i < taken → slice_get script i ≡ Some e → e.at < t)
    → ((e : EventData) → slice_get script taken ≡ Some e → t ≤ e.at) → slice_get script taken ≡ Some (told_at t)
next_tells script taken t sorted there had next =
    let j = there.0 in
    let at : slice_get script j ≡ Some (told_at t) = slice_get-get_or script j (told_at t) there.1 ∙ ap Some there.2 in
    elim (cases_lt j taken) [
      | inl early ↦ let k = had j (told_at t) early at in absurd (omega arith)
      | inr not_early ↦ ⊎_elim
          (λ (same : taken ≡ j). ap (slice_get script) same ∙ at)
          (λ (other : taken ≢ j).
          let less : taken < j = omega arith in
          let inside = there.1 in
          let e = get_or script taken (told_at t) in
          let got : slice_get script taken ≡ Some e = slice_get-get_or script taken (told_at t) (omega arith) in
          let gap : taken + ((j - taken - 1) + 1) ≡ j = omega arith in
          let k = all_earlier script t j sorted at (j - taken - 1) taken e gap got in
          let l = next e got in
          absurd (omega arith))
          (cases_eq taken j)
    ]
