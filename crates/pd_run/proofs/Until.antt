-- The first events of a script, those before a time.
use Rattle.std.proofs.Common.{◌≡◌, ℕ, zero, suc, ◌+◌, ◌-◌, ◌<◌, ◌≤◌, Bool, true, false, nat_lt, if◌then◌else◌, List, [], ◌∷◌, length}
use Rattle.std.proofs.Common.{take, drop, Some, None, slice_get, refl, ap, sym, ◌∙◌, inl, inr, arith}
use Rattle.std.proofs.lemmas.Bool.{cases_lt}
use Rattle.std.proofs.lemmas.Bool.Decides.{nat_tests}
use Rattle.std.proofs.lemmas.Option.{same_Some}
use Rattle.pd_setup.specs.Events.{EventData}
use Rattle.pd_run.specs.UpTo.{until, had_by, events_in}

is_before : (a b : ℕ) → a < b → nat_lt a b ≡ true
is_before a b h = grind (arith, nat_tests)

is_not_before : (a b : ℕ) → b ≤ a → nat_lt a b ≡ false
is_not_before a b h = grind (arith, nat_tests)

-- an event before the time is the first of them
pub until-cons : (at : ℕ) (e : EventData) (es : List EventData) → e.at < at → until at (e ∷ es) ≡ e ∷ until at es
until-cons at e es h = ap (λ (b : Bool). if b then e ∷ until at es else []) (is_before e.at at h)

-- one that isn't ends them
pub until-end : (at : ℕ) (e : EventData) (es : List EventData) → at ≤ e.at → until at (e ∷ es) ≡ []
until-end at e es h = ap (λ (b : Bool). if b then e ∷ until at es else []) (is_not_before e.at at h)

had-cons : (at : ℕ) (e : EventData) (es : List EventData) → e.at < at → had_by at (e ∷ es) ≡ suc (had_by at es)
had-cons at e es h = ap length (until-cons at e es h)

had-end : (at : ℕ) (e : EventData) (es : List EventData) → at ≤ e.at → had_by at (e ∷ es) ≡ 0
had-end at e es h = ap length (until-end at e es h)

-- they are no more than all
pub had_few : (at : ℕ) (script : List EventData) → had_by at script ≤ length script
had_few at [] = omega arith
had_few at (e ∷ es) =
    elim (cases_lt e.at at) [
      | inl h ↦ let k = had_few at es in omega (arith, had-cons at e es h)
      | inr h ↦ omega (arith, had-end at e es h)
    ]

-- none is before the start
pub had_none : (script : List EventData) → had_by 0 script ≡ 0
had_none [] = refl
had_none (e ∷ es) = had-end 0 e es (omega arith)

-- they are before the time
pub had_earlier : (at : ℕ) (script : List EventData) (i : ℕ) (e : EventData) → i < had_by at script → slice_get script i ≡ Some e
    → e.at < at
had_earlier at [] i e lt get = absurd (omega arith)
had_earlier at (f ∷ fs) zero e lt get =
    elim (cases_lt f.at at) [
      | inl h ↦ let same : f.at ≡ e.at = ap (λ (x : EventData). x.at) (same_Some f e get) in omega arith
      | inr h ↦ absurd (omega (arith, had-end at f fs h))
    ]
had_earlier at (f ∷ fs) (suc i) e lt get =
    elim (cases_lt f.at at) [
      | inl h ↦ had_earlier at fs i e (omega (arith, had-cons at f fs h)) get
      | inr h ↦ absurd (omega (arith, had-end at f fs h))
    ]

-- the next one is among them where it is before the time
pub had_more : (at : ℕ) (script : List EventData) (i : ℕ) (e : EventData) → i ≤ had_by at script → slice_get script i ≡ Some e
    → e.at < at → i + 1 ≤ had_by at script
had_more at [] i e le get h = absurd (let x : None ≡ Some e = get in cc)
had_more at (f ∷ fs) zero e le get h =
    let same : f.at ≡ e.at = ap (λ (x : EventData). x.at) (same_Some f e get) in
    omega (arith, had-cons at f fs (omega arith))
had_more at (f ∷ fs) (suc i) e le get h =
    elim (cases_lt f.at at) [
      | inl k ↦ let more = had_more at fs i e (omega (arith, had-cons at f fs k)) get h in omega (arith, had-cons at f fs k)
      | inr k ↦ absurd (omega (arith, had-end at f fs k))
    ]

-- where the next one isn't before the time, they are all
pub had_all : (at : ℕ) (script : List EventData) (i : ℕ) (e : EventData) → i ≤ had_by at script → slice_get script i ≡ Some e
    → at ≤ e.at → i ≡ had_by at script
had_all at script i e le get h =
    elim (cases_lt i (had_by at script)) [
      | inl lt ↦ let k = had_earlier at script i e lt get in absurd (omega arith)
      | inr not ↦ omega arith
    ]

-- nor where there is no next one
pub had_past : (at : ℕ) (script : List EventData) (i : ℕ) → i ≤ had_by at script → slice_get script i ≡ None → i ≡ had_by at script
had_past at [] i le get = omega arith
had_past at (e ∷ es) zero le get = absurd (let x : Some e ≡ None = get in cc)
had_past at (e ∷ es) (suc i) le get =
    elim (cases_lt e.at at) [
      | inl h ↦ let k = had_past at es i (omega (arith, had-cons at e es h)) get in omega (arith, had-cons at e es h)
      | inr h ↦ absurd (omega (arith, had-end at e es h))
    ]

-- so many events, all before the time, of which the next one isn't
pub had_is : (at : ℕ) (script : List EventData) (n : ℕ) → n ≤ length script
    → ((i : ℕ) (e : EventData) → i < n → slice_get script i ≡ Some e → e.at < at)
    → ((e : EventData) → slice_get script n ≡ Some e → at ≤ e.at) → n ≡ had_by at script
had_is at [] n le had next = omega arith
had_is at (e ∷ es) zero le had next = sym (had-end at e es (next e refl))
had_is at (e ∷ es) (suc n) le had next =
    let rest = had_is at es n (omega arith) (λ i f lt get. had (suc i) f (omega arith) get) next in
    omega (arith, had-cons at e es (had 0 e (omega arith) refl))

-- later they are no fewer
pub had_rises : (from to : ℕ) (script : List EventData) → from ≤ to → had_by from script ≤ had_by to script
had_rises from to [] le = omega arith
had_rises from to (e ∷ es) le =
    elim (cases_lt e.at from) [
      | inl h ↦ let k = had_rises from to es le in omega (arith, had-cons from e es h, had-cons to e es (omega arith))
      | inr h ↦ omega (arith, had-end from e es h)
    ]

until_take : (at : ℕ) (script : List EventData) → until at script ≡ take (had_by at script) script
until_take at [] = refl
until_take at (e ∷ es) =
    elim (cases_lt e.at at) [
      | inl h ↦ until-cons at e es h ∙ ap (λ l. e ∷ l) (until_take at es) ∙ sym (ap (λ n. take n (e ∷ es)) (had-cons at e es h))
      | inr h ↦ until-end at e es h ∙ sym (ap (λ n. take n (e ∷ es)) (had-end at e es h))
    ]

-- the events from one time to another, by how many are before each
pub events_between : (from to : ℕ) (script : List EventData) → from ≤ to
    → events_in from to script ≡ take (had_by to script - had_by from script) (drop (had_by from script) script)
events_between from to [] le = refl
events_between from to (e ∷ es) le =
    elim (cases_lt e.at from) [
      | inl h ↦
          let f = had-cons from e es h in
          let t = had-cons to e es (omega arith) in
          let gap : had_by to (e ∷ es) - suc (had_by from es) ≡ had_by to es - had_by from es = omega arith in
          ap (λ n. until to (drop n (e ∷ es))) f ∙ events_between from to es le
          ∙ sym (ap (λ n. take (had_by to (e ∷ es) - n) (drop n (e ∷ es))) f ∙ ap (λ n. take n (drop (had_by from es) es)) gap)
      | inr h ↦
          let f = had-end from e es h in
          let all : had_by to (e ∷ es) ≡ had_by to (e ∷ es) - 0 = omega arith in
          ap (λ n. until to (drop n (e ∷ es))) f ∙ until_take to (e ∷ es) ∙ ap (λ n. take n (e ∷ es)) all
          ∙ sym (ap (λ n. take (had_by to (e ∷ es) - n) (drop n (e ∷ es))) f)
    ]
