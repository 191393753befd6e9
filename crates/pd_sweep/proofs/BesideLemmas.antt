-- Going along the changes of two runs side by side, for eight ports.
use Rattle.std.proofs.Common.{◌≡◌, ◌≢◌, ℕ, zero, suc, ◌+◌, ◌<◌, ◌≤◌, Bool, true, false, cond, List, [], ◌∷◌, length, map, take, drop}
use Rattle.std.proofs.Common.{get_or, set, Option, Some, None, refl, sym, ap, subst, ◌∙◌, arith, ⊎_elim, slice_get}
use Rattle.std.specs.Prelude.{nat_le}
use Rattle.std.specs.List.{AllByRecursion, range_with_len}
use Rattle.std.proofs.lemmas.Bool.{cases_eq}
use Rattle.std.proofs.lemmas.Bool.Decides.{nat_tests}
use Rattle.std.proofs.lemmas.List.{get_or-replicate, get_or-map, get_or-set_other, get_or-set_same, length-map, length-set, same_lists}
use Rattle.std.proofs.lemmas.List.{take_all}
use Rattle.std.proofs.lemmas.List.FromFn.{get_or-map-range_with_len, length-map-range_with_len}
use Rattle.std.proofs.lemmas.Option.{same_Some, slice_get_within}
use Rattle.pd_report.proofs.MarginLemmas.{all-mono, drop-next, take-next}
use Rattle.pd_sweep.specs.declared.measure.Measure.{Measure}
use Rattle.pd_sweep.specs.declared.measure.Step.{Step}
use Rattle.pd_sweep.specs.declared.beside.Ledger.{Ledger}
use Rattle.pd_sweep.specs.Beside.{AreInOrder, AreRising, HasRoom, NoneBefore, closed, measures_by, next_of, no_ledgers, no_measure}
use Rattle.pd_sweep.specs.Beside.{noted, noted_ports, nothing_yet, stands_at}
use Rattle.pd_sweep.specs.declared.beside.Whose.{Whose}
use Rattle.pd_sweep.specs.declared.beside.Whose.TheVariants.{Old, New}
use Rattle.pd_sweep.specs.Measures.{measure_by}
use Rattle.pd_sweep.proofs.StepLemmas.{Keeps, keeps_closed, keeps_few, keeps_new, keeps_none, keeps_old, keeps_other_new, keeps_other_old}

-- ---- the changes that are to come

rising-drop : (steps : List Step) (i : ℕ) → AreRising steps → AreRising (drop i steps)
unfolding AreRising
rising-drop steps zero h = h
rising-drop [] (suc i) h = tt
rising-drop (s ∷ ss) (suc i) h = rising-drop ss i h.1

none_sooner : (a c : ℕ) (steps : List Step) → a ≤ c → NoneBefore c steps → NoneBefore a steps
none_sooner a c steps le h = all-mono (λ (s : Step). c ≤ s.at) (λ s. a ≤ s.at) (λ s k. omega arith) steps h

module _ (steps : List Step) (i : ℕ) (s : Step) (e : slice_get steps i ≡ Some s) where
  -- none behind it is before it, nor is it itself
  behind : AreRising steps → NoneBefore s.at (drop (i + 1) steps)
  unfolding AreRising
  behind h = (subst AreRising (drop-next steps i s e) (rising-drop steps i h)).0

  from_it : AreRising steps → NoneBefore s.at (drop i steps)
  from_it h = let at_once : s.at ≤ s.at = omega arith in subst (NoneBefore s.at) (sym (drop-next steps i s e)) (at_once, behind h)

  first_of : (t : ℕ) → NoneBefore t (drop i steps) → t ≤ s.at
  first_of t h = (subst (NoneBefore t) (drop-next steps i s e) h).0

  rest_of : (t : ℕ) → NoneBefore t (drop i steps) → NoneBefore t (drop (i + 1) steps)
  rest_of t h = (subst (NoneBefore t) (drop-next steps i s e) h).1

none_left : (steps : List Step) (i t : ℕ) → slice_get steps i ≡ None → NoneBefore t (drop i steps)
none_left [] zero t e = tt
none_left [] (suc i) t e = tt
none_left (s ∷ ss) zero t e = absurd (cc)
none_left (s ∷ ss) (suc i) t e = none_left ss i t e

-- ---- how far a walk has come

abbrev ledger : List Ledger → ℕ → Ledger
ledger ledgers p = get_or ledgers p nothing_yet

-- of each port what stands after the first changes, and none of the others is before the instant up to which it was measured
pub record Walked (end : ℕ) (olds news : List Step) (i j : ℕ) (ledgers : List Ledger) : Type 0 where
  pub count_is : length ledgers ≡ 8
  pub each : (p : ℕ) → p < 8 → Keeps p (take i olds) (take j news) (ledger ledgers p)
  pub ahead_old : (p : ℕ) → p < 8 → NoneBefore (ledger ledgers p).since (drop i olds)
  pub ahead_new : (p : ℕ) → p < 8 → NoneBefore (ledger ledgers p).since (drop j news)
  pub soon : (p : ℕ) → p < 8 → (ledger ledgers p).since ≤ end

none_before_zero : (steps : List Step) → NoneBefore 0 steps
none_before_zero [] = tt
none_before_zero (s ∷ ss) = (omega arith, none_before_zero ss)

pub walked_none : (end : ℕ) (olds news : List Step) (ledgers : List Ledger) → ledgers ≡ no_ledgers → Walked end olds news 0 0 ledgers
walked_none end olds news ledgers e =
    let at_first : (p : ℕ) → p < 8 → ledger no_ledgers p ≡ nothing_yet = λ p few. get_or-replicate 8 p nothing_yet nothing_yet few in
    rw e (record {
      count_is = refl;
      each = λ p few. subst (λ (l : Ledger). Keeps p [] [] l) (sym (at_first p few)) (keeps_none p);
      ahead_old = λ p few. subst (λ (l : Ledger). NoneBefore l.since olds) (sym (at_first p few)) (none_before_zero olds);
      ahead_new = λ p few. subst (λ (l : Ledger). NoneBefore l.since news) (sym (at_first p few)) (none_before_zero news);
      soon = λ p few. subst (λ (l : Ledger). l.since ≤ end) (sym (at_first p few)) (omega arith);
    })

module _ (end : ℕ) (olds news : List Step) (i j : ℕ) (ledgers : List Ledger) (w : Walked end olds news i j ledgers) where
  pub has_room : (t : ℕ) → ((p : ℕ) → p < 8 → (ledger ledgers p).since ≤ t) → (p : ℕ) → p < 8 → HasRoom (ledger ledgers p) t
  has_room t late p few =
      let k = keeps_few p (take i olds) (take j news) (ledger ledgers p) (w.each p few) in
      (late p few, k.0, k.1)

  pub room_at_end : (p : ℕ) → p < 8 → HasRoom (ledger ledgers p) end
  room_at_end = has_room end w.soon

  -- after a change of a port
  by_port : (whose : Whose) (s : Step) (P : ℕ → Ledger → Type 0) → ((p : ℕ) → p < 8 → s.port ≡ p → P p (noted whose (ledger ledgers p) s))
      → ((p : ℕ) → p < 8 → s.port ≢ p → P p (ledger ledgers p)) → (p : ℕ) → p < 8 → P p (ledger (noted_ports whose ledgers s) p)
  by_port whose s P here there p few =
      let new : Ledger = noted whose (ledger ledgers s.port) s in
      ⊎_elim
      (λ (same : s.port ≡ p).
      let within : p < length ledgers = let c = w.count_is in omega (arith, c) in
      let is : ledger (noted_ports whose ledgers s) p ≡ noted whose (ledger ledgers p) s =
      ap (λ k. get_or (set ledgers k new) p nothing_yet) same ∙ get_or-set_same ledgers p new nothing_yet within
      ∙ ap (λ k. noted whose (ledger ledgers k) s) same in
      subst (P p) (sym is) (here p few same))
      (λ (other : s.port ≢ p).
      subst (P p) (sym (get_or-set_other ledgers s.port p new nothing_yet (λ e. other (sym e)))) (there p few other))
      (cases_eq s.port p)

  module _ (s : Step) (soon : s.at < end) where
    -- the next change is one of the old run
    module _ (e : slice_get olds i ≡ Some s) (rising : AreRising olds) (waits : NoneBefore s.at (drop j news)) where
      pub room_old : (p : ℕ) → p < 8 → HasRoom (ledger ledgers p) s.at
      room_old = has_room s.at (λ p few. first_of olds i s e (ledger ledgers p).since (w.ahead_old p few))

      pub walked_old : Walked end olds news (i + 1) j (noted_ports Old ledgers s)
      walked_old = record {
        count_is = length-set ledgers s.port (noted Old (ledger ledgers s.port) s) ∙ w.count_is;
        each =
            by_port Old s (λ p l. Keeps p (take (i + 1) olds) (take j news) l)
            (λ p few same. subst (λ (xs : List Step). Keeps p xs (take j news) (noted Old (ledger ledgers p) s))
            (sym (take-next olds i s e))
            (keeps_old p (take i olds) (take j news) (ledger ledgers p) (w.each p few) s same (room_old p few).0))
            (λ p few other. subst (λ (xs : List Step). Keeps p xs (take j news) (ledger ledgers p)) (sym (take-next olds i s e))
            (keeps_other_old p (take i olds) (take j news) (ledger ledgers p) (w.each p few) s other));
        ahead_old =
            by_port Old s (λ p l. NoneBefore l.since (drop (i + 1) olds)) (λ p few same. behind olds i s e rising)
            (λ p few other. rest_of olds i s e (ledger ledgers p).since (w.ahead_old p few));
        ahead_new =
            by_port Old s (λ p l. NoneBefore l.since (drop j news)) (λ p few same. waits) (λ p few other. w.ahead_new p few);
        soon = by_port Old s (λ p l. l.since ≤ end) (λ p few same. omega arith) (λ p few other. w.soon p few);
      }

    -- or of the other
    module _ (e : slice_get news j ≡ Some s) (rising : AreRising news) (waits : NoneBefore s.at (drop i olds)) where
      pub room_new : (p : ℕ) → p < 8 → HasRoom (ledger ledgers p) s.at
      room_new = has_room s.at (λ p few. first_of news j s e (ledger ledgers p).since (w.ahead_new p few))

      pub walked_new : Walked end olds news i (j + 1) (noted_ports New ledgers s)
      walked_new = record {
        count_is = length-set ledgers s.port (noted New (ledger ledgers s.port) s) ∙ w.count_is;
        each =
            by_port New s (λ p l. Keeps p (take i olds) (take (j + 1) news) l)
            (λ p few same. subst (λ (ys : List Step). Keeps p (take i olds) ys (noted New (ledger ledgers p) s))
            (sym (take-next news j s e))
            (keeps_new p (take i olds) (take j news) (ledger ledgers p) (w.each p few) s same (room_new p few).0))
            (λ p few other. subst (λ (ys : List Step). Keeps p (take i olds) ys (ledger ledgers p)) (sym (take-next news j s e))
            (keeps_other_new p (take i olds) (take j news) (ledger ledgers p) (w.each p few) s other));
        ahead_old =
            by_port New s (λ p l. NoneBefore l.since (drop i olds)) (λ p few same. waits) (λ p few other. w.ahead_old p few);
        ahead_new =
            by_port New s (λ p l. NoneBefore l.since (drop (j + 1) news)) (λ p few same. behind news j s e rising)
            (λ p few other. rest_of news j s e (ledger ledgers p).since (w.ahead_new p few));
        soon = by_port New s (λ p l. l.since ≤ end) (λ p few same. omega arith) (λ p few other. w.soon p few);
      }

  -- and at the end
  pub walked_all : length olds ≤ i → length news ≤ j → map (λ (l : Ledger). closed l end) ledgers ≡ measures_by end olds news
  unfolding measures_by
  walked_all no_old no_new =
      let f : ℕ → Measure = λ p. measure_by end (stands_at olds p) (stands_at news p) in
      same_lists (map (λ (l : Ledger). closed l end) ledgers) (map f (range_with_len 0 8))
      (length-map ledgers (λ (l : Ledger). closed l end) ∙ w.count_is ∙ sym (length-map-range_with_len f 0 8))
      (λ k d h.
      let few : k < 8 = let c = w.count_is in let m = length-map ledgers (λ (l : Ledger). closed l end) in omega (arith, c, m, h) in
      let within : k < length ledgers = let c = w.count_is in omega (arith, c, few) in
      get_or-map (λ (l : Ledger). closed l end) ledgers k nothing_yet d within
      ∙ keeps_closed k (take i olds) (take j news) (ledger ledgers k) (w.each k few) end (w.soon k few)
      ∙ ap (λ (xs : List Step). measure_by end (stands_at xs k) (stands_at (take j news) k)) (take_all i olds no_old)
      ∙ ap (λ (ys : List Step). measure_by end (stands_at olds k) (stands_at ys k)) (take_all j news no_new)
      ∙ sym (get_or-map-range_with_len f 0 8 k k d few (omega arith)))

-- ---- the next change

abbrev turn : Bool → Step → Step → Option (Whose × Step)
turn b old new = cond b (Some (Old, old)) (Some (New, new))

-- the next change is one of the old run, and none of the other comes before it
pub record NextOld (olds : List Step) (i : ℕ) (news : List Step) (j : ℕ) (s : Step) : Type 0 where
  pub is : slice_get olds i ≡ Some s
  pub within : i < length olds
  pub waits : NoneBefore s.at (drop j news)

-- or one of the other
pub record NextNew (olds : List Step) (i : ℕ) (news : List Step) (j : ℕ) (s : Step) : Type 0 where
  pub is : slice_get news j ≡ Some s
  pub within : j < length news
  pub waits : NoneBefore s.at (drop i olds)

abbrev pub IsNext : List Step → ℕ → List Step → ℕ → Whose → Step → Type 0
IsNext olds i news j Old s = NextOld olds i news j s
IsNext olds i news j New s = NextNew olds i news j s

module _ (olds : List Step) (i : ℕ) (news : List Step) (j : ℕ) (old_order : AreRising olds) (new_order : AreRising news) where
  is_next : (o n : Option Step) (whose : Whose) (s : Step) → slice_get olds i ≡ o → slice_get news j ≡ n → next_of o n ≡ Some (whose, s)
      → IsNext olds i news j whose s
  is_next None None whose s e f h = absurd (cc)
  is_next (Some old) None whose s e f h =
      let P : Whose × Step → Type 0 = λ x. IsNext olds i news j x.0 x.1 in
      subst P (same_Some _ (whose, s) h)
      (record { is = e; within = slice_get_within olds i old e; waits = none_left news j old.at f })
  is_next None (Some new) whose s e f h =
      let P : Whose × Step → Type 0 = λ x. IsNext olds i news j x.0 x.1 in
      subst P (same_Some _ (whose, s) h)
      (record { is = f; within = slice_get_within news j new f; waits = none_left olds i new.at e })
  is_next (Some old) (Some new) whose s e f h = by_test (nat_le old.at new.at) refl h where
    by_test : (b : Bool) → nat_le old.at new.at ≡ b → turn b old new ≡ Some (whose, s)
        → IsNext olds i news j whose s
    by_test true t k =
        let P : Whose × Step → Type 0 = λ x. IsNext olds i news j x.0 x.1 in
        let le : old.at ≤ new.at = grind (arith, nat_tests, t) in
        subst P (same_Some _ (whose, s) k) (record {
          is = e;
          within = slice_get_within olds i old e;
          waits = none_sooner old.at new.at (drop j news) le (from_it news j new f new_order);
        })
    by_test false t k =
        let P : Whose × Step → Type 0 = λ x. IsNext olds i news j x.0 x.1 in
        let le : new.at ≤ old.at = grind (arith, nat_tests, t) in
        subst P (same_Some _ (whose, s) k) (record {
          is = f;
          within = slice_get_within news j new f;
          waits = none_sooner new.at old.at (drop i olds) le (from_it olds i old e old_order);
        })

  pub next_is : (whose : Whose) (s : Step) → next_of (slice_get olds i) (slice_get news j) ≡ Some (whose, s)
      → IsNext olds i news j whose s
  next_is whose s h = is_next (slice_get olds i) (slice_get news j) whose s refl refl h

  -- nothing is left of either run
  pub none_next : next_of (slice_get olds i) (slice_get news j) ≡ None → (length olds ≤ i) × (length news ≤ j)
  none_next h = by_parts (slice_get olds i) (slice_get news j) refl refl h where
    by_parts : (o n : Option Step) → slice_get olds i ≡ o → slice_get news j ≡ n → next_of o n ≡ None
        → (length olds ≤ i) × (length news ≤ j)
    by_parts None None e f h = (past olds i e, past news j f) where
      past : (steps : List Step) (k : ℕ) → slice_get steps k ≡ None → length steps ≤ k
      past [] k e = omega arith
      past (s ∷ ss) zero e = absurd (cc)
      past (s ∷ ss) (suc k) e = let rest = past ss k e in omega arith
    by_parts (Some old) None e f h = absurd (cc)
    by_parts None (Some new) e f h = absurd (cc)
    by_parts (Some old) (Some new) e f h = by_test (nat_le old.at new.at) h where
      by_test : (b : Bool) → turn b old new ≡ None → (length olds ≤ i) × (length news ≤ j)
      by_test true k = absurd (cc)
      by_test false k = absurd (cc)

soon_at : (end : ℕ) (steps : List Step) (i : ℕ) (s : Step) → slice_get steps i ≡ Some s → AllByRecursion (λ s. s.at < end) steps
    → s.at < end
soon_at end [] zero s e h = absurd (cc)
soon_at end [] (suc i) s e h = absurd (cc)
soon_at end (x ∷ xs) zero s e h = let same : x ≡ s = same_Some x s e in subst (λ (y : Step). y.at < end) same h.0
soon_at end (x ∷ xs) (suc i) s e h = soon_at end xs i s e h.1

module _ (end : ℕ) (olds news : List Step) (old_order : AreInOrder end olds) (new_order : AreInOrder end news) (i j : ℕ)
    (ledgers : List Ledger) (w : Walked end olds news i j ledgers) (whose : Whose) (s : Step)
    (next : next_of (slice_get olds i) (slice_get news j) ≡ Some (whose, s)) where
  pub next_here : IsNext olds i news j whose s
  next_here = next_is olds i news j old_order.rising new_order.rising whose s next

  room_by : (whose : Whose) → IsNext olds i news j whose s → (p : ℕ) → p < 8 → HasRoom (ledger ledgers p) s.at
  room_by Old n =
      room_old end olds news i j ledgers w s (soon_at end olds i s n.is old_order.soon) n.is old_order.rising n.waits
  room_by New n =
      room_new end olds news i j ledgers w s (soon_at end news j s n.is new_order.soon) n.is new_order.rising n.waits

  pub next_room : (p : ℕ) → p < 8 → HasRoom (ledger ledgers p) s.at
  next_room = room_by whose next_here

  pub next_old : whose ≡ Old → (i < length olds) × Walked end olds news (i + 1) j (noted_ports whose ledgers s)
  next_old e =
      let n : NextOld olds i news j s = subst (λ (x : Whose). IsNext olds i news j x s) e next_here in (
        n.within,
        rw e (walked_old end olds news i j ledgers w s (soon_at end olds i s n.is old_order.soon) n.is old_order.rising n.waits),
      )

  pub next_new : whose ≡ New → (j < length news) × Walked end olds news i (j + 1) (noted_ports whose ledgers s)
  next_new e =
      let n : NextNew olds i news j s = subst (λ (x : Whose). IsNext olds i news j x s) e next_here in (
        n.within,
        rw e (walked_new end olds news i j ledgers w s (soon_at end news j s n.is new_order.soon) n.is new_order.rising n.waits),
      )

-- ---- the measures of all ports

module _ (ledgers : List Ledger) (end : ℕ) (measures : List Measure) where
  pub closed_more : (i : ℕ) (m : Measure) → i < length measures
      → ((k : ℕ) → k < i → get_or measures k no_measure ≡ closed (ledger ledgers k) end)
      → m ≡ closed (ledger ledgers i) end
      → (k : ℕ) → k < i + 1 → get_or (set measures i m) k no_measure ≡ closed (ledger ledgers k) end
  closed_more i m within so e k lt =
      ⊎_elim
      (λ (same : k ≡ i).
      ap (λ n. get_or (set measures i m) n no_measure) same ∙ get_or-set_same measures i m no_measure within ∙ e
      ∙ ap (λ n. closed (ledger ledgers n) end) (sym same))
      (λ (other : k ≢ i). let less : k < i = omega arith in get_or-set_other measures i k m no_measure other ∙ so k less)
      (cases_eq k i)

  pub closed_all : length ledgers ≡ 8 → length measures ≡ 8
      → ((k : ℕ) → k < 8 → get_or measures k no_measure ≡ closed (ledger ledgers k) end)
      → measures ≡ map (λ (l : Ledger). closed l end) ledgers
  closed_all ledger_count measure_count so =
      same_lists measures (map (λ (l : Ledger). closed l end) ledgers)
      (measure_count ∙ sym ledger_count ∙ sym (length-map ledgers (λ (l : Ledger). closed l end)))
      (λ k d h.
      let few : k < 8 = omega arith in
      let within : k < length ledgers = omega arith in
      any_or measures k d no_measure h ∙ so k few ∙ sym (get_or-map (λ (l : Ledger). closed l end) ledgers k nothing_yet d within)) where
        any_or : (xs : List Measure) (k : ℕ) (d e : Measure) → k < length xs → get_or xs k d ≡ get_or xs k e
        any_or [] k d e h = absurd (omega arith)
        any_or (x ∷ xs) zero d e h = refl
        any_or (x ∷ xs) (suc k) d e h = any_or xs k d e (omega arith)
