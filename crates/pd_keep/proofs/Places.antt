-- Where ports stand among the moves of a span.
use Rattle.std.proofs.Common.{◌≡◌, ◌≢◌, ⊎_elim, ℕ, ◌+◌, ◌-◌, ◌<◌, ◌≤◌, Bool, true, false, cond, eqb, suc, zero}
use Rattle.std.proofs.Common.{List, [], ◌∷◌, ◌++◌, length, map, All, Option, Some, None, refl}
use Rattle.std.proofs.Common.{ap, sym, ◌∙◌, arith, subst, drop, get_or, slice_index_or, slice_set, replicate, take}
use Rattle.std.proofs.Math.ListN.{get_or-append}
use Rattle.std.proofs.Math.Seq.{get_or-append_seam}
use Rattle.std.proofs.lemmas.List.{get_or-drop, length-drop, take_more}
use Rattle.std.proofs.lemmas.List.{get_or-set_same, get_or-set_other, get_or-replicate, length_push, length-set}
use Rattle.std.proofs.lemmas.Bool.{cases_eq, cases_Bool, cond-true, cond-false, eq-eqb, ne_eqb}
use Rattle.pd_setup.specs.Settings.{SettingsData}
use Rattle.pd_port.specs.Port.{PortData, record_after}
use Rattle.pd_scenario.specs.Plan.{Plan, settings_of}
use Rattle.pd_run.specs.Live.{LiveData, at_budget, port_at, port_after}
use Rattle.pd_run.specs.Run.{Move, Standing, at_start, moved, standing_from}
use Rattle.pd_run.specs.Start.{no_port}
use Rattle.pd_keep.specs.declared.kept_move.Place.{Place}
use Rattle.pd_keep.specs.declared.kept_move.Place.TheVariants.{First, After}
use Rattle.pd_keep.specs.Kept.{KeptData, RunData, AreLast, AreLinked, IsKnown, IsLeft, IsOwn, left_by, left_from, move_of, moves_from}
use Rattle.pd_keep.specs.Places.{ArePlaced, StandAs}
use Rattle.pd_keep.specs.Rerun.{BeginsWithMarked}
use Rattle.pd_keep.specs.Spans.{BeginsAfter}

-- Places.

-- with one more move a port still stands at its place
left_more : (first : List PortData) (moves : List KeptData) (k : KeptData) (p : ℕ) (place : Place) (x : PortData)
    → IsLeft first moves p place x → IsLeft first (moves ++ k ∷ []) p place x
left_more first moves k p First x h = h
left_more first moves k p (After i) x h =
    let more = length_push moves k in
    let inside = h.0 in (
      omega (arith, more, inside),
      λ d. ap (λ (m : KeptData). m.after) (get_or-append moves (k ∷ []) d i inside) ∙ h.1 d,
    )

-- and that move's own port at that move
left_last : (first : List PortData) (moves : List KeptData) (k : KeptData) (p n : ℕ) (x : PortData) → n ≡ length moves → k.after ≡ x
    → IsLeft first (moves ++ k ∷ []) p (After n) x
left_last first moves k p n x count after =
    let more = length_push moves k in (
      omega (arith, more, count),
      λ d. ap (λ i. (slice_index_or (moves ++ k ∷ []) i d).after) count
          ∙ ap (λ (m : KeptData). m.after) (get_or-append_seam moves k [] d) ∙ after,
    )

-- at one place a port stands in one way
same_left : (first : List PortData) (moves : List KeptData) (p : ℕ) (place : Place) (x y : PortData) → IsLeft first moves p place x
    → IsLeft first moves p place y → x ≡ y
same_left first moves p First x y a b = sym a ∙ b
same_left first [] p (After i) x y a b = let inside = a.0 in absurd (omega (arith, inside))
same_left first (m ∷ ms) p (After i) x y a b = sym (a.1 m) ∙ b.1 m

-- a move before which its port stood at the place at which a port stands goes on from there
pub follows_is : (first : List PortData) (moves : List KeptData) (links : List Place) (i : ℕ) (place : Place) (x : PortData) (d : KeptData)
    → AreLinked first moves links → i < length moves → slice_index_or links i First ≡ place
    → IsLeft first moves ((slice_index_or moves i d).port - 1) place x → (slice_index_or moves i d).before ≡ x
follows_is first moves links i place x d h inside link left =
    let k : KeptData = slice_index_or moves i d in
    let before : IsLeft first moves (k.port - 1) place k.before =
    subst (λ (w : Place). IsLeft first moves (k.port - 1) w k.before) link (h.linked i d inside) in
    same_left first moves (k.port - 1) place k.before x before left

-- a port that stands at its last place stands as the moves leave it
pub leaves_is : (first : List PortData) (moves : List KeptData) (lasts : List Place) (p : ℕ) (place : Place) (x : PortData)
    → AreLast first moves lasts → p < 8 → slice_index_or lasts p First ≡ place → IsLeft first moves p place x → x ≡ left_by first moves p
leaves_is first moves lasts p place x h lt last left =
    let there : IsLeft first moves p place (left_by first moves p) =
    subst (λ (w : Place). IsLeft first moves p w (left_by first moves p)) last (h.last p lt) in
    same_left first moves p place x (left_by first moves p) left there

-- One more move.

pub linked_more : (first : List PortData) (moves : List KeptData) (links : List Place) (k : KeptData) (link : Place)
    → AreLinked first moves links → IsLeft first moves (k.port - 1) link k.before → AreLinked first (moves ++ k ∷ []) (links ++ link ∷ [])
linked_more first moves links k link h last =
    let count = h.count in
    let moves_more = length_push moves k in
    let links_more = length_push links link in
    let more : List KeptData = moves ++ k ∷ [] in
    record {
      count = omega (arith, count, moves_more, links_more);
      linked = λ i d lt.
          ⊎_elim
          (λ (same : i ≡ length moves).
          let link_is : slice_index_or (links ++ link ∷ []) i First ≡ link =
          ap (λ n. slice_index_or (links ++ link ∷ []) n First) (same ∙ sym count) ∙ get_or-append_seam links link [] First in
          let move_is : slice_index_or more i d ≡ k = ap (λ n. slice_index_or more n d) same ∙ get_or-append_seam moves k [] d in
          subst (λ (w : Place). IsLeft first more ((slice_index_or more i d).port - 1) w (slice_index_or more i d).before) (sym link_is)
          (subst (λ (m : KeptData). IsLeft first more (m.port - 1) link m.before) (sym move_is)
          (left_more first moves k (k.port - 1) link k.before last)))
          (λ (other : i ≢ length moves).
          let inside : i < length moves = omega (arith, moves_more, lt) in
          let link_is : slice_index_or (links ++ link ∷ []) i First ≡ slice_index_or links i First =
          get_or-append links (link ∷ []) First i (omega (arith, count)) in
          let move_is : slice_index_or more i d ≡ slice_index_or moves i d = get_or-append moves (k ∷ []) d i inside in
          let m : KeptData = slice_index_or moves i d in
          subst (λ (w : Place). IsLeft first more ((slice_index_or more i d).port - 1) w (slice_index_or more i d).before) (sym link_is)
          (subst (λ (y : KeptData). IsLeft first more (y.port - 1) (slice_index_or links i First) y.before) (sym move_is)
          (left_more first moves k (m.port - 1) (slice_index_or links i First) m.before (h.linked i d inside))))
          (cases_eq i (length moves));
    }

left_from-push : (x : PortData) (moves : List KeptData) (k : KeptData) (p : ℕ)
    → left_from x (moves ++ k ∷ []) p ≡ cond (eqb (k.port - 1) p) k.after (left_from x moves p)
left_from-push x [] k p = refl
left_from-push x (m ∷ ms) k p = left_from-push (cond (eqb (m.port - 1) p) m.after x) ms k p

left_own : (first : List PortData) (moves : List KeptData) (k : KeptData) (p : ℕ) → k.port - 1 ≡ p
    → left_by first (moves ++ k ∷ []) p ≡ k.after
left_own first moves k p e = left_from-push (slice_index_or first p no_port) moves k p
    ∙ cond-true (eqb (k.port - 1) p) k.after (left_by first moves p) (eq-eqb (k.port - 1) p e)

left_other : (first : List PortData) (moves : List KeptData) (k : KeptData) (p : ℕ) → k.port - 1 ≢ p
    → left_by first (moves ++ k ∷ []) p ≡ left_by first moves p
left_other first moves k p e = left_from-push (slice_index_or first p no_port) moves k p
    ∙ cond-false (eqb (k.port - 1) p) k.after (left_by first moves p) (ne_eqb (k.port - 1) p e)

pub last_more : (first : List PortData) (moves : List KeptData) (lasts : List Place) (k : KeptData) (p n : ℕ) → AreLast first moves lasts
    → k.port - 1 ≡ p → p < 8 → n ≡ length moves → AreLast first (moves ++ k ∷ []) (slice_set lasts p (After n))
last_more first moves lasts k p n h own known place_is =
    let w = After n in
    let more : List KeptData = moves ++ k ∷ [] in
    let count = h.count in
    record {
      count = length-set lasts p w ∙ count;
      last = λ q lt.
          ⊎_elim
          (λ (same : q ≡ p).
          let place : slice_index_or (slice_set lasts p w) q First ≡ w =
          ap (λ i. slice_index_or (slice_set lasts p w) i First) same ∙ get_or-set_same lasts p w First (omega (arith, count)) in
          subst (λ (v : Place). IsLeft first more q v (left_by first more q)) (sym place)
          (left_last first moves k q n (left_by first more q) place_is (sym (left_own first moves k q (own ∙ sym same)))))
          (λ (other : q ≢ p).
          let place : slice_index_or (slice_set lasts p w) q First ≡ slice_index_or lasts q First =
          get_or-set_other lasts p q w First other in
          let left : left_by first more q ≡ left_by first moves q =
          left_other first moves k q (λ (e : k.port - 1 ≡ q). other (sym e ∙ own)) in
          subst (λ (v : Place). IsLeft first more q v (left_by first more q)) (sym place)
          (subst (λ (y : PortData). IsLeft first more q (slice_index_or lasts q First) y) (sym left)
          (left_more first moves k q (slice_index_or lasts q First) (left_by first moves q) (h.last q lt))))
          (cases_eq q p);
    }

-- A list that is gone through.

-- what holds of each place so far holds of one more
pub each_more : {X : Type 0} (P : ℕ → X → Type 0) (xs : List X) (i : ℕ) (v d : X) → i < length xs
    → ((p : ℕ) → p < i → P p (slice_index_or xs p d)) → P i v → (p : ℕ) → p < i + 1 → P p (slice_index_or (slice_set xs i v) p d)
each_more P xs i v d inside h last = λ p lt.
    ⊎_elim
    (λ (same : p ≡ i).
    subst (λ q. P q (slice_index_or (slice_set xs i v) q d)) (sym same) (subst (P i) (sym (get_or-set_same xs i v d inside)) last))
    (λ (other : p ≢ i). subst (P p) (sym (get_or-set_other xs i p v d other)) (h p (omega arith)))
    (cases_eq p i)

-- Ports that run.

-- so many ports stand as a span leaves them
abbrev pub AreLeft : ℕ → RunData → LiveData → Type 0
AreLeft n span live = (p : ℕ) → p < n → port_at live p ≡ left_by span.first span.moves p

-- a port has moved
pub left_moved : (n : ℕ) (span new : RunData) (live after : LiveData) (p : ℕ) (k : KeptData) (z : PortData) → length live.ports ≡ n
    → p < n → k.port - 1 ≡ p → k.after ≡ z → after.ports ≡ slice_set live.ports p z → new.first ≡ span.first
    → new.moves ≡ span.moves ++ k ∷ [] → AreLeft n span live → AreLeft n new after
left_moved n span new live after p k z count known own k_is ports first moves h = λ q lt.
    let both : left_by new.first new.moves q ≡ left_by span.first (span.moves ++ k ∷ []) q =
    ap (λ (l : List PortData). left_by l new.moves q) first ∙ ap (λ (l : List KeptData). left_by span.first l q) moves in
    ⊎_elim
    (λ (same : q ≡ p).
    let port : port_at after q ≡ z =
    ap (λ (l : List PortData). slice_index_or l q no_port) ports ∙ ap (λ i. slice_index_or (slice_set live.ports p z) i no_port) same
    ∙ get_or-set_same live.ports p z no_port (omega (arith, count)) in
    port ∙ sym k_is ∙ sym (left_own span.first span.moves k q (own ∙ sym same)) ∙ sym both)
    (λ (other : q ≢ p).
    let port : port_at after q ≡ port_at live q =
    ap (λ (l : List PortData). slice_index_or l q no_port) ports ∙ get_or-set_other live.ports p q z no_port other in
    port ∙ h q lt ∙ sym (left_other span.first span.moves k q (λ (e : k.port - 1 ≡ q). other (sym e ∙ own))) ∙ sym both)
    (cases_eq q p)

-- the budget doesn't matter
pub placed_at_budget : (n : ℕ) (old : RunData) (places : List (Option Place)) (live : LiveData) (budget : ℕ) → ArePlaced n old places live
    → ArePlaced n old places (at_budget live budget)
placed_at_budget n old places live budget h = record { count = h.count; placed = h.placed }

pub placed_more : (n : ℕ) (old : RunData) (places : List (Option Place)) (live after : LiveData) (p : ℕ) (z : PortData)
    (found : Option Place) → n ≤ 8 → length live.ports ≡ n → p < n → after.ports ≡ slice_set live.ports p z
    → IsKnown old.first old.moves p found z → ArePlaced n old places live → ArePlaced n old (slice_set places p found) after
placed_more n old places live after p z found few count known ports left h = record {
  count = length-set places p found ∙ h.count;
  placed = λ q lt.
      let enough = h.count in
      ⊎_elim
      (λ (same : q ≡ p).
      let place : slice_index_or (slice_set places p found) q None ≡ found =
      ap (λ i. slice_index_or (slice_set places p found) i None) same ∙ get_or-set_same places p found None (omega arith) in
      let port : port_at after q ≡ z =
      ap (λ (l : List PortData). slice_index_or l q no_port) ports ∙ ap (λ i. slice_index_or (slice_set live.ports p z) i no_port) same
      ∙ get_or-set_same live.ports p z no_port (omega (arith, count)) in
      subst (λ (v : Option Place). IsKnown old.first old.moves q v (port_at after q)) (sym place)
      (subst (λ (x : PortData). IsKnown old.first old.moves q found x) (sym port)
      (subst (λ i. IsKnown old.first old.moves i found z) (sym same) left)))
      (λ (other : q ≢ p).
      let place : slice_index_or (slice_set places p found) q None ≡ slice_index_or places q None =
      get_or-set_other places p q found None other in
      let port : port_at after q ≡ port_at live q =
      ap (λ (l : List PortData). slice_index_or l q no_port) ports ∙ get_or-set_other live.ports p q z no_port other in
      subst (λ (v : Option Place). IsKnown old.first old.moves q v (port_at after q)) (sym place)
      (subst (λ (x : PortData). IsKnown old.first old.moves q (slice_index_or places q None) x) (sym port) (h.placed q lt)))
      (cases_eq q p);
}

-- ports with which a span begins stand at its beginning
pub placed_first : (n : ℕ) (old : RunData) (alike : List Bool) (places : List (Option Place)) (live : LiveData) → n ≤ 8
    → length places ≡ 8 → ((p : ℕ) → p < 8 → slice_index_or places p None ≡ cond (slice_index_or alike p false) (Some First) None)
    → BeginsWithMarked n old live alike → ArePlaced n old places live
placed_first n old alike places live few count are h = record {
  count = count;
  placed = λ p lt.
      ⊎_elim
      (λ (yes : slice_index_or alike p false ≡ true).
      let place : slice_index_or places p None ≡ Some First =
      are p (omega arith) ∙ cond-true (slice_index_or alike p false) (Some First) None yes in
      subst (λ (v : Option Place). IsKnown old.first old.moves p v (port_at live p)) (sym place) (h p lt yes).1)
      (λ (no : slice_index_or alike p false ≡ false).
      let place : slice_index_or places p None ≡ None =
      are p (omega arith) ∙ cond-false (slice_index_or alike p false) (Some First) None no in
      subst (λ (v : Option Place). IsKnown old.first old.moves p v (port_at live p)) (sym place) tt)
      (cases_Bool (slice_index_or alike p false));
}

-- those that are known to stand as it leaves them are marked
pub alike_then : (n : ℕ) (old : RunData) (places : List (Option Place)) (marks : List Bool) (live : LiveData) → n ≤ 8
    → ArePlaced n old places live
    → ((p : ℕ) → p < 8 → slice_index_or marks p false ≡ true → (x : PortData)
    → IsKnown old.first old.moves p (slice_index_or places p None) x → x ≡ left_by old.first old.moves p)
    → StandAs n marks live (left_by old.first old.moves)
alike_then n old places marks live few placed known = λ p lt yes. known p (omega arith) yes (port_at live p) (placed.placed p lt)

-- where none is marked
pub unmarked : (p : ℕ) → p < 8 → slice_index_or (replicate 8 false) p false ≡ true → ⊥
unmarked p lt marked = let none : false ≡ true = sym (get_or-replicate 8 p false false lt) ∙ marked in cc

-- What moves leave is where the run stands.

standing-append : (plan : Plan) (s : Standing) (past moves : List Move) (p : ℕ)
    → standing_from plan s (past ++ moves) p ≡ standing_from plan (standing_from plan s past p) moves p
standing-append plan s [] moves p = refl
standing-append plan s (x ∷ xs) moves p = standing-append plan (cond (eqb x.port p) (moved plan s x) s) xs moves p

port_of : SettingsData → Standing → PortData
port_of settings s = record { settings = settings; port_record = s.state }

own_left : (plan : Plan) (k : KeptData) (s : Standing) (p : ℕ) → IsOwn plan k → k.port - 1 ≡ p
    → k.after ≡ port_of (settings_of plan p) (moved plan s (move_of k))
unfolding port_of
own_left plan k s p own e =
    ap (λ (x : KeptData). x.after) own.made
    ∙ ap
    (λ (c : SettingsData).
    let x : PortData = record { settings = c; port_record = record_after c k.before.port_record k.due k.answer } in x)
    own.settings
    ∙ ap
    (λ (c : SettingsData).
    let x : PortData =
    record { settings = c; port_record = record_after (settings_of plan (k.port - 1)) k.before.port_record k.due k.answer } in x)
    (ap (settings_of plan) e)

left_stands : (plan : Plan) (kept : List KeptData) (x : PortData) (s : Standing) (p : ℕ) → All (IsOwn plan) kept
    → x ≡ port_of (settings_of plan p) s
    → left_from x kept p ≡ port_of (settings_of plan p) (standing_from plan s (map move_of kept) p)
left_stands plan [] x s p own h = h
left_stands plan (k ∷ ks) x s p own h =
    let rest : All (IsOwn plan) ks = λ i d lt. own (suc i) d (omega arith) in
    let y : PortData = cond (eqb (k.port - 1) p) k.after x in
    let t : Standing = cond (eqb (k.port - 1) p) (moved plan s (move_of k)) s in
    left_stands plan ks y t p rest
    (⊎_elim
    (λ (same : k.port - 1 ≡ p).
    let test = eq-eqb (k.port - 1) p same in
    cond-true (eqb (k.port - 1) p) k.after x test ∙ own_left plan k s p (own zero k (omega arith)) same
    ∙ ap (port_of (settings_of plan p)) (sym (cond-true (eqb (k.port - 1) p) (moved plan s (move_of k)) s test)))
    (λ (other : k.port - 1 ≢ p).
    let test = ne_eqb (k.port - 1) p other in
    cond-false (eqb (k.port - 1) p) k.after x test ∙ h
    ∙ ap (port_of (settings_of plan p)) (sym (cond-false (eqb (k.port - 1) p) (moved plan s (move_of k)) s test)))
    (cases_eq (k.port - 1) p))

-- a span that begins with the ports of a run leaves them as its moves do
pub left_after : (n : ℕ) (plan : Plan) (past : List Move) (span : RunData) (p : ℕ) → BeginsAfter n plan past span
    → All (IsOwn plan) span.moves → p < n → left_by span.first span.moves p ≡ port_after plan (past ++ map move_of span.moves) p
unfolding port_of
left_after n plan past span p begun own lt =
    left_stands plan span.moves (slice_index_or span.first p no_port) (standing_from plan (at_start plan p) past p) p own
    (begun.ports p lt)
    ∙ ap (port_of (settings_of plan p)) (sym (standing-append plan (at_start plan p) past (map move_of span.moves) p))

-- the moves from a place on, with one more
pub moves_from-more : (moves : List KeptData) (from at : ℕ) (d : KeptData) → from ≤ at → at < length moves
    → moves_from moves from ((at + 1) - from) ≡ moves_from moves from (at - from) ++ slice_index_or moves at d ∷ []
moves_from-more moves from at d le lt =
    let n = at - from in
    let there : from + n ≡ at = omega arith in
    let more : (at + 1) - from ≡ n + 1 = omega arith in
    let long = length-drop from moves in
    ap (λ k. take k (drop from moves)) more ∙ take_more (drop from moves) n d (omega arith)
    ∙ ap (λ (k : KeptData). take n (drop from moves) ++ k ∷ [])
    (get_or-drop from moves n d ∙ ap (λ i. get_or moves i d) there)
