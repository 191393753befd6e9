-- Ports that follow an older run through a span.
use Rattle.std.proofs.Common.{◌≡◌, ◌≢◌, ⊎_elim, ℕ, ◌+◌, ◌-◌, ◌<◌, ◌≤◌, Bool, true, false, List, [], ◌∷◌, ◌++◌, length}
use Rattle.std.proofs.Common.{Option, None, refl, ap, sym, ◌∙◌, subst, arith, get_or, set, take, drop, replicate, slice_index_or}
use Rattle.std.proofs.Common.{MatchOption, Some, inl, inr, slice_index, slice_set, zero, suc, map, append_assoc}
use Rattle.std.proofs.lemmas.List.{get_or-set_same, get_or-set_other, length-set, get_or-take, get_or-replicate, length-replicate}
use Rattle.std.proofs.lemmas.List.{length-take}
use Rattle.std.proofs.Math.ListN.{get_or-append}
use Rattle.std.proofs.lemmas.Bool.{cases_eq, cases_lt}
use Rattle.pd_port.specs.declared.due.Due.{Due}
use Rattle.pd_port.specs.Port.{PortData, hold, is_event}
use Rattle.pd_setup.specs.Settings.{SettingsData}
use Rattle.pd_ledger.specs.Account.{Account}
use Rattle.pd_scenario.specs.Plan.{Plan, IsPlan, count, settings_of, script_of, force}
use Rattle.pd_run.specs.Run.{Move, Run, standing, after, IsAnswered, IsInOrder, GoesOn}
use Rattle.pd_run.specs.UpTo.{before, until, IsUpTo, PortIsAlike}
use Rattle.pd_run.proofs.Alike.{between}
use Rattle.pd_run.proofs.Cut.{EachAfter-back, run_up_to}
use Rattle.pd_run.proofs.Taken.{taken_is}
use Rattle.pd_run.specs.Held.{HoldsOn}
use Rattle.pd_run.specs.Live.{LiveData, StandsAfter, StandsBut, taken_up, port_at, port_after, next_move, followed, had_with}
use Rattle.pd_run.proofs.Follow.{StandsBut-all, StandsBut-taken_up, StandsBut-followed, on_whole, on_live, passed_is, is_next_move}
use Rattle.pd_run.proofs.Follow.{IsFollowed, alike_skip}
use Rattle.pd_run.proofs.Held.{unasked}
use Rattle.pd_run.proofs.Steps.{taken_few}
use Rattle.pd_run.proofs.StepsLeft.{steps_left_less}
use Rattle.pd_port.specs.declared.due.What.TheVariants as what
use Rattle.pd_run.specs.Start.{no_port}
use Rattle.pd_keep.specs.declared.kept_move.Brief.{Brief}
use Rattle.pd_keep.specs.Following.{IsPassing, HasPassed, CanFollow, ComesAfter, ComesFirst, GoBeside}
use Rattle.pd_keep.specs.Kept.{KeptData, RunData, IsBrief, KeepsHold, kept_of, move_of, held_by}
use Rattle.pd_keep.proofs.Asked.{hold_left}

-- stands where there is no move
pub some_kept : KeptData
some_kept = kept_of 0 no_port (record { time = 0; what = what.Line }) None

-- no move comes both before and after what is next on other ports
pub not_both : (k : KeptData) (own : Option (ℕ × Due)) → ComesFirst k own → MatchOption own ⊥ (λ r. ComesAfter k r.0 r.1) → ⊥
not_both k None first after = after
not_both k (Some r) (inl earlier) (inl later) = omega arith
not_both k (Some r) (inl earlier) (inr same) = omega (arith, same.0)
not_both k (Some r) (inr same) (inl later) = omega (arith, same.0)
not_both k (Some r) (inr same) (inr too) = omega (arith, same.1, too.1)

-- of two briefs of a move both stir or neither
stirs_where : (k : KeptData) (b c : Brief) (stirs : Bool) → c.stirs ≡ stirs → IsBrief k b → IsBrief k c → b.stirs ≡ true → stirs ≡ true
stirs_where k b c true is one other told = refl
stirs_where k b c false is one other told = absurd (let quiet = one.quiet.1 (other.quiet.0 is) in cc)

pub both_stir : (k : KeptData) (b c : Brief) → IsBrief k b → IsBrief k c → b.stirs ≡ true → c.stirs ≡ true
both_stir k b c one other told = stirs_where k b c c.stirs refl one other told

-- Marks of ports.

-- other marks that are the same for each port
pub but_marks : (plan : Plan) (past : List Move) (away marks : List Bool) (whole live : LiveData) → StandsBut plan past away whole live
    → ((p : ℕ) → p < count plan → slice_index_or marks p false ≡ slice_index_or away p false) → StandsBut plan past marks whole live
but_marks plan past away marks whole live b same = record {
  stands = b.stands;
  ports_count = b.ports_count;
  dues_count = b.dues_count;
  taken_is = b.taken_is;
  account_is = b.account_is;
  ports_are = λ p lt here. b.ports_are p lt (sym (same p lt) ∙ here);
  dues_are = λ p lt here. b.dues_are p lt (sym (same p lt) ∙ here);
  gone = λ p lt there. b.gone p lt (sym (same p lt) ∙ there);
}

-- the marks of the ports below one, and no others
pub below : (away : List Bool) (i q : ℕ) → q < i → get_or (take i away) q false ≡ get_or away q false
below away i q lt = get_or-take i away q false lt

past_end : {X : Type 0} (xs : List X) (i : ℕ) (d : X) → length xs ≤ i → get_or xs i d ≡ d
past_end [] i d le = refl
past_end (x ∷ xs) zero d le = absurd (omega arith)
past_end (x ∷ xs) (suc i) d le = past_end xs i d (omega arith)

pub none_from : (away : List Bool) (i q : ℕ) → i ≤ q → get_or (take i away) q false ≡ false
none_from away i q le = past_end (take i away) q false (let n = length-take i away in omega arith)

-- the marks of the ports from one on, and no others
abbrev pub marks_from : ℕ → List Bool → List Bool
marks_from i away = replicate i false ++ drop i away

pub from_on : (away : List Bool) (i q : ℕ) → i ≤ q → get_or (marks_from i away) q false ≡ get_or away q false
from_on away zero q le = refl
from_on [] (suc i) q le = before_all (suc i) q where
  before_all : (n k : ℕ) → get_or (replicate n false ++ []) k false ≡ false
  before_all zero k = refl
  before_all (suc n) zero = refl
  before_all (suc n) (suc k) = before_all n k
from_on (x ∷ xs) (suc i) zero le = absurd (omega arith)
from_on (x ∷ xs) (suc i) (suc q) le = from_on xs i q (omega arith)

pub none_below : (away : List Bool) (i q : ℕ) → q < i → get_or (marks_from i away) q false ≡ false
none_below away i q lt =
    get_or-append (replicate i false) (drop i away) false q (let n = length-replicate i false in omega arith)
    ∙ get_or-replicate i q false false lt

-- one more port follows
pub aside_more : (plan : Plan) (past : List Move) (away : List Bool) (whole live : LiveData) (i : ℕ) → i < count plan
    → i < length away → StandsBut plan past (take i away) whole live → get_or away i false ≡ true
    → StandsBut plan past (take (i + 1) away) whole (record live { dues = slice_set live.dues i None })
aside_more plan past away whole live i known room b marked =
    let dues : List (Option Due) = live.dues in
    record {
      stands = b.stands;
      ports_count = b.ports_count;
      dues_count = length-set dues i None ∙ b.dues_count;
      taken_is = b.taken_is;
      account_is = b.account_is;
      ports_are = λ q lt here. b.ports_are q lt (as_before q here);
      dues_are = λ q lt here. get_or-set_other dues i q None None (isnt q here) ∙ b.dues_are q lt (as_before q here);
      gone = λ q lt there.
          ⊎_elim
          (λ (same : q ≡ i). ap (λ k. get_or (set dues i None) k None) same ∙ get_or-set_same dues i None None (omega (
            arith,
            b.dues_count,
          )))
          (λ (other : q ≢ i). get_or-set_other dues i q None None other ∙ b.gone q lt (back q other there))
          (cases_eq q i);
    } where
      isnt : (q : ℕ) → slice_index_or (take (i + 1) away) q false ≡ false → q ≢ i
      isnt q here same = absurd (let h = ap (λ k. get_or (take (i + 1) away) k false) same
          ∙ below away (i + 1) i (omega arith) ∙ marked in cc)

      as_before : (q : ℕ) → slice_index_or (take (i + 1) away) q false ≡ false → slice_index_or (take i away) q false ≡ false
      as_before q here =
          ⊎_elim
          (λ (lt : q < i). below away i q lt ∙ sym (below away (i + 1) q (omega arith)) ∙ here)
          (λ (le : i ≤ q). none_from away i q le)
          (cases_lt q i)

      back : (q : ℕ) → q ≢ i → slice_index_or (take (i + 1) away) q false ≡ true → slice_index_or (take i away) q false ≡ true
      back q other there =
          ⊎_elim
          (λ (lt : q < i). below away i q lt ∙ sym (below away (i + 1) q (omega arith)) ∙ there)
          (λ (le : i ≤ q). absurd (let none = none_from away (i + 1) q (omega arith) in cc))
          (cases_lt q i)

-- or it doesn't
pub aside_same : (plan : Plan) (past : List Move) (away : List Bool) (whole live : LiveData) (i : ℕ)
    → StandsBut plan past (take i away) whole live → get_or away i false ≡ false → StandsBut plan past (take (i + 1) away) whole live
aside_same plan past away whole live i b unmarked =
    but_marks plan past (take i away) (take (i + 1) away) whole live b (λ q lt.
    ⊎_elim
    (λ (below_it : q < i). below away (i + 1) q (omega arith) ∙ sym (below away i q below_it))
    (λ (le : i ≤ q).
    ⊎_elim
    (λ (same : q ≡ i). ap (λ k. get_or (take (i + 1) away) k false) same ∙ below away (i + 1) i (omega arith) ∙ unmarked
    ∙ sym (none_from away i q le))
    (λ (other : q ≢ i). none_from away (i + 1) q (omega arith) ∙ sym (none_from away i q le))
    (cases_eq q i))
    (cases_lt q i))

-- one that followed moves for itself
pub up_more : (plan : Plan) (past : List Move) (away : List Bool) (whole live : LiveData) (i : ℕ) (x : PortData) → i < count plan
    → i < length away → StandsBut plan past (marks_from i away) whole live → x ≡ port_at whole i
    → StandsBut plan past (marks_from (i + 1) away) whole (taken_up plan live i x)
up_more plan past away whole live i x known room b is =
    but_marks plan past (slice_set (marks_from i away) i false) (marks_from (i + 1) away) whole (taken_up plan live i x)
    (StandsBut-taken_up plan past (marks_from i away) whole live i x b known long is)
    (λ q lt.
    ⊎_elim
    (λ (same : q ≡ i).
    none_below away (i + 1) q (omega arith)
    ∙ sym (ap (λ k. get_or (set (marks_from i away) i false) k false) same ∙ get_or-set_same (marks_from i away) i false false long))
    (λ (other : q ≢ i).
    ⊎_elim
    (λ (below_it : q < i). none_below away (i + 1) q (omega arith)
    ∙ sym (get_or-set_other (marks_from i away) i q false false other ∙ none_below away i q below_it))
    (λ (le : i ≤ q). from_on away (i + 1) q (omega arith)
    ∙ sym (get_or-set_other (marks_from i away) i q false false other ∙ from_on away i q le))
    (cases_lt q i))
    (cases_eq q i)) where
      longer : (n : ℕ) (xs : List Bool) → n < length xs → n < length (marks_from n xs)
      longer zero xs lt = lt
      longer (suc n) [] lt = absurd (omega arith)
      longer (suc n) (y ∷ ys) lt = let k = longer n ys (omega arith) in omega arith

      long : i < length (marks_from i away)
      long = longer i away room

pub up_same : (plan : Plan) (past : List Move) (away : List Bool) (whole live : LiveData) (i : ℕ)
    → StandsBut plan past (marks_from i away) whole live → get_or away i false ≡ false
    → StandsBut plan past (marks_from (i + 1) away) whole live
up_same plan past away whole live i b unmarked =
    but_marks plan past (marks_from i away) (marks_from (i + 1) away) whole live b (λ q lt.
    ⊎_elim
    (λ (below_it : q < i). none_below away (i + 1) q (omega arith) ∙ sym (none_below away i q below_it))
    (λ (le : i ≤ q).
    ⊎_elim
    (λ (same : q ≡ i). none_below away (i + 1) q (omega arith) ∙ sym (from_on away i q le ∙ ap (λ k. get_or away k false) same ∙ unmarked))
    (λ (other : q ≢ i). from_on away (i + 1) q (omega arith) ∙ sym (from_on away i q le))
    (cases_eq q i))
    (cases_lt q i))

-- none follows yet
pub aside_none : (plan : Plan) (past : List Move) (away : List Bool) (live : LiveData) → StandsAfter plan past live
    → StandsBut plan past (take 0 away) live live
aside_none plan past away live s = StandsBut-all plan past [] live s (λ p lt. refl)

-- A move that passes.

-- a port has had few events where it passes for one
pub passing_few : (n : ℕ) (plan : Plan) (past : List Move) (away : List Bool) (whole live : LiveData) (k : KeptData) → IsPlan n plan
    → IsPassing plan past away whole live k → is_event k.due.what ≡ true → slice_index live.taken (k.port - 1) < 1000000
passing_few n plan past away whole live k is h event =
    let few = taken_few n plan past whole (k.port - 1) k.due is h.but.stands h.next.first.known h.next.first.is_due event in
    let same = ap (λ ts. slice_index ts (k.port - 1)) h.but.taken_is in
    omega arith

-- what the shared budget is told of it
pub passing_holds : (plan : Plan) (past : List Move) (away : List Bool) (whole live : LiveData) (k : KeptData) (left : ℕ)
    → IsPassing plan past away whole live k → left ≡ held_by k.after
    → HoldsOn plan past live.account (move_of k) k.port k.entry k.answer left
passing_holds plan past away whole live k left h left_is =
    let from_one = h.own.from_one in
    record {
      held = record {
        floors = ap (λ (a : Account). a.floors) h.but.account_is ∙ h.but.stands.floors_are;
        holds = ap (λ (a : Account). a.holds) h.but.account_is ∙ h.but.stands.holds_are;
      };
      goes = h.goes;
      port_is = omega arith;
      entry_is = refl;
      answer_is = refl;
      left_is = left_is ∙ hold_left plan k h.own;
    }

-- where it is answered, the ports stand after it
passed_to : (n : ℕ) (plan : Plan) (past : List Move) (away : List Bool) (whole live : LiveData) (k : KeptData) (budget left : ℕ)
    → IsPlan n plan → IsPassing plan past away whole live k → IsAnswered plan past (move_of k) → left ≡ held_by k.after
    → HasPassed plan past away whole (on_live live (k.port - 1) k.due budget left) k
passed_to n plan past away whole live k budget left is h answered left_is =
    let p = k.port - 1 in
    let d = k.due in
    let then : LiveData = on_whole plan whole p d budget in
    let same : move_of k ≡ next_move plan past p d = is_next_move plan past (move_of k) h.goes answered in
    let held : left ≡ hold (settings_of plan p) (after plan (next_move plan past p d)) =
    left_is ∙ hold_left plan k h.own ∙ ap (λ (m : Move). hold (settings_of plan p) (after plan m)) same in
    let on = StandsBut-followed n plan past away whole live k.port d budget left is h.but h.there h.next held in
    record {
      then = then;
      but = subst (λ (m : Move). StandsBut plan (past ++ m ∷ []) away then (on_live live p d budget left)) (sym same) on;
      answered = answered;
      less = steps_left_less n plan past whole then p d is h.but.stands h.next.first on.stands;
    }

-- one that is answered and keeps its port's hold leaves the shared budget as it is
pub passed_still : (n : ℕ) (plan : Plan) (past : List Move) (away : List Bool) (whole live : LiveData) (k : KeptData) (b : Brief)
    → IsPlan n plan → IsPassing plan past away whole live k → IsBrief k b → IsAnswered plan past (move_of k) → KeepsHold k
    → HasPassed plan past away whole
    (record live { taken = slice_set live.taken (b.port - 1) (had_with (slice_index live.taken (b.port - 1)) b.is_event) }) k
passed_still n plan past away whole live k b is h brief answered keeps =
    let p = k.port - 1 in
    let left : ℕ = held_by k.after in
    let held : left ≡ hold (settings_of plan p) (standing plan past p).state =
    keeps ∙ ap (λ (s : SettingsData). hold s k.before.port_record) h.own.settings
    ∙ ap (hold (settings_of plan p)) h.goes.before_is in
    let on = passed_to n plan past away whole live k live.account.budget left is h answered refl in
    let at : on_live live p k.due live.account.budget left
    ≡ record live { taken = slice_set live.taken p (had_with (slice_index live.taken p) (is_event k.due.what)) } =
    passed_is plan past away whole live k.port k.due left h.but h.next.first.known held in
    let told : record live { taken = slice_set live.taken p (had_with (slice_index live.taken p) (is_event k.due.what)) }
    ≡ record live { taken = slice_set live.taken (b.port - 1) (had_with (slice_index live.taken (b.port - 1)) b.is_event) } =
    ap (λ e. record live { taken = slice_set live.taken p (had_with (slice_index live.taken p) e) }) (sym brief.event)
    ∙ ap (λ q. record live { taken = slice_set live.taken (q - 1) (had_with (slice_index live.taken (q - 1)) b.is_event) })
    (sym brief.port) in
    subst (λ (l : LiveData). HasPassed plan past away whole l k) (at ∙ told) on

-- a quiet one does
pub passed_quiet : (n : ℕ) (plan : Plan) (past : List Move) (away : List Bool) (whole live : LiveData) (k : KeptData) (b : Brief)
    → IsPlan n plan → IsPassing plan past away whole live k → IsBrief k b → b.stirs ≡ false
    → HasPassed plan past away whole
    (record live { taken = slice_set live.taken (b.port - 1) (had_with (slice_index live.taken (b.port - 1)) b.is_event) }) k
passed_quiet n plan past away whole live k b is h brief none =
    let quiet = brief.quiet.0 none in
    passed_still n plan past away whole live k b is h brief
    (unasked plan past (move_of k) h.goes quiet.unasked quiet.unanswered) quiet.same_hold

-- and another, answered as before, as it leaves it
pub passed_answered : (n : ℕ) (plan : Plan) (past : List Move) (away : List Bool) (whole live then : LiveData) (k : KeptData) (left : ℕ)
    → IsPlan n plan → IsPassing plan past away whole live k → IsAnswered plan past (move_of k) → left ≡ held_by k.after
    → then ≡ followed plan live (k.port - 1) k.due left → HasPassed plan past away whole then k
passed_answered n plan past away whole live then k left is h answered left_is e =
    subst (λ (l : LiveData). HasPassed plan past away whole l k) (sym e)
    (passed_to n plan past away whole live k (force plan k.due.time) left is h answered left_is)

-- Where the old run is.

-- the old run goes on with the moves of its span, and then with others
pub followed_by : (n : ℕ) (a : Plan) (all : List Move) (old : RunData) (b : Plan) (past : List Move) (from : ℕ)
    → GoBeside n a all old b past from
    → (rest : List Move) × IsFollowed a b (before from all) (map move_of old.moves) rest old.to
followed_by n a all old b past from h =
    let front : List Move = before from all in
    let mid : List Move = map move_of old.moves in
    let w = between a all mid from old.to h.run h.is_between in
    let whole : Run a (front ++ (mid ++ w.rest)) =
    subst (Run a) (w.whole ∙ append_assoc front mid w.rest) h.run in (
      w.rest,
      record {
        left = record {
          chained = EachAfter-back (GoesOn a) [] front (mid ++ w.rest) whole.chained;
          ordered = EachAfter-back IsInOrder [] front (mid ++ w.rest) whole.ordered;
          answered = EachAfter-back (IsAnswered a) [] front (mid ++ w.rest) whole.answered;
          timely = EachAfter-back (λ _ m. m.due.time ≤ a.end) [] front (mid ++ w.rest) whole.timely;
          complete = whole.complete;
        };
        up = subst (λ (l : List Move). IsUpTo a l old.to) h.is_between (run_up_to a all old.to h.run);
        early = λ k d lt. (w.inside k d lt).1;
        ends = h.scripts.ends;
      },
    )

-- ports that stand as the old run's do, and have the same scripts, stand alike
pub begins_alike : (n : ℕ) (a : Plan) (all : List Move) (old : RunData) (b : Plan) (past : List Move) (from : ℕ) (alike : List Bool)
    (share : Bool) (live : LiveData) (p : ℕ) → CanFollow n a all old b past from alike share live → p < n
    → slice_index_or alike p false ≡ true
    → PortIsAlike a b (before from all) past p old.to
begins_alike n a all old b past from alike share live p h lt there =
    let w = h.beside in
    let known_a : p < count a = omega (arith, w.is_plan.settings_count) in
    let known_b : p < count b = omega (arith, w.is_plan_too.settings_count) in
    let same : port_after a (before from all) p ≡ port_after b past p =
    sym (w.begun.ports p lt) ∙ (h.known p lt there).1 ∙ h.stands.ports_are p known_b in
    let had_a = taken_is a (before from all) from p (run_up_to a all from w.run) w.soon known_a in
    let had_b = taken_is b past from p w.up w.soon_too known_b in
    record {
      settings = ap (λ (x : PortData). x.settings) same;
      records = ap (λ (x : PortData). x.port_record) same;
      events = ap (λ k. until old.to (drop k (script_of a p))) had_a ∙ w.scripts.events p known_a
          ∙ ap (λ k. until old.to (drop k (script_of b p))) (sym had_b);
    }

-- moves of ports that don't follow leave one that does alike
pub skipped : (a b : Plan) (past mid others : List Move) (to i : ℕ) (q : ℕ) (d : Move) (n : ℕ) → i + n ≤ length mid → q < count b
    → ((j : ℕ) → i ≤ j → j < i + n → (get_or mid j d).port ≢ q) → PortIsAlike a b (past ++ take i mid) others q to
    → PortIsAlike a b (past ++ take (i + n) mid) others q to
skipped a b past mid others to i q d zero le known others_are h =
    subst (λ k. PortIsAlike a b (past ++ take k mid) others q to) (omega arith) h
skipped a b past mid others to i q d (suc n) le known others_are h =
    subst (λ k. PortIsAlike a b (past ++ take k mid) others q to) (omega arith)
    (alike_skip a b past mid others to (i + n) q d (omega arith) known (others_are (i + n) (omega arith) (omega arith))
    (skipped a b past mid others to i q d n (omega arith) known (λ j ge lt. others_are j ge (omega arith)) h))
