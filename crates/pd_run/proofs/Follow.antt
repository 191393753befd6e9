-- Ports of whom some follow another run.
use Rattle.std.proofs.Common.{◌≡◌, ◌≢◌, ⊎_elim, ℕ, ◌-◌, ◌<◌, ◌≤◌, Bool, true, false, List, [], ◌∷◌, ◌++◌, length, Option, None, Some}
use Rattle.std.proofs.Common.{refl, ap, sym, ◌∙◌, subst, arith, get_or, set, slice_index, slice_index_or, slice_set, slice_get}
use Rattle.std.proofs.Common.{All, append_assoc, drop, take, zero, suc, ◌+◌}
use Rattle.std.proofs.lemmas.List.{get_or-set_same, get_or-set_other, length-set, set-get_or, append-nil}
use Rattle.std.proofs.lemmas.List.{take-append-le, take_more, drop_more}
use Rattle.std.proofs.Math.ListN.{get_or-append}
use Rattle.std.proofs.lemmas.Bool.{cases_eq, cases_lt, cases_Bool}
use Rattle.std.proofs.lemmas.Option.{same_Some}
use Rattle.pd_port.specs.declared.due.Due.{Due}
use Rattle.pd_port.specs.Port.{PortData, due, hold}
use Rattle.pd_ledger.specs.Account.{Account}
use Rattle.pd_scenario.specs.Plan.{Plan, IsPlan, count, settings_of, script_of, force}
use Rattle.pd_run.specs.Order.{EachAfter, IsNoLater}
use Rattle.pd_run.specs.Run.{Move, standing, after, taken_after, due_after, GoesOn, IsAnswered}
use Rattle.pd_run.specs.UpTo.{IsUpTo, PortIsAlike}
use Rattle.pd_run.proofs.Alike.{EndTogether, in_both_back, each_goes_on_alike}
use Rattle.pd_run.proofs.OneRun.{Rest, tail, first_first, same_move}
use Rattle.pd_run.specs.Start.{no_port}
use Rattle.pd_run.specs.Live.{LiveData, StandsAfter, StandsBut, IsNext, IsNextBeside, at_budget, port_at, due_at, next_move, moved_port}
use Rattle.pd_run.specs.Live.{moved_live, taken_up}
use Rattle.pd_run.proofs.Steps.{StandsAfter-budget, IsNext-budget, StandsAfter-moved, moved_beside, moved_known, moved_hold, hold_known}

-- A list with one member changed, read at a place.

at_set : {X : Type 0} (xs : List X) (p q : ℕ) (y d : X) → p < length xs → q ≡ p → get_or (set xs p y) q d ≡ y
at_set xs p q y d inside same = ap (λ i. get_or (set xs p y) i d) same ∙ get_or-set_same xs p y d inside

-- where none is marked, the ports stand after all moves
pub StandsBut-none : (plan : Plan) (past : List Move) (away : List Bool) (whole live : LiveData) → StandsBut plan past away whole live
    → ((p : ℕ) → p < count plan → slice_index_or away p false ≡ false) → StandsAfter plan past live
StandsBut-none plan past away whole live b none =
    let s = b.stands in
    record {
      runs = s.runs;
      ports_count = b.ports_count;
      taken_count = ap length b.taken_is ∙ s.taken_count;
      ports_are = λ p lt. b.ports_are p lt (none p lt) ∙ s.ports_are p lt;
      taken_are = λ p lt. ap (λ ts. slice_index ts p) b.taken_is ∙ s.taken_are p lt;
      dues_count = b.dues_count;
      dues_are = λ p lt. b.dues_are p lt (none p lt) ∙ s.dues_are p lt;
      floors_are = ap (λ (a : Account). a.floors) b.account_is ∙ s.floors_are;
      holds_are = ap (λ (a : Account). a.holds) b.account_is ∙ s.holds_are;
    }

-- ports that stand after all moves, of whom none follows yet
pub StandsBut-all : (plan : Plan) (past : List Move) (away : List Bool) (live : LiveData) → StandsAfter plan past live
    → ((p : ℕ) → p < count plan → slice_index_or away p false ≡ false) → StandsBut plan past away live live
StandsBut-all plan past away live s none = record {
  stands = s;
  ports_count = s.ports_count;
  dues_count = s.dues_count;
  taken_is = refl;
  account_is = refl;
  ports_are = λ p lt here. refl;
  dues_are = λ p lt here. refl;
  gone = λ p lt there. absurd (let h = none p lt in cc);
}

-- one that followed moves for itself, from where it stands
pub StandsBut-taken_up : (plan : Plan) (past : List Move) (away : List Bool) (whole live : LiveData) (p : ℕ) (x : PortData)
    → StandsBut plan past away whole live → p < count plan → p < length away → x ≡ port_at whole p
    → StandsBut plan past (slice_set away p false) whole (taken_up plan live p x)
StandsBut-taken_up plan past away whole live p x b known room x_is =
    let s = b.stands in
    let ports : List PortData = live.ports in
    let dues : List (Option Due) = live.dues in
    let next : Option Due = due x.port_record (slice_get (script_of plan p) (slice_index live.taken p)) in
    let taken : slice_index live.taken p ≡ (standing plan past p).taken = ap (λ ts. slice_index ts p) b.taken_is ∙ s.taken_are p known in
    let next_is : next ≡ due_at whole p =
    ap (λ (z : PortData). due z.port_record (slice_get (script_of plan p) (slice_index live.taken p))) (x_is ∙ s.ports_are p known)
    ∙ ap (λ k. due (standing plan past p).state (slice_get (script_of plan p) k)) taken ∙ sym (s.dues_are p known) in
    record {
      stands = s;
      ports_count = length-set ports p x ∙ b.ports_count;
      dues_count = length-set dues p next ∙ b.dues_count;
      taken_is = b.taken_is;
      account_is = b.account_is;
      ports_are = λ q lt here.
          ⊎_elim
          (λ (same : q ≡ p). at_set ports p q x no_port (omega (arith, b.ports_count)) same ∙ x_is ∙ ap (port_at whole) (sym same))
          (λ (other : q ≢ p). get_or-set_other ports p q x no_port other
          ∙ b.ports_are q lt (sym (get_or-set_other away p q false false other) ∙ here))
          (cases_eq q p);
      dues_are = λ q lt here.
          ⊎_elim
          (λ (same : q ≡ p). at_set dues p q next None (omega (arith, b.dues_count)) same ∙ next_is ∙ ap (due_at whole) (sym same))
          (λ (other : q ≢ p). get_or-set_other dues p q next None other
          ∙ b.dues_are q lt (sym (get_or-set_other away p q false false other) ∙ here))
          (cases_eq q p);
      gone = λ q lt there.
          let other : q ≢ p = λ same. absurd (let h = at_set away p q false false room same in cc) in
          get_or-set_other dues p q next None other ∙ b.gone q lt (sym (get_or-set_other away p q false false other) ∙ there);
    }

-- with another shared budget
pub StandsBut-budget : (plan : Plan) (past : List Move) (away : List Bool) (whole live : LiveData) (budget : ℕ)
    → StandsBut plan past away whole live → StandsBut plan past away (at_budget whole budget) (at_budget live budget)
StandsBut-budget plan past away whole live budget b = record {
  stands = StandsAfter-budget plan past whole budget b.stands;
  ports_count = b.ports_count;
  dues_count = b.dues_count;
  taken_is = b.taken_is;
  account_is = ap (λ (a : Account). record a { budget = budget }) b.account_is;
  ports_are = b.ports_are;
  dues_are = b.dues_are;
  gone = b.gone;
}

-- a port that moves for itself is next beside the others
pub next_beside : (plan : Plan) (past : List Move) (away : List Bool) (whole live : LiveData) (port : ℕ) (d : Due)
    → StandsBut plan past away whole live → slice_index_or away (port - 1) false ≡ false → IsNext plan whole port d
    → whole.account.budget ≡ force plan d.time → IsNextBeside plan past whole port d live
next_beside plan past away whole live port d b here next budget = record {
  stood = b.stands;
  next = next;
  budget = budget;
  port_is = b.ports_are (port - 1) next.first.known here;
  taken_is = b.taken_is;
  account_is = b.account_is;
}

-- the first of those that move for themselves is the next one, where none that follows comes before it
pub next_of_own : (plan : Plan) (past : List Move) (away : List Bool) (whole live : LiveData) (port : ℕ) (d : Due)
    → StandsBut plan past away whole live → IsNext plan live port d
    → ((q : ℕ) (f : Due) → q < count plan → slice_index_or away q false ≡ true → due_at whole q ≡ Some f
    → IsNoLater d.time (port - 1) f.time q)
    → (slice_index_or away (port - 1) false ≡ false) × IsNext plan whole port d
next_of_own plan past away whole live port d b next none =
    let p = port - 1 in
    let here : slice_index_or away p false ≡ false =
    ⊎_elim
    (λ (there : slice_index_or away p false ≡ true).
    absurd (let e : None ≡ Some d = sym (b.gone p next.first.known there) ∙ next.first.is_due in cc))
    (λ (isnt : slice_index_or away p false ≡ false). isnt)
    (cases_Bool (slice_index_or away p false)) in (
      here,
      record {
        from_one = next.from_one;
        first = record {
          known = next.first.known;
          is_due = sym (b.dues_are p next.first.known here) ∙ next.first.is_due;
          soon = next.first.soon;
          least = λ q f lt e.
              ⊎_elim
              (λ (there : slice_index_or away q false ≡ true). none q f lt there e)
              (λ (isnt : slice_index_or away q false ≡ false). next.first.least q f lt (b.dues_are q lt isnt ∙ e))
              (cases_Bool (slice_index_or away q false));
        };
      },
    )

-- the first of those that follow is, where none of the others comes before it
pub next_of_others : (plan : Plan) (past : List Move) (away : List Bool) (whole live : LiveData) (port : ℕ) (d : Due)
    → StandsBut plan past away whole live → 1 ≤ port → port - 1 < count plan → due_at whole (port - 1) ≡ Some d → d.time ≤ plan.end
    → ((q : ℕ) (f : Due) → q < count plan → due_at live q ≡ Some f → IsNoLater d.time (port - 1) f.time q)
    → ((q : ℕ) (f : Due) → q < count plan → slice_index_or away q false ≡ true → due_at whole q ≡ Some f
    → IsNoLater d.time (port - 1) f.time q)
    → IsNext plan whole port d
next_of_others plan past away whole live port d b from_one known is_due soon own none = record {
  from_one = from_one;
  first = record {
    known = known;
    is_due = is_due;
    soon = soon;
    least = λ q f lt e.
        ⊎_elim
        (λ (there : slice_index_or away q false ≡ true). none q f lt there e)
        (λ (isnt : slice_index_or away q false ≡ false). own q f lt (b.dues_are q lt isnt ∙ e))
        (cases_Bool (slice_index_or away q false));
  };
}

-- after the move of a port that moves for itself
pub StandsBut-moved : (n : ℕ) (plan : Plan) (past : List Move) (away : List Bool) (whole live : LiveData) (port : ℕ) (d : Due)
    → IsPlan n plan → StandsBut plan past away whole live → slice_index_or away (port - 1) false ≡ false → IsNext plan whole port d
    → whole.account.budget ≡ force plan d.time
    → StandsBut plan (past ++ next_move plan past (port - 1) d ∷ []) away (moved_live plan whole (port - 1) d)
    (moved_live plan live (port - 1) d)
StandsBut-moved n plan past away whole live port d is b here next budget =
    let p = port - 1 in
    let s = b.stands in
    let known : p < count plan = next.first.known in
    let ports : List PortData = live.ports in
    let others : List PortData = whole.ports in
    let x : PortData = moved_port live p d in
    let y : PortData = moved_port whole p d in
    let inside : p < length ports = omega (arith, b.ports_count) in
    let inside_too : p < length others = omega (arith, s.ports_count) in
    let same : x ≡ y = moved_beside plan past whole port d live (next_beside plan past away whole live port d b here next budget) in
    let at_x : get_or (set ports p x) p no_port ≡ x = get_or-set_same ports p x no_port inside in
    let at_y : get_or (set others p y) p no_port ≡ y = get_or-set_same others p y no_port inside_too in
    let at : get_or (set ports p x) p no_port ≡ get_or (set others p y) p no_port = at_x ∙ same ∙ sym at_y in
    let due_x : Option Due = due (get_or (set ports p x) p no_port).port_record
    (slice_get (script_of plan p) (taken_after (slice_index live.taken p) d)) in
    let due_y : Option Due = due (get_or (set others p y) p no_port).port_record
    (slice_get (script_of plan p) (taken_after (slice_index whole.taken p) d)) in
    let due_is : due_x ≡ due_y =
    ap (λ (z : PortData). due z.port_record (slice_get (script_of plan p) (taken_after (slice_index live.taken p) d))) at
    ∙ ap (λ ts. due (get_or (set others p y) p no_port).port_record (slice_get (script_of plan p) (taken_after (slice_index ts p) d)))
    b.taken_is in
    let dues : List (Option Due) = live.dues in
    let dues_too : List (Option Due) = whole.dues in
    record {
      stands = StandsAfter-moved n plan past whole port d is s next budget;
      ports_count = length-set ports p x ∙ b.ports_count;
      dues_count = length-set dues p due_x ∙ b.dues_count;
      taken_is = ap (λ ts. slice_set ts p (taken_after (slice_index ts p) d)) b.taken_is;
      account_is =
          ap (λ (z : PortData). record live.account { holds = slice_set live.account.holds p (hold z.settings z.port_record) }) at
          ∙ ap (λ (a : Account). record a {
            holds = slice_set a.holds p (hold (get_or (set others p y) p no_port).settings
                (get_or (set others p y) p no_port).port_record);
          }) b.account_is;
      ports_are = λ q lt isnt.
          ⊎_elim
          (λ (e : q ≡ p). at_set ports p q x no_port inside e ∙ same ∙ sym (at_set others p q y no_port inside_too e))
          (λ (other : q ≢ p). get_or-set_other ports p q x no_port other ∙ b.ports_are q lt isnt
          ∙ sym (get_or-set_other others p q y no_port other))
          (cases_eq q p);
      dues_are = λ q lt isnt.
          ⊎_elim
          (λ (e : q ≡ p). at_set dues p q due_x None (omega (arith, b.dues_count)) e ∙ due_is
          ∙ sym (at_set dues_too p q due_y None (omega (arith, s.dues_count)) e))
          (λ (other : q ≢ p). get_or-set_other dues p q due_x None other ∙ b.dues_are q lt isnt
          ∙ sym (get_or-set_other dues_too p q due_y None other))
          (cases_eq q p);
      gone = λ q lt there.
          let other : q ≢ p = λ e. absurd (let h = ap (λ i. slice_index_or away i false) e in cc) in
          get_or-set_other dues p q due_x None other ∙ b.gone q lt there;
    }

-- where all ports stand after the move of one that follows, with the shared budget of some time
abbrev pub on_whole : Plan → LiveData → ℕ → Due → ℕ → LiveData
on_whole plan whole p d budget = at_budget (moved_live plan (at_budget whole (force plan d.time)) p d) budget

abbrev pub on_live : LiveData → ℕ → Due → ℕ → ℕ → LiveData
on_live live p d budget left = record live {
  taken = slice_set live.taken p (taken_after (slice_index live.taken p) d);
  account = record live.account { budget = budget; holds = slice_set live.account.holds p left };
}

-- after the move of a port that follows
pub StandsBut-followed : (n : ℕ) (plan : Plan) (past : List Move) (away : List Bool) (whole live : LiveData) (port : ℕ) (d : Due)
    (budget left : ℕ) → IsPlan n plan → StandsBut plan past away whole live → slice_index_or away (port - 1) false ≡ true
    → IsNext plan whole port d → left ≡ hold (settings_of plan (port - 1)) (after plan (next_move plan past (port - 1) d))
    → StandsBut plan (past ++ next_move plan past (port - 1) d ∷ []) away (on_whole plan whole (port - 1) d budget)
    (on_live live (port - 1) d budget left)
StandsBut-followed n plan past away whole live port d budget left is b there next left_is =
    let p = port - 1 in
    let s = b.stands in
    let known : p < count plan = next.first.known in
    let now : LiveData = at_budget whole (force plan d.time) in
    let stood : StandsAfter plan past now = StandsAfter-budget plan past whole (force plan d.time) s in
    let others : List PortData = whole.ports in
    let y : PortData = moved_port now p d in
    let inside_too : p < length others = omega (arith, s.ports_count) in
    let at_y : get_or (set others p y) p no_port ≡ y = get_or-set_same others p y no_port inside_too in
    let held : left ≡ hold (get_or (set others p y) p no_port).settings (get_or (set others p y) p no_port).port_record =
    left_is ∙ sym (moved_hold plan past p d (get_or (set others p y) p no_port) (at_y ∙ moved_known plan past now p d stood refl known)) in
    let isnt_p : (q : ℕ) → slice_index_or away q false ≡ false → q ≢ p =
    λ q here e. absurd (let h = ap (λ i. slice_index_or away i false) e in cc) in
    record {
      stands = StandsAfter-budget plan _ (moved_live plan now p d) budget
          (StandsAfter-moved n plan past now port d is stood (IsNext-budget plan whole port d (force plan d.time) next) refl);
      ports_count = b.ports_count;
      dues_count = b.dues_count;
      taken_is = ap (λ ts. slice_set ts p (taken_after (slice_index ts p) d)) b.taken_is;
      account_is = ap (λ (a : Account). record a { budget = budget; holds = slice_set a.holds p left }) b.account_is
          ∙ ap (λ h. record whole.account { budget = budget; holds = slice_set whole.account.holds p h }) held;
      ports_are = λ q lt here. b.ports_are q lt here ∙ sym (get_or-set_other others p q y no_port (isnt_p q here));
      dues_are = λ q lt here. b.dues_are q lt here ∙ sym (get_or-set_other whole.dues p q _ None (isnt_p q here));
      gone = b.gone;
    }

-- after one that leaves the hold as it was nothing else changes
pub passed_is : (plan : Plan) (past : List Move) (away : List Bool) (whole live : LiveData) (port : ℕ) (d : Due) (left : ℕ)
    → StandsBut plan past away whole live → port - 1 < count plan
    → left ≡ hold (settings_of plan (port - 1)) (standing plan past (port - 1)).state
    → on_live live (port - 1) d live.account.budget left
    ≡ record live { taken = slice_set live.taken (port - 1) (taken_after (slice_index live.taken (port - 1)) d) }
passed_is plan past away whole live port d left b known left_is =
    let p = port - 1 in
    let holds : List ℕ = live.account.holds in
    let held : left ≡ get_or holds p 0 =
    left_is ∙ sym (hold_known plan past p known) ∙ sym (ap (λ hs. slice_index hs p) b.stands.holds_are)
    ∙ sym (ap (λ (a : Account). slice_index a.holds p) b.account_is) in
    let same : slice_set holds p left ≡ holds = ap (slice_set holds p) held ∙ set-get_or holds p 0 in
    ap (λ (hs : List ℕ). record live {
      taken = slice_set live.taken p (taken_after (slice_index live.taken p) d);
      account = record live.account { holds = hs };
    }) same

-- An old run that is followed.

-- what holds of each member with those before it holds of the one at a place
each_at : {X : Type 0} (P : List X → X → Type 0) (past xs : List X) (i : ℕ) (d : X) → EachAfter P past xs → i < length xs
    → P (past ++ take i xs) (get_or xs i d)
each_at {X} P past [] i d h lt = absurd (omega arith)
each_at {X} P past (x ∷ xs) zero d h lt = subst (λ (l : List X). P l x) (sym (append-nil past)) h.0
each_at {X} P past (x ∷ xs) (suc i) d h lt =
    subst (λ (l : List X). P l (get_or xs i d)) (append_assoc past (x ∷ []) (take i xs))
    (each_at P (past ++ x ∷ []) xs i d h.1 (omega arith))

-- what is left of a run further on
rest_at : (plan : Plan) (past xs : List Move) (i : ℕ) → Rest plan past xs → i ≤ length xs → Rest plan (past ++ take i xs) (drop i xs)
rest_at plan past xs zero r le = subst (λ (l : List Move). Rest plan l xs) (sym (append-nil past)) r
rest_at plan past [] (suc i) r le = absurd (omega arith)
rest_at plan past (x ∷ xs) (suc i) r le =
    subst (λ (l : List Move). Rest plan l (drop i xs)) (append_assoc past (x ∷ []) (take i xs))
    (rest_at plan (past ++ x ∷ []) xs i (tail plan past x xs r) (omega arith))

-- a run goes on with these moves before a time, and then with the rest; both plans end together, or not before that time
pub record IsFollowed (a b : Plan) (past mid rest : List Move) (to : ℕ) : Type 0 where
  pub left : Rest a past (mid ++ rest)
  pub up : IsUpTo a (past ++ mid) to
  pub early : All (λ m. m.due.time < to) mid
  pub ends : EndTogether a b to

longer : (xs ys : List Move) → length xs ≤ length (xs ++ ys)
longer [] ys = omega arith
longer (x ∷ xs) ys = let k = longer xs ys in omega arith

-- a move of it goes on from those before it
pub goes_at : (a b : Plan) (past mid rest : List Move) (to i : ℕ) (d : Move) → IsFollowed a b past mid rest to → i < length mid
    → GoesOn a (past ++ take i mid) (get_or mid i d)
goes_at a b past mid rest to i d h lt =
    let more = longer mid rest in
    subst (λ (m : Move). GoesOn a (past ++ take i mid) m) (get_or-append mid rest d i lt)
    (subst (λ (l : List Move). GoesOn a (past ++ l) (get_or (mid ++ rest) i d)) (take-append-le i mid rest (omega arith))
    (each_at (GoesOn a) past (mid ++ rest) i d h.left.chained (omega arith)))

pub timely_at : (a b : Plan) (past mid rest : List Move) (to i : ℕ) (d : Move) → IsFollowed a b past mid rest to → i < length mid
    → (get_or mid i d).due.time ≤ a.end
timely_at a b past mid rest to i d h lt =
    let more = longer mid rest in
    subst (λ (m : Move). m.due.time ≤ a.end) (get_or-append mid rest d i lt)
    (each_at (λ _ m. m.due.time ≤ a.end) past (mid ++ rest) i d h.left.timely (omega arith))

-- no other port is due before it there
first_at : (a b : Plan) (past mid rest : List Move) (to i : ℕ) (d : Move) (q : ℕ) (f : Due) → IsFollowed a b past mid rest to
    → i < length mid → q < count a → (get_or mid i d).port ≢ q → due_after a (past ++ take i mid) q ≡ Some f → f.time ≤ a.end
    → IsNoLater (get_or mid i d).due.time (get_or mid i d).port f.time q
first_at a b past mid rest to i d q f h lt known other e soon =
    let more = longer mid rest in
    let k : Move = get_or mid i d in
    let whole : List Move = mid ++ rest in
    let left : Rest a (past ++ take i mid) (k ∷ drop (i + 1) whole) =
    subst (λ (l : List Move). Rest a (past ++ l) (k ∷ drop (i + 1) whole)) (take-append-le i mid rest (omega arith))
    (subst (λ (m : Move). Rest a (past ++ take i whole) (m ∷ drop (i + 1) whole)) (get_or-append mid rest d i lt)
    (subst (λ (l : List Move). Rest a (past ++ take i whole) l) (drop_more whole i d (omega arith))
    (rest_at a past whole i h.left (omega arith)))) in
    first_first a (past ++ take i mid) k (drop (i + 1) whole) q f left known other e soon

pub later_time : (t p u q : ℕ) → t < u → IsNoLater t p u q
later_time t p u q lt = record { by_time = omega arith; by_port = λ e. absurd (omega arith) }

-- and nothing is due before it on a port that stands alike
pub none_before : (a b : Plan) (past mid rest others : List Move) (to i : ℕ) (d : Move) (q : ℕ) (f : Due)
    → IsFollowed a b past mid rest to → i < length mid → count a ≡ count b → q < count b
    → PortIsAlike a b (past ++ take i mid) others q to → due_after b others q ≡ Some f
    → IsNoLater (get_or mid i d).due.time (get_or mid i d).port f.time q
none_before a b past mid rest others to i d q f h lt counts known alike e =
    let k : Move = get_or mid i d in
    let early = h.early i d lt in
    ⊎_elim
    (λ (soon : f.time < to).
    let there : due_after a (past ++ take i mid) q ≡ Some f =
    ((each_goes_on_alike a b (past ++ take i mid) others q to known alike).dues f soon).1 e in
    ⊎_elim
    (λ (same : k.port ≡ q).
    let is : k.due ≡ f = same_Some _ _ (sym (goes_at a b past mid rest to i d h lt).due_is ∙ ap (due_after a (past ++ take i mid)) same
    ∙ there) in
    let at = ap (λ (x : Due). x.time) is in
    record { by_time = omega arith; by_port = λ _. omega arith })
    (λ (other : k.port ≢ q).
    ⊎_elim
    (λ (late : a.end < f.time). later_time k.due.time k.port f.time q (let t = timely_at a b past mid rest to i d h lt in omega arith))
    (λ (within : f.time ≤ a.end). first_at a b past mid rest to i d q f h lt (omega arith) other there within)
    (cases_lt a.end f.time))
    (cases_eq k.port q))
    (λ (late : to ≤ f.time). later_time k.due.time k.port f.time q (omega arith))
    (cases_lt f.time to)

-- after all of them nothing is due before the time
pub none_due : (a b : Plan) (past mid rest others : List Move) (to q : ℕ) (f : Due) → IsFollowed a b past mid rest to
    → count a ≡ count b → q < count b → PortIsAlike a b (past ++ mid) others q to → due_after b others q ≡ Some f → f.time ≤ b.end
    → to ≤ f.time
none_due a b past mid rest others to q f h counts known alike e within =
    ⊎_elim
    (λ (soon : f.time < to).
    h.up.passed q f (omega arith) (((each_goes_on_alike a b (past ++ mid) others q to known alike).dues f soon).1 e)
    (in_both_back a b to f.time h.ends soon within))
    (λ (late : to ≤ f.time). late)
    (cases_lt f.time to)

-- Where ports stand alike there.

one_on : (past mid : List Move) (i : ℕ) (d : Move) → i < length mid
    → (past ++ take i mid) ++ get_or mid i d ∷ [] ≡ past ++ take (i + 1) mid
one_on past mid i d lt =
    append_assoc past (take i mid) (get_or mid i d ∷ []) ∙ ap (λ (l : List Move). past ++ l) (sym (take_more mid i d lt))

-- after a move of another port that isn't followed
pub alike_skip : (a b : Plan) (past mid others : List Move) (to i q : ℕ) (d : Move) → i < length mid → q < count b
    → (get_or mid i d).port ≢ q → PortIsAlike a b (past ++ take i mid) others q to → PortIsAlike a b (past ++ take (i + 1) mid) others q to
alike_skip a b past mid others to i q d lt known other alike =
    subst (λ (l : List Move). PortIsAlike a b l others q to) (one_on past mid i d lt)
    ((each_goes_on_alike a b (past ++ take i mid) others q to known alike).aside (get_or mid i d) other)

-- after one that both runs make
pub alike_on : (a b : Plan) (past mid rest others : List Move) (to i q : ℕ) (d : Move) → IsFollowed a b past mid rest to → i < length mid
    → q < count b → PortIsAlike a b (past ++ take i mid) others q to
    → PortIsAlike a b (past ++ take (i + 1) mid) (others ++ get_or mid i d ∷ []) q to
alike_on a b past mid rest others to i q d h lt known alike =
    let k : Move = get_or mid i d in
    let on = each_goes_on_alike a b (past ++ take i mid) others q to known alike in
    subst (λ (l : List Move). PortIsAlike a b l (others ++ k ∷ []) q to) (one_on past mid i d lt)
    (⊎_elim
    (λ (same : k.port ≡ q). (on.moves_on k same (h.early i d lt) (goes_at a b past mid rest to i d h lt)).1)
    (λ (other : k.port ≢ q).
    (each_goes_on_alike a b (past ++ take i mid) (others ++ k ∷ []) q to known (on.aside_too k other)).aside k other)
    (cases_eq k.port q))

-- the move goes on in the other run too
pub goes_too : (a b : Plan) (past mid rest others : List Move) (to i : ℕ) (d : Move) → IsFollowed a b past mid rest to
    → i < length mid → (get_or mid i d).port < count b → PortIsAlike a b (past ++ take i mid) others (get_or mid i d).port to
    → GoesOn b others (get_or mid i d)
goes_too a b past mid rest others to i d h lt known alike =
    ((each_goes_on_alike a b (past ++ take i mid) others (get_or mid i d).port to known alike).moves_on (get_or mid i d) refl
    (h.early i d lt) (goes_at a b past mid rest to i d h lt)).0

-- and is the next one of its port, where it is answered there
pub is_next_move : (plan : Plan) (past : List Move) (m : Move) → GoesOn plan past m → IsAnswered plan past m
    → m ≡ next_move plan past m.port m.due
is_next_move plan past m goes answered =
    let next : GoesOn plan past (next_move plan past m.port m.due) =
    record { known = goes.known; before_is = refl; due_is = goes.due_is; entry_is = refl } in
    same_move plan past m (next_move plan past m.port m.due) goes next answered refl refl
