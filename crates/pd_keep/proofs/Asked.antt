-- Moves that are asked again for their answers.
use Rattle.std.proofs.Common.{◌≡◌, ◌≢◌, ⊎_elim, ℕ, zero, suc, ◌+◌, ◌-◌, ◌<◌, false, List, [], ◌∷◌, ◌++◌, length, map, take}
use Rattle.std.proofs.Common.{None, Some, slice_get, slice_index_or, get_or, ap, sym, ◌∙◌, subst, refl, arith, append_assoc}
use Rattle.std.proofs.Math.ListN.{get_or-append}
use Rattle.std.proofs.Math.Seq.{get_or-append_seam}
use Rattle.std.proofs.lemmas.List.{append-nil, map-append, length_push, take_more, get_or_default}
use Rattle.std.proofs.lemmas.Bool.{cases_eq}
use Rattle.std.proofs.lemmas.Option.{same_Some, slice_get_within, slice_get-get_or}
use Rattle.pd_setup.specs.Settings.{SettingsData}
use Rattle.pd_port.specs.Port.{record_after, hold}
use Rattle.pd_ledger.specs.Account.{Account}
use Rattle.pd_scenario.specs.Plan.{Plan, settings_of}
use Rattle.pd_run.specs.Held.{AreHeld, HoldsOn}
use Rattle.pd_run.specs.Order.{EachAfter}
use Rattle.pd_run.specs.Run.{Move, after, IsAnswered}
use Rattle.pd_run.proofs.Cut.{EachAfter-append}
use Rattle.pd_run.proofs.Held.{unasked, quiet_on}
use Rattle.pd_keep.specs.Asked.{IsAsked}
use Rattle.pd_keep.specs.declared.kept_move.Brief.{Brief}
use Rattle.pd_keep.specs.Kept.{KeptData, RunData, move_of, held_by, IsOwn, IsQuiet, IsBrief, AreBrief, no_brief}
use Rattle.pd_keep.specs.Rerun.{GoesOnWith}

-- One move.

-- what its port holds after it
pub hold_left : (plan : Plan) (k : KeptData) → IsOwn plan k
    → held_by k.after ≡ hold (settings_of plan (k.port - 1)) (after plan (move_of k))
hold_left plan k own =
    ap (λ (x : KeptData). held_by x.after) own.made
    ∙ ap (λ (s : SettingsData). hold s (record_after s k.before.port_record k.due k.answer)) own.settings

pub holds_on : (plan : Plan) (past : List Move) (account : Account) (moves : List KeptData) (i : ℕ) (k : KeptData)
    → IsAsked plan past account moves i k → HoldsOn plan past account (move_of k) k.port k.entry k.answer (held_by k.after)
holds_on plan past account moves i k a = record {
  held = a.held;
  goes = a.goes;
  port_is = (let one = a.own.from_one in omega arith);
  entry_is = refl;
  answer_is = refl;
  left_is = hold_left plan k a.own;
}

-- a quiet one is answered, and its port holds as much
pub quiet_answered : (plan : Plan) (past : List Move) (account : Account) (moves : List KeptData) (i : ℕ) (k : KeptData)
    → IsAsked plan past account moves i k → IsQuiet k → IsAnswered plan past (move_of k)
quiet_answered plan past account moves i k a quiet = unasked plan past (move_of k) a.goes quiet.unasked quiet.unanswered

pub quiet_held : (plan : Plan) (past : List Move) (account : Account) (moves : List KeptData) (i : ℕ) (k : KeptData)
    → IsAsked plan past account moves i k → IsQuiet k → AreHeld plan (past ++ move_of k ∷ []) account
quiet_held plan past account moves i k a quiet =
    quiet_on plan past account (move_of k) a.held a.goes
    (sym (hold_left plan k a.own) ∙ quiet.same_hold ∙ ap (λ (s : SettingsData). hold s k.before.port_record) a.own.settings)

-- the move at a place
pub read_at : (moves : List KeptData) (i : ℕ) (k : KeptData) → slice_get moves i ≡ Some k → get_or moves i k ≡ k
read_at moves i k there = same_Some _ _ (sym (slice_get-get_or moves i k (slice_get_within moves i k there)) ∙ there)

pub quiet_at : (moves : List KeptData) (briefs : List Brief) (i : ℕ) (k : KeptData) → AreBrief moves briefs
    → slice_get moves i ≡ Some k → (slice_index_or briefs i no_brief).stirs ≡ false → IsQuiet k
quiet_at moves briefs i k brief there none =
    subst IsQuiet (read_at moves i k there) ((brief.told i k (slice_get_within moves i k there)).quiet.0 none)

-- one more move with its brief
pub brief_more : (moves : List KeptData) (briefs : List Brief) (k : KeptData) (b : Brief) → AreBrief moves briefs → IsBrief k b
    → AreBrief (moves ++ k ∷ []) (briefs ++ b ∷ [])
brief_more moves briefs k b h last =
    let count = h.count in
    let moves_more = length_push moves k in
    let briefs_more = length_push briefs b in
    record {
      count = omega (arith, count, moves_more, briefs_more);
      told = λ i d lt.
          ⊎_elim
          (λ (same : i ≡ length moves).
          let brief_is : slice_index_or (briefs ++ b ∷ []) i no_brief ≡ b =
          ap (λ n. slice_index_or (briefs ++ b ∷ []) n no_brief) (same ∙ sym count) ∙ get_or-append_seam briefs b [] no_brief in
          let move_is : slice_index_or (moves ++ k ∷ []) i d ≡ k =
          ap (λ n. slice_index_or (moves ++ k ∷ []) n d) same ∙ get_or-append_seam moves k [] d in
          subst (λ (m : KeptData). IsBrief m (slice_index_or (briefs ++ b ∷ []) i no_brief)) (sym move_is)
          (subst (IsBrief k) (sym brief_is) last))
          (λ (other : i ≢ length moves).
          let inside : i < length moves = omega (arith, moves_more, lt) in
          let brief_is : slice_index_or (briefs ++ b ∷ []) i no_brief ≡ slice_index_or briefs i no_brief =
          get_or-append briefs (b ∷ []) no_brief i (omega (arith, count)) in
          let move_is : slice_index_or (moves ++ k ∷ []) i d ≡ slice_index_or moves i d = get_or-append moves (k ∷ []) d i inside in
          subst (λ (m : KeptData). IsBrief m (slice_index_or (briefs ++ b ∷ []) i no_brief)) (sym move_is)
          (subst (IsBrief (slice_index_or moves i d)) (sym brief_is) (h.told i d inside)))
          (cases_eq i (length moves));
    }

-- there is a move at each place
pub some_at : (moves : List KeptData) (i : ℕ) → i < length moves → (k : KeptData) × (slice_get moves i ≡ Some k)
some_at [] i lt = absurd (omega arith)
some_at (x ∷ xs) zero lt = (x, refl)
some_at (x ∷ xs) (suc i) lt = some_at xs i (omega arith)

-- what is read of the move at a place is told of it
pub told_of : (plan : Plan) (past : List Move) (account : Account) (moves : List KeptData) (i : ℕ) (k v : KeptData) (left : ℕ)
    → IsAsked plan past account moves i k → v ≡ slice_index_or moves i v → left ≡ held_by v.after
    → HoldsOn plan past account (move_of k) v.port v.entry v.answer left
told_of plan past account moves i k v left a read left_is =
    let inside = slice_get_within moves i k a.there in
    let is : v ≡ k = read ∙ get_or_default moves i v k inside ∙ read_at moves i k a.there in
    subst (λ (n : ℕ). HoldsOn plan past account (move_of k) v.port v.entry v.answer n) (sym left_is)
    (subst (λ (x : KeptData). HoldsOn plan past account (move_of k) x.port x.entry x.answer (held_by x.after)) (sym is)
    (holds_on plan past account moves i k a))

-- what is read of its brief is its brief
pub brief_at : (moves : List KeptData) (briefs : List Brief) (i : ℕ) (b : Brief) → AreBrief moves briefs → i < length moves
    → b ≡ slice_index_or briefs i b → b ≡ slice_index_or briefs i no_brief
brief_at moves briefs i b brief inside read =
    let count = brief.count in read ∙ get_or_default briefs i b no_brief (omega (arith, count, inside))

-- All moves of a span.

-- what holds of each move after those before it holds of the one at a place
each_at : (P : List Move → Move → Type 0) (past : List Move) (moves : List KeptData) (i : ℕ) (k : KeptData)
    → EachAfter P past (map move_of moves) → slice_get moves i ≡ Some k → P (past ++ map move_of (take i moves)) (move_of k)
each_at P past [] i k h e = absurd (let none : None ≡ Some k = e in cc)
each_at P past (x ∷ xs) zero k h e =
    subst (λ (y : KeptData). P (past ++ []) (move_of y)) (same_Some x k e)
    (subst (λ (l : List Move). P l (move_of x)) (sym (append-nil past)) h.0)
each_at P past (x ∷ xs) (suc i) k h e =
    subst (λ (l : List Move). P l (move_of k)) (append_assoc past (move_of x ∷ []) (map move_of (take i xs)))
    (each_at P (past ++ move_of x ∷ []) xs i k h.1 e)

-- so many moves of a span are answered, and the ports hold what these leave them with
pub record AnsweredSoFar (plan : Plan) (past : List Move) (moves : List KeptData) (i : ℕ) (account : Account) : Type 0 where
  pub held : AreHeld plan (past ++ map move_of (take i moves)) account
  pub answered : EachAfter (IsAnswered plan) past (map move_of (take i moves))

pub answered_none : (plan : Plan) (past : List Move) (moves : List KeptData) (account : Account) → AreHeld plan past account
    → AnsweredSoFar plan past moves 0 account
answered_none plan past moves account held = record {
  held = subst (λ (l : List Move). AreHeld plan l account) (sym (append-nil past)) held;
  answered = tt;
}

pub asked_at : (n : ℕ) (plan : Plan) (past : List Move) (span : RunData) (i : ℕ) (account : Account) (k : KeptData)
    → GoesOnWith n plan past span → AnsweredSoFar plan past span.moves i account → slice_get span.moves i ≡ Some k
    → IsAsked plan (past ++ map move_of (take i span.moves)) account span.moves i k
asked_at n plan past span i account k with so_far there = record {
  held = so_far.held;
  there = there;
  own = subst (IsOwn plan) (read_at span.moves i k there) (with.own i k (slice_get_within span.moves i k there));
  goes = each_at _ past span.moves i k with.chained there;
}

moves_more : (moves : List KeptData) (i : ℕ) (k : KeptData) → slice_get moves i ≡ Some k
    → map move_of (take (i + 1) moves) ≡ map move_of (take i moves) ++ move_of k ∷ []
moves_more moves i k there =
    ap (map move_of) (take_more moves i k (slice_get_within moves i k there)
    ∙ ap (λ (x : KeptData). take i moves ++ x ∷ []) (read_at moves i k there))
    ∙ map-append move_of (take i moves) (k ∷ [])

pub answered_more : (plan : Plan) (past : List Move) (moves : List KeptData) (i : ℕ) (account next : Account) (k : KeptData)
    → AnsweredSoFar plan past moves i account → slice_get moves i ≡ Some k
    → IsAnswered plan (past ++ map move_of (take i moves)) (move_of k)
    → AreHeld plan ((past ++ map move_of (take i moves)) ++ move_of k ∷ []) next → AnsweredSoFar plan past moves (i + 1) next
answered_more plan past moves i account next k so_far there answered held =
    let front : List Move = map move_of (take i moves) in
    let more = moves_more moves i k there in
    record {
      held = subst (λ (l : List Move). AreHeld plan (past ++ l) next) (sym more)
          (subst (λ (l : List Move). AreHeld plan l next) (append_assoc past front (move_of k ∷ [])) held);
      answered = subst (λ (l : List Move). EachAfter (IsAnswered plan) past l) (sym more)
          (EachAfter-append (IsAnswered plan) past front (move_of k ∷ []) so_far.answered (answered, tt));
    }
