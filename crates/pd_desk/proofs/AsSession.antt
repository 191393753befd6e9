-- Over lines of sessions alone, the desk is a session.
use Rattle.std.proofs.Common.{◌≡◌, ◌≤◌, ℕ, false, length, inl, inr, List, [], ◌∷◌, ◌++◌}
use Rattle.std.proofs.Common.{fold, map, All, refl, sym, ap, ◌∙◌, append_assoc, Option, Ok, Err}
use Rattle.std.specs.Str.Lines.{lines, strip_carriage_return}
use Rattle.std.proofs.lemmas.List.{append-nil}
use Rattle.std.proofs.lemmas.List.Elements.{All-nil, All-cons, All-head, All-tail}
use Rattle.pd_scenario.specs.Scenarios.{ScenarioData}
use Rattle.pd_edit_lines.specs.Grammar.{line_of}
use Rattle.pd_run.specs.Cost.{Costs}
use Rattle.pd_device.specs.declared.fault.BenchFault.TheVariants.{ReadFailed, WriteFailed, Memory, ReaderTooLong}
use Rattle.pd_bench.specs.declared.tally.Tally.{Tally}
use Rattle.pd_bench.specs.declared.tally.Outcome.{Outcome}
use Rattle.pd_bench.specs.Session.{Replies, Session, BeginsSession, SessionStopped, counted, done_text}
use Rattle.pd_bench.specs.Stream.{so_far}
use Rattle.pd_bench.specs.Traces.{ended}
use Rattle.pd_bench.proofs.SessionLemmas.{some_answers, Replies-from_answers}
use Rattle.std.specs.Io.KnownBytes.{IsAtEnd}
use Rattle.pd_desk.specs.Commands.{is_colon, is_quit}
use Rattle.pd_desk.specs.Desk.{DeskReply, DeskReplies, Becomes, WithShelf, at_first}
use Rattle.pd_desk.specs.Shelf.{Shelved}
use Rattle.pd_desk.specs.Ends.{Beside, DeskText, DeskStopped, EndsAt}
use Rattle.pd_desk.specs.declared.left.Left.{Left}
use Rattle.pd_desk.specs.Laws.{NoneIsOwn, DeskIsSession}
use Rattle.pd_desk.proofs.Joins.{lines-open}

no_costs : Costs
no_costs = λ old plan n. Unit {0}

becomes : (n : ℕ) (d : WithShelf) (line reply told : List ℕ) (d' : WithShelf) → is_colon line ≡ false → DeskReply n d line reply told d' →
    (outcome : Outcome) × Becomes n d.desk line (line_of line) outcome reply d'.desk
becomes n d line reply told d' other is = let own = rw other at is in (own.0.0, own.0.1)

-- such lines, and then others of the session
as_replies : (n : ℕ) (d : WithShelf) (ls : List (List ℕ)) (text : List ℕ) (tolds : List (List ℕ)) (d' : WithShelf)
    (ls' : List (List ℕ)) (text' : List ℕ) (outcomes' : List Outcome)
    → All (λ line. is_colon line ≡ false) ls → DeskReplies n d ls text tolds d' → Replies n d'.desk.scenario ls' text' outcomes'
    → (outcomes : List Outcome) × Replies n d.desk.scenario (ls ++ ls') (text ++ text') outcomes
    × (fold counted d.desk.tally outcomes ≡ fold counted d'.desk.tally outcomes')
as_replies n d [] text tolds d' ls' text' outcomes' others (text_is, tolds_are, same) replies =
    (outcomes', rw text_is (rw same at replies), ap (λ (u : WithShelf). fold counted u.desk.tally outcomes') (sym same))
as_replies n d (line ∷ more) text tolds d' ls' text' outcomes' others
    (reply, told, rest, later, next, is, text_is, tolds_are, desk_replies) replies =
    let one = becomes n d line reply told next (All-head (λ line. is_colon line ≡ false) line more others) is in
    let tail = All-tail (λ line. is_colon line ≡ false) line more others in
    let after = as_replies n next more rest later d' ls' text' outcomes' tail desk_replies replies in (
      one.0 ∷ after.0,
      (
        reply,
        rest ++ text',
        next.desk.scenario,
        one.0,
        after.0,
        one.1.0,
        ap (λ v. v ++ text') text_is ∙ append_assoc reply rest text',
        refl,
        after.1,
      ),
      ap (λ (u : Tally). fold counted u after.0) (sym one.1.1) ∙ after.2,
    )

as_session : (n : ℕ) (s : ScenarioData) (shelf : Shelved) (bytes text : List ℕ) (tolds : List (List ℕ)) (shelf' : Shelved) (end : Left) →
    NoneIsOwn bytes → DeskText n s shelf bytes text tolds shelf' end → Session n s bytes text end.tally
as_session n s shelf bytes text tolds shelf' end others desk =
    let all = as_replies n (at_first s shelf) (lines bytes) desk.replies tolds desk.after [] [] [] others desk.are_replies (refl, refl) in
    record {
      replies = desk.replies;
      outcomes = all.0;
      are_replies = rw (append-nil (lines bytes), append-nil desk.replies) at all.1;
      tally_is = desk.tally_is ∙ sym all.2;
      text_is = desk.text_is;
    }

All-front : (xs ys : List (List ℕ)) → All (λ line. is_colon line ≡ false) (xs ++ ys) → All (λ line. is_colon line ≡ false) xs
All-front [] ys h = All-nil (λ line. is_colon line ≡ false)
All-front (x ∷ xs) ys h =
    All-cons (λ line. is_colon line ≡ false) x xs (All-head (λ line. is_colon line ≡ false) x (xs ++ ys) h)
    (All-front xs ys (All-tail (λ line. is_colon line ≡ false) x (xs ++ ys) h))

-- whatever comes after
begins_session : {n : ℕ} {left left' taken taken' : Option (List ℕ)} {w w' : Beside} {shelf shelf' : Shelved} {s : ScenarioData}
    {count : ℕ}
    (stopped : DeskStopped n left left' taken taken' w w' shelf shelf' s count) → NoneIsOwn (ended stopped.whole ++ stopped.open_yet) →
    (more : List ℕ) → BeginsSession n s ((ended stopped.whole ++ stopped.open_yet) ++ more) stopped.out
begins_session {n} {shelf = shelf} {s = s} stopped others more =
    let front = All-front (map strip_carriage_return stopped.whole) (lines stopped.open_yet)
    (rw (lines-open stopped.whole stopped.open_yet stopped.are_whole) at others) in
    let d = stopped.after in
    let rest = some_answers no_costs n d.desk.scenario stopped.run (so_far d.desk.tally 0) (lines (stopped.open_yet ++ more)) in
    let replies =
    Replies-from_answers no_costs n d.desk.scenario (so_far d.desk.tally 0) (lines (stopped.open_yet ++ more)) rest.0 rest.1 rest.2 in
    let all =
    as_replies n (at_first s shelf) (map strip_carriage_return stopped.whole) stopped.out stopped.tolds stopped.after
    (lines (stopped.open_yet ++ more)) replies.0 replies.1 front stopped.are_replies replies.2 in
    record {
      text = (stopped.out ++ replies.0) ++ done_text rest.1.tally;
      tally = rest.1.tally;
      session = record {
        replies = stopped.out ++ replies.0;
        outcomes = all.0;
        are_replies =
            rw (
              append_assoc (ended stopped.whole) stopped.open_yet more,
              lines-open stopped.whole (stopped.open_yet ++ more) stopped.are_whole,
            ) all.1;
        tally_is = replies.3 ∙ sym all.2;
        text_is = refl;
      };
      begins = (replies.0 ++ done_text rest.1.tally, append_assoc stopped.out replies.0 (done_text rest.1.tally));
    }

session_stopped : (n : ℕ) (left left' taken taken' : Option (List ℕ)) (w w' : Beside) (shelf shelf' : Shelved)
    (s : ScenarioData) (count : ℕ)
    (stopped : DeskStopped n left left' taken taken' w w' shelf shelf' s count) → NoneIsOwn (ended stopped.whole ++ stopped.open_yet) →
    SessionStopped n left left' taken taken' s count
session_stopped n left left' taken taken' w w' shelf shelf' s count stopped others = record {
  bytes = ended stopped.whole ++ stopped.open_yet;
  consumes = stopped.consumes;
  counts = stopped.counts;
  out = stopped.out;
  appends = stopped.appends;
  begins = begins_session stopped others;
}

-- no line ends the session, so all was read
All-last : (front : List (List ℕ)) (last : List ℕ) → All (λ line. is_colon line ≡ false) (front ++ last ∷ []) → is_colon last ≡ false
All-last [] last h = All-head (λ line. is_colon line ≡ false) last [] h
All-last (x ∷ xs) last h = All-last xs last (All-tail (λ line. is_colon line ≡ false) x (xs ++ last ∷ []) h)

at_end : (left' : Option (List ℕ)) (bytes : List ℕ) → NoneIsOwn bytes → EndsAt left' bytes → IsAtEnd left' × (length bytes ≤ 16777216)
at_end left' bytes others (inl ends) = ends
at_end left' bytes others (inr (quits, few)) =
    let other = All-last quits.front quits.last (rw quits.are at others) in
    let never : is_quit quits.last ≡ false = rw other refl in
    let both = sym never ∙ quits.quits in
    absurd (cc)

pub desk_is_session : DeskIsSession
desk_is_session n (Ok end) left left' taken taken' w w' shelf shelf' s ends others = record {
  bytes = ends.bytes;
  consumes = ends.consumes;
  at_end = (at_end left' ends.bytes others ends.ends).0;
  few = (at_end left' ends.bytes others ends.ends).1;
  out = ends.out;
  appends = ends.appends;
  session = as_session n s shelf ends.bytes ends.out ends.tolds shelf' end others ends.text;
}
desk_is_session n (Err ReadFailed) left left' taken taken' w w' shelf shelf' s (count, few, stopped) others =
    (count, few, session_stopped n left left' taken taken' w w' shelf shelf' s count stopped others)
desk_is_session n (Err WriteFailed) left left' taken taken' w w' shelf shelf' s ends others = record {
  bytes = ends.bytes;
  consumes = ends.consumes;
  few = ends.few;
  out = ends.out;
  appends = ends.appends;
  begins = record {
    text = ends.whole;
    tally = ends.end.tally;
    session = as_session n s shelf ends.bytes ends.whole (ends.tolds ++ ends.later) shelf' ends.end others ends.text;
    begins = ends.begins;
  };
}
desk_is_session n (Err Memory) left left' taken taken' w w' shelf shelf' s ends others = (ends.0, ends.1)
desk_is_session n (Err ReaderTooLong) left left' taken taken' w w' shelf shelf' s ends others =
    session_stopped n left left' taken taken' w w' shelf shelf' s 16777217 ends others
