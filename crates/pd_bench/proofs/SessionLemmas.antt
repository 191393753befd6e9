-- How the pieces of a session join.
use Rattle.std.proofs.Common.{◌≡◌, ℕ, ◌+◌, ◌<◌, ◌≤◌, Bool, true, false, eqb, List, [], ◌∷◌, ◌++◌, length, fold, Result, Ok, Err, inl, inr}
use Rattle.std.proofs.Common.{refl}
use Rattle.std.proofs.Common.{sym, ap, subst, ◌∙◌, append_assoc, arith}
use Rattle.std.proofs.Common.{take, drop, get_or}
use Rattle.std.proofs.lemmas.List.{append-nil, length-append, take-append-drop, drop_more, take_more}
use Rattle.std.proofs.lemmas.Bool.{ne_eqb, eq-eqb}
use Rattle.std.specs.Str.Lines.{lines, strip_carriage_return}
use Rattle.std.specs.Prelude.{Option, Some, None, MatchResult}
use Rattle.std.specs.Io.KnownBytes.{Appends, Consumes, Keeps, IsAtEnd}
use Rattle.std.proofs.KnownBytes.{Appends-nil, Appends-trans, Consumes-nil, Consumes-trans, Consumes-kept}
use Rattle.pd_port.specs.declared.entry.Entry.{Entry}
use Rattle.pd_scenario.specs.Scenarios.{ScenarioData}
use Rattle.pd_scenario.specs.Plans.{plan_of}
use Rattle.pd_scenario.specs.Plan.{Plan}
use Rattle.pd_edit.specs.Refusals.{edited}
use Rattle.pd_edit_lines.specs.Grammar.{line_of}
use Rattle.pd_edit_lines.specs.Numbers.{number_of}
use Rattle.pd_edit_lines.specs.declared.line.Line.{Line}
use Rattle.pd_edit_lines.specs.declared.line.Line.TheVariants as lines_read
use Rattle.pd_edit_lines.specs.declared.line.Show.{Show}
use Rattle.pd_edit_lines.specs.declared.fault.EditFault.{EditFault}
use Rattle.pd_edit_lines.specs.declared.fault.EditFault.TheVariants as edit_faults
use Rattle.pd_run.specs.Cost.{Costs}
use Rattle.pd_device.specs.Device.{Begins, Writes, WrotePart}
use Rattle.pd_device.specs.declared.fault.BenchFault.{BenchFault}
use Rattle.pd_device.specs.declared.fault.BenchFault.TheVariants.{ReadFailed, WriteFailed, Memory, ReaderTooLong}
use Rattle.pd_bench.specs.declared.tally.Tally.{Tally}
use Rattle.pd_bench.specs.declared.tally.Outcome.{Outcome}
use Rattle.pd_bench.specs.declared.tally.Outcome.TheVariants.{Skipped, Refused, Shown}
use Rattle.pd_bench.specs.Cost.{LineCosts, LinesCost}
use Rattle.pd_bench.specs.Pending.{IsPending, kept_after}
use Rattle.pd_bench.specs.Session.{Reply, EditReply, ShowReply, can_show, show_text, Replies, Session, BeginsSession, SessionDone}
use Rattle.pd_bench.specs.Session.{SessionStopped, SessionCut, SessionEnds, WritesSession, counted, no_lines, done_text, refused_text}
use Rattle.pd_bench.specs.Stream.{Replied, Answers, HasRun, IsRunning, Leads, LeadsPart, Ends, EndsPart, Fed, FedPart, Finished}
use Rattle.pd_bench.specs.Stream.{FinishedPart, TookIn, TookPart, Taking, SoFar, so_far}
use Rattle.pd_bench.proofs.PendingLemmas.{IsPending-push, IsPending-empty, reading-kept, reading-kept_cut, lines-cut, lines-last}
use Rattle.pd_bench.proofs.PendingLemmas.{empty-kept}

module _ (costs : Costs) (n : ℕ) where
  -- 1. There is always a text: each edit that is accepted may be refused for want of memory

  some_edit : (m : ℕ) (s : ScenarioData) (r : Result ScenarioData EditFault) → (reply : List ℕ) × (outcome : Outcome)
      × EditReply s r reply s outcome × LineCosts costs s reply s outcome m m
  some_edit m s (Err fault) = (refused_text (number_of fault), Refused, (refl, refl, refl), inl refl)
  some_edit m s (Ok after) = (refused_text (number_of edit_faults.Memory), Refused, inr (refl, refl, refl), inl refl)

  some_show : (m : ℕ) (can : Bool) (show : Show) (s : ScenarioData) → HasRun s → (reply : List ℕ) × (outcome : Outcome)
      × ShowReply can show s reply s outcome × LineCosts costs s reply s outcome m m
  some_show m true show s run = (show_text show (plan_of s) run.0, Shown, (run.0, run.1, refl, refl, refl), refl)
  some_show m false show s run = (refused_text (number_of edit_faults.NoSuchPort), Refused, (refl, refl, refl), inl refl)

  some_outcome : (m : ℕ) (s : ScenarioData) → HasRun s → (r : Result Line EditFault) → (reply : List ℕ) × (outcome : Outcome)
      × Reply n s r reply s outcome × LineCosts costs s reply s outcome m m
  some_outcome m s run (Ok lines_read.Skip) = ([], Skipped, (refl, refl, refl), refl)
  some_outcome m s run (Ok (lines_read.Edit edit)) = some_edit m s (edited n s edit)
  some_outcome m s run (Ok (lines_read.Show show)) = some_show m (can_show n show) show s run
  some_outcome m s run (Err fault) = (refused_text (number_of fault), Refused, (refl, refl, refl), inl refl)

  some_reply : (s : ScenarioData) → HasRun s → (t : SoFar) (r : Result Line EditFault) → (reply : List ℕ) × (t' : SoFar)
      × Replied costs n s t r reply s t'
  some_reply s run t r =
      let here = some_outcome t.meter s run r in
      (here.0, so_far (counted t.tally here.1) t.meter, (here.1, here.2, refl, here.3))

  pub some_answers : (s : ScenarioData) → HasRun s → (t : SoFar) (ls : List (List ℕ)) → (text : List ℕ) × (final : SoFar)
      × Answers costs n s t ls text final
  some_answers s run t [] = (done_text t.tally, t, (refl, refl))
  some_answers s run t (line ∷ more) =
      let here = some_reply s run t (line_of line) in
      let rest = some_answers s run here.1 more in
      (here.0 ++ rest.0, rest.1, (here.0, rest.0, s, here.1, here.2, refl, rest.2))

  -- 2. One byte

  pub Leads-byte : (s : ScenarioData) (t : SoFar) (kept : List ℕ) (b : ℕ) → eqb b 10 ≡ false →
      Leads costs n s t kept (b ∷ []) [] s t (kept_after kept b)
  Leads-byte s t kept b other = λ line pending. (
    line ++ b ∷ [],
    IsPending-push line kept b pending other,
    λ more text final answers. rw (sym (append_assoc line (b ∷ []) more))
        answers,
  )

  -- the answers to the line that a line feed ends, and to what comes after it
  answers_cut : (s : ScenarioData) (t : SoFar) (kept reply : List ℕ) (s' : ScenarioData) (t' : SoFar) (line more text : List ℕ)
      (final : SoFar) → IsPending line kept → Replied costs n s t (line_of (strip_carriage_return kept)) reply s' t' →
      Answers costs n s' t' (lines more) text final → Answers costs n s t (lines (line ++ 10 ∷ more)) (reply ++ text) final
  answers_cut s t kept reply s' t' line more text final pending replies answers =
      rw (lines-cut line more pending.open_yet)
      (reply, text, s', t', rw (reading-kept_cut line kept pending.stands) replies, refl, answers)

  pub Leads-line : (s : ScenarioData) (t : SoFar) (kept reply : List ℕ) (s' : ScenarioData) (t' : SoFar) →
      Replied costs n s t (line_of (strip_carriage_return kept)) reply s' t' → Leads costs n s t kept (10 ∷ []) reply s' t' []
  Leads-line s t kept reply s' t' replies = λ line pending.
      ([], IsPending-empty, λ more text final answers. answers_cut s t kept reply s' t' line more text final pending replies answers)

  pub LeadsPart-line : (s : ScenarioData) (t : SoFar) (kept reply out : List ℕ) (s' : ScenarioData) (t' : SoFar) →
      Replied costs n s t (line_of (strip_carriage_return kept)) reply s' t' → HasRun s' → Begins out reply →
      LeadsPart costs n s t kept (10 ∷ []) out
  LeadsPart-line s t kept reply out s' t' replies run begins = λ line pending more.
      let after = some_answers s' run t' (lines more) in (
        reply ++ after.0,
        after.1,
        answers_cut s t kept reply s' t' line more after.0 after.1 pending replies after.2,
        (begins.0 ++ after.0, ap (λ v. v ++ after.0) begins.1 ∙ append_assoc out begins.0 after.0),
      )

  -- 3. Pieces join

  pub Leads-none : (s : ScenarioData) (t : SoFar) (kept : List ℕ) → Leads costs n s t kept [] [] s t kept
  Leads-none s t kept = λ line pending. (line, pending, λ more text final answers. answers)

  pub Leads-join : (s s' s'' : ScenarioData) (t t' t'' : SoFar) (k k' k'' b b' o o' : List ℕ) → Leads costs n s t k b o s' t' k' →
      Leads costs n s' t' k' b' o' s'' t'' k'' → Leads costs n s t k (b ++ b') (o ++ o') s'' t'' k''
  Leads-join s s' s'' t t' t'' k k' k'' b b' o o' first second = λ line pending.
      let one = first line pending in
      let two = second one.0 one.1 in (
        two.0,
        two.1,
        λ more text final answers.
            rw (append_assoc b b' more, append_assoc o o' text) (one.2 (b' ++ more) (o' ++ text) final (two.2 more text final answers)),
      )

  pub LeadsPart-join : (s s' : ScenarioData) (t t' : SoFar) (k k' b b' o o' : List ℕ) → Leads costs n s t k b o s' t' k' →
      LeadsPart costs n s' t' k' b' o' → LeadsPart costs n s t k (b ++ b') (o ++ o')
  LeadsPart-join s s' t t' k k' b b' o o' first second = λ line pending more.
      let one = first line pending in
      let two = second one.0 one.1 more in (
        o ++ two.0,
        two.1,
        rw (append_assoc b b' more) (one.2 (b' ++ more) two.0 two.1 two.2),
        (two.3.0, ap (λ v. o ++ v) two.3.1 ∙ sym (append_assoc o o' two.3.0)),
      )

  pub LeadsPart-longer : (s : ScenarioData) (t : SoFar) (k b b' o : List ℕ) → LeadsPart costs n s t k b o →
      LeadsPart costs n s t k (b ++ b') o
  LeadsPart-longer s t k b b' o part = λ line pending more. rw (append_assoc b b' more) (part line pending (b' ++ more))

  -- 4. The end

  pub Ends-line : (s : ScenarioData) (t : SoFar) (kept reply : List ℕ) (s' : ScenarioData) (t' : SoFar) → 0 < length kept →
      Replied costs n s t (line_of kept) reply s' t' → Ends costs n s t kept (reply ++ done_text t'.tally) t'
  Ends-line s t kept reply s' t' some replies = λ line pending.
      let some_line : eqb (length line) 0 ≡ false = empty-kept line kept pending.stands ∙ ne_eqb (length kept) 0 (λ e. omega arith) in
      rw (lines-last line pending.open_yet, some_line)
      (reply, done_text t'.tally, s', t', rw (reading-kept line kept pending.stands) replies, refl, (refl, refl))

  pub Ends-none : (s : ScenarioData) (t : SoFar) (kept : List ℕ) → length kept ≡ 0 → Ends costs n s t kept (done_text t.tally) t
  Ends-none s t kept none = λ line pending.
      let no_line : eqb (length line) 0 ≡ true = empty-kept line kept pending.stands ∙ eq-eqb (length kept) 0 none in
      rw (lines-last line pending.open_yet, no_line) (refl, refl)

  -- 5. With what was written

  pub Fed-byte : (a : Option (List ℕ)) (s : ScenarioData) (t : SoFar) (kept : List ℕ) (b : ℕ) → eqb b 10 ≡ false →
      Fed costs n a a s t kept (b ∷ []) s t (kept_after kept b)
  Fed-byte a s t kept b other = record { out = []; appends = Appends-nil a; leads = Leads-byte s t kept b other }

  -- a line was answered, or the writer failed
  pub Fed-answer : {X : Type 0} (r : Result X BenchFault) (a b : Option (List ℕ)) (s : ScenarioData) (t : SoFar) (kept : List ℕ)
      (s' : ScenarioData) (t' : SoFar) (plan : Option Plan) (moves : List (ℕ × Entry))
      → (reply : List ℕ) × Replied costs n s t (line_of (strip_carriage_return kept)) reply s' t' × Writes a b r reply →
      IsRunning plan moves s'
      → MatchResult r (λ _. Fed costs n a b s t kept (10 ∷ []) s' t' []) (λ fault. (fault ≡ WriteFailed)
      × FedPart costs n a b s t kept (10 ∷ []))
  Fed-answer (Ok x) a b s t kept s' t' plan moves (reply, replies, appends) runs =
      record { out = reply; appends = appends; leads = Leads-line s t kept reply s' t' replies }
  Fed-answer (Err e) a b s t kept s' t' plan moves (reply, replies, failed) runs = (
    failed.0,
    record {
      out = failed.1.out;
      appends = failed.1.appends;
      leads = LeadsPart-line s t kept reply failed.1.out s' t' replies (moves, runs.1) failed.1.begins;
    },
  )

  pub Fed-none : (a : Option (List ℕ)) (s : ScenarioData) (t : SoFar) (kept : List ℕ) → Fed costs n a a s t kept [] s t kept
  Fed-none a s t kept = record { out = []; appends = Appends-nil a; leads = Leads-none s t kept }

  pub Fed-join : {a b c : Option (List ℕ)} {s s' s'' : ScenarioData} {t t' t'' : SoFar} {k k' k'' bytes bytes' : List ℕ} →
      Fed costs n a b s t k bytes s' t' k' → Fed costs n b c s' t' k' bytes' s'' t'' k'' →
      Fed costs n a c s t k (bytes ++ bytes') s'' t'' k''
  Fed-join {a} {b} {c} {s} {s'} {s''} {t} {t'} {t''} {k} {k'} {k''} {bytes} {bytes'} one two = record {
    out = one.out ++ two.out;
    appends = Appends-trans a b c one.out two.out one.appends two.appends;
    leads = Leads-join s s' s'' t t' t'' k k' k'' bytes bytes' one.out two.out one.leads two.leads;
  }

  pub FedPart-join : {a b c : Option (List ℕ)} {s s' : ScenarioData} {t t' : SoFar} {k k' bytes bytes' : List ℕ} →
      Fed costs n a b s t k bytes s' t' k' → FedPart costs n b c s' t' k' bytes' → FedPart costs n a c s t k (bytes ++ bytes')
  FedPart-join {a} {b} {c} {s} {s'} {t} {t'} {k} {k'} {bytes} {bytes'} one two = record {
    out = one.out ++ two.out;
    appends = Appends-trans a b c one.out two.out one.appends two.appends;
    leads = LeadsPart-join s s' t t' k k' bytes bytes' one.out two.out one.leads two.leads;
  }

  pub FedPart-longer : {a b : Option (List ℕ)} {s : ScenarioData} {t : SoFar} {k bytes : List ℕ} (more : List ℕ) →
      FedPart costs n a b s t k bytes → FedPart costs n a b s t k (bytes ++ more)
  FedPart-longer {a} {b} {s} {t} {k} {bytes} more one =
      record { out = one.out; appends = one.appends; leads = LeadsPart-longer s t k bytes more one.out one.leads }

  -- the next byte of a chunk
  pub Fed-next : {a b c : Option (List ℕ)} {s s' s'' : ScenarioData} {t t' t'' : SoFar} {k k' k'' : List ℕ} (chunk : List ℕ) (i : ℕ) →
      i < length chunk
      → Fed costs n a b s t k (take i chunk) s' t' k' → Fed costs n b c s' t' k' (get_or chunk i 0 ∷ []) s'' t'' k'' →
      Fed costs n a c s t k (take (i + 1) chunk) s'' t'' k''
  Fed-next chunk i within one two = rw (take_more chunk i 0 within) (Fed-join one two)

  pub FedPart-next : {a b c : Option (List ℕ)} {s s' : ScenarioData} {t t' : SoFar} {k k' : List ℕ} (chunk : List ℕ) (i : ℕ) →
      i < length chunk
      → Fed costs n a b s t k (take i chunk) s' t' k' → FedPart costs n b c s' t' k' (get_or chunk i 0 ∷ [])
      → FedPart costs n a c s t k chunk
  FedPart-next {a} {c = c} {s = s} {t = t} {k = k} chunk i within one two =
      let split : chunk ≡ take i chunk ++ (get_or chunk i 0 ∷ drop (i + 1) chunk) =
      sym (take-append-drop i chunk) ∙ ap (λ v. take i chunk ++ v) (drop_more chunk i 0 within) in
      subst (λ v. FedPart costs n a c s t k v) (sym split) (FedPart-join one (FedPart-longer (drop (i + 1) chunk) two))

  -- what was written so far begins a text of what was read
  pub FedPart-from_all : {a b : Option (List ℕ)} {s s' : ScenarioData} {t t' : SoFar} {k k' bytes : List ℕ} → HasRun s' →
      Fed costs n a b s t k bytes s' t' k' → FedPart costs n a b s t k bytes
  FedPart-from_all {s' = s'} {t' = t'} run one = record {
    out = one.out;
    appends = one.appends;
    leads = λ line pending more.
        let here = one.leads line pending in
        let after = some_answers s' run t' (lines (here.0 ++ more)) in
        (one.out ++ after.0, after.1, here.2 more after.0 after.1 after.2, (after.0, refl));
  }

  -- 6. The end, with what was written

  EndsPart-from_all : (s : ScenarioData) (t : SoFar) (kept text : List ℕ) (final : SoFar) (out : List ℕ)
      → Ends costs n s t kept text final →
      Begins out text → EndsPart costs n s t kept out
  EndsPart-from_all s t kept text final out ends begins = λ line pending. (text, final, ends line pending, begins)

  pub Finish-none : {X : Type 0} (r : Result X BenchFault) (a b : Option (List ℕ)) (s : ScenarioData) (t : SoFar) (kept : List ℕ) →
      length kept ≡ 0 → Writes a b r (done_text t.tally)
      → MatchResult r (λ _. Finished costs n a b s t kept t) (λ fault. (fault ≡ WriteFailed) × FinishedPart costs n a b s t kept)
  Finish-none (Ok x) a b s t kept none writes = record { out = done_text t.tally; appends = writes; ends = Ends-none s t kept none }
  Finish-none (Err e) a b s t kept none failed = (
    failed.0,
    record {
      out = failed.1.out;
      appends = failed.1.appends;
      ends = EndsPart-from_all s t kept (done_text t.tally) t failed.1.out
          (Ends-none s t kept none) failed.1.begins;
    },
  )

  pub Finish-failed : (a b : Option (List ℕ)) (s : ScenarioData) (t : SoFar) (kept : List ℕ) (s' : ScenarioData) (t' : SoFar)
      (fault : BenchFault) → 0 < length kept
      → (reply : List ℕ) × Replied costs n s t (line_of kept) reply s' t' × ((fault ≡ WriteFailed) × WrotePart a b reply)
      → (fault ≡ WriteFailed)
      × FinishedPart costs n a b s t kept
  Finish-failed a b s t kept s' t' fault some (reply, replies, failed) = (
    failed.0,
    record {
      out = failed.1.out;
      appends = failed.1.appends;
      ends = EndsPart-from_all s t kept (reply ++ done_text t'.tally) t' failed.1.out (Ends-line s t kept reply s' t' some replies) (
        failed.1.begins.0 ++ done_text t'.tally,
        ap (λ v. v ++ done_text t'.tally) failed.1.begins.1
            ∙ append_assoc failed.1.out failed.1.begins.0 (done_text t'.tally),
      );
    },
  )

  pub Finish-line : {X : Type 0} (r : Result X BenchFault) (a b c : Option (List ℕ)) (s : ScenarioData) (t : SoFar) (kept : List ℕ)
      (s' : ScenarioData) (t' : SoFar) → 0 < length kept
      → (reply : List ℕ) × Replied costs n s t (line_of kept) reply s' t' × Appends a b reply → Writes b c r (done_text t'.tally)
      → MatchResult r (λ _. Finished costs n a c s t kept t') (λ fault. (fault ≡ WriteFailed) × FinishedPart costs n a c s t kept)
  Finish-line (Ok x) a b c s t kept s' t' some (reply, replies, appends) writes = record {
    out = reply ++ done_text t'.tally;
    appends = Appends-trans a b c reply (done_text t'.tally) appends writes;
    ends = Ends-line s t kept reply s' t' some replies;
  }
  Finish-line (Err e) a b c s t kept s' t' some (reply, replies, appends) failed = (
    failed.0,
    record {
      out = reply ++ failed.1.out;
      appends = Appends-trans a b c reply failed.1.out appends failed.1.appends;
      ends = EndsPart-from_all s t kept (reply ++ done_text t'.tally) t' (reply ++ failed.1.out)
          (Ends-line s t kept reply s' t' some replies)
          (failed.1.begins.0, ap (λ v. reply ++ v) failed.1.begins.1 ∙ sym (append_assoc reply failed.1.out failed.1.begins.0));
    },
  )

  -- 7. The replies of a session, their counts, and the meter

  pub Replies-from_answers : (s : ScenarioData) (t : SoFar) (ls : List (List ℕ)) (text : List ℕ) (final : SoFar) →
      Answers costs n s t ls text final
      → (replies : List ℕ) × (outcomes : List Outcome) × (are : Replies n s ls replies outcomes)
      × (final.tally ≡ fold counted t.tally outcomes) × (text ≡ replies ++ done_text final.tally)
      × LinesCost costs n s ls replies outcomes are t.meter final.meter
  Replies-from_answers s t [] text final (text_is, final_is) = (
    [],
    [],
    (refl, refl),
    ap (λ (u : SoFar). u.tally) final_is,
    text_is ∙ ap (λ (u : SoFar). done_text u.tally) (sym final_is),
    ap (λ (u : SoFar). u.meter) final_is,
  )
  Replies-from_answers s t (line ∷ more) text final (reply, rest, s', t', replied, text_is, answers) =
      let others = Replies-from_answers s' t' more rest final answers in (
        reply ++ others.0,
        replied.0 ∷ others.1,
        (reply, others.0, s', replied.0, others.1, replied.1, refl, refl, others.2),
        others.3 ∙ ap (λ (u : Tally). fold counted u others.1) replied.2,
        text_is ∙ ap (λ v. reply ++ v) others.4 ∙ sym (append_assoc reply others.0 (done_text final.tally)),
        (t'.meter, replied.3, others.5),
      )

  -- from a count of no lines on
  Session-from_answers : (m : ℕ) (s : ScenarioData) (bytes text : List ℕ) (final : SoFar) →
      Answers costs n s (so_far no_lines m) (lines bytes) text final
      → (session : Session n s bytes text final.tally)
      × LinesCost costs n s (lines bytes) session.replies session.outcomes session.are_replies m final.meter
  Session-from_answers m s bytes text final answers =
      let replies = Replies-from_answers s (so_far no_lines m) (lines bytes) text final answers in (
        record { replies = replies.0; outcomes = replies.1; are_replies = replies.2; tally_is = replies.3; text_is = replies.4 },
        replies.5,
      )

  BeginsSession-from : (m : ℕ) (s : ScenarioData) (bytes out text : List ℕ) (final : SoFar) →
      Answers costs n s (so_far no_lines m) (lines bytes) text final → Begins out text → BeginsSession n s bytes out
  BeginsSession-from m s bytes out text final answers begins = record {
    text = text;
    tally = final.tally;
    session = (Session-from_answers m s bytes text final answers).0;
    begins = begins;
  }

  -- 8. The whole session

  pub SessionDone-from : {left left' a b c : Option (List ℕ)} {m : ℕ} {s s' : ScenarioData} {t' final : SoFar} {k' : List ℕ} →
      TookIn costs n left left' a b s (so_far no_lines m) [] s' t' k' → Finished costs n b c s' t' k' final
      → (done : SessionDone n left left' a c s final.tally)
      × LinesCost costs n s (lines done.bytes) done.session.replies done.session.outcomes done.session.are_replies m final.meter
  SessionDone-from {a = a} {b = b} {c = c} {m = m} {s = s} {s' = s'} {t' = t'} {final = final} took finished =
      let here = took.fed.leads [] IsPending-empty in
      let last : Answers costs n s' t' (lines (here.0 ++ [])) finished.out final = rw (append-nil here.0) (finished.ends here.0 here.1) in
      let whole = here.2 [] finished.out final last in
      let session = Session-from_answers m s took.bytes (took.fed.out ++ finished.out) final (rw (append-nil took.bytes) at whole) in (
        record {
          bytes = took.bytes;
          consumes = took.consumes;
          at_end = took.at_end;
          few = took.few;
          out = took.fed.out ++ finished.out;
          appends = Appends-trans a b c took.fed.out finished.out took.fed.appends finished.appends;
          session = session.0;
        },
        session.1,
      )

  pub SessionCut-from_end : {left left' a b c : Option (List ℕ)} {m : ℕ} {s s' : ScenarioData} {t' : SoFar} {k' : List ℕ} →
      TookIn costs n left left' a b s (so_far no_lines m) [] s' t' k' → FinishedPart costs n b c s' t' k' → SessionCut n left left' a c s
  SessionCut-from_end {a = a} {b = b} {c = c} {m = m} {s = s} {s' = s'} {t' = t'} took finished =
      let here = took.fed.leads [] IsPending-empty in
      let part = finished.ends here.0 here.1 in
      let last : Answers costs n s' t' (lines (here.0 ++ [])) part.0 part.1 = rw (append-nil here.0) part.2 in
      let whole = here.2 [] part.0 part.1 last in
      record {
        bytes = took.bytes;
        consumes = took.consumes;
        few = omega (arith, took.few);
        out = took.fed.out ++ finished.out;
        appends = Appends-trans a b c took.fed.out finished.out took.fed.appends finished.appends;
        begins =
            BeginsSession-from m s took.bytes (took.fed.out ++ finished.out) (took.fed.out ++ part.0) part.1
            (rw (append-nil took.bytes) at whole)
            (part.3.0, ap (λ v. took.fed.out ++ v) part.3.1 ∙ sym (append_assoc took.fed.out finished.out part.3.0));
      }

  begins_any : {a b : Option (List ℕ)} {m : ℕ} {s : ScenarioData} {bytes : List ℕ}
      (fed : FedPart costs n a b s (so_far no_lines m) [] bytes) (more : List ℕ) →
      BeginsSession n s (bytes ++ more) fed.out
  begins_any {m = m} {s = s} {bytes = bytes} fed more =
      let part = fed.leads [] IsPending-empty more in
      BeginsSession-from m s (bytes ++ more) fed.out part.0 part.1 part.2 part.3

  SessionStopped-from : {fault : BenchFault} {left left' a b : Option (List ℕ)} {m : ℕ} {s : ScenarioData} (count : ℕ)
      (took : TookPart costs n fault left left' a b s (so_far no_lines m) []) → length took.bytes ≡ count →
      SessionStopped n left left' a b s count
  SessionStopped-from count took counts = record {
    bytes = took.bytes;
    consumes = took.consumes;
    counts = counts;
    out = took.fed.out;
    appends = took.fed.appends;
    begins = begins_any took.fed;
  }

  SessionCut-from_part : {fault : BenchFault} {left left' a b : Option (List ℕ)} {m : ℕ} {s : ScenarioData} →
      TookPart costs n fault left left' a b s (so_far no_lines m) [] → SessionCut n left left' a b s
  SessionCut-from_part took = record {
    bytes = took.bytes;
    consumes = took.consumes;
    few = took.few;
    out = took.fed.out;
    appends = took.fed.appends;
    begins = let all = begins_any took.fed [] in rw (append-nil took.bytes) at all;
  }

  pub SessionEnds-from_part : (fault : BenchFault) (left left' a b : Option (List ℕ)) (m : ℕ) (s : ScenarioData) →
      TookPart costs n fault left left' a b s (so_far no_lines m) [] → SessionEnds n (Err fault) left left' a b s
  SessionEnds-from_part ReadFailed left left' a b m s took =
      (length took.bytes, took.read_failed refl, SessionStopped-from (length took.bytes) took refl)
  SessionEnds-from_part WriteFailed left left' a b m s took = SessionCut-from_part took
  SessionEnds-from_part Memory left left' a b m s took = absurd (took.not_memory refl)
  SessionEnds-from_part ReaderTooLong left left' a b m s took = SessionStopped-from 16777217 took (took.long refl)

  -- 9. The loop over the reader

  pub Taking-none : (left taken : Option (List ℕ)) (s : ScenarioData) (t : SoFar) (kept : List ℕ) →
      Taking costs n 0 left left taken taken s t kept s t kept
  Taking-none left taken s t kept = record { bytes = []; count = refl; consumes = Consumes-nil left; fed = Fed-none taken s t kept }

  pub Taking-more : {total : ℕ} {a b c p q r : Option (List ℕ)} {s s' s'' : ScenarioData} {t t' t'' : SoFar} {k k' k'' : List ℕ}
      (chunk : List ℕ) (m : ℕ) → length chunk ≡ m
      → Taking costs n total a b p q s t k s' t' k' → Consumes b c chunk → Fed costs n q r s' t' k' chunk s'' t'' k'' →
      Taking costs n (total + m) a c p r s t k s'' t'' k''
  Taking-more {a = a} {b = b} {c = c} chunk m count one consumes fed = record {
    bytes = one.bytes ++ chunk;
    count = omega (arith, length-append one.bytes chunk, one.count);
    consumes = Consumes-trans a b c one.bytes chunk one.consumes consumes;
    fed = Fed-join one.fed fed;
  }

  pub TookIn-from : {total : ℕ} {a b c p q : Option (List ℕ)} {s s' : ScenarioData} {t t' : SoFar} {k k' : List ℕ} →
      Taking costs n total a b p q s t k s' t' k' → total ≤ 16777216 → Consumes b c [] → IsAtEnd c → TookIn costs n a c p q s t k s' t' k'
  TookIn-from {a = a} {b = b} {c = c} one few consumes at_end = record {
    bytes = one.bytes ++ [];
    consumes = Consumes-trans a b c one.bytes [] one.consumes consumes;
    at_end = at_end;
    few = omega (arith, ap length (append-nil one.bytes), one.count);
    fed = rw (append-nil one.bytes) one.fed;
  }

  -- a read failed
  pub TookPart-read : {total : ℕ} {a b c p q : Option (List ℕ)} {s s' : ScenarioData} {t t' : SoFar} {k k' : List ℕ} → HasRun s' →
      Taking costs n total a b p q s t k s' t' k' → total ≤ 16777216 → Keeps b c → TookPart costs n ReadFailed a c p q s t k
  TookPart-read {a = a} {b = b} {c = c} run one few keeps = record {
    bytes = one.bytes;
    consumes = Consumes-kept a b c one.bytes one.consumes keeps;
    few = omega (arith, one.count);
    read_failed = λ e. omega (arith, one.count);
    long = λ e. absurd cc;
    not_memory = λ e. cc;
    fed = FedPart-from_all run one.fed;
  }

  -- the reader doesn't end in time
  pub TookPart-long : {a b p q : Option (List ℕ)} {s s' : ScenarioData} {t t' : SoFar} {k k' : List ℕ} → HasRun s' →
      Taking costs n 16777217 a b p q s t k s' t' k' → TookPart costs n ReaderTooLong a b p q s t k
  TookPart-long run one = record {
    bytes = one.bytes;
    consumes = one.consumes;
    few = omega (arith, one.count);
    read_failed = λ e. absurd cc;
    long = λ e. one.count;
    not_memory = λ e. cc;
    fed = FedPart-from_all run one.fed;
  }

  -- a write failed
  pub TookPart-write : {total : ℕ} {a b c p q r : Option (List ℕ)} {s s' : ScenarioData} {t t' : SoFar} {k k' : List ℕ} (chunk : List ℕ) →
      total + length chunk ≤ 16777217
      → Taking costs n total a b p q s t k s' t' k' → Consumes b c chunk → FedPart costs n q r s' t' k' chunk →
      TookPart costs n WriteFailed a c p r s t k
  TookPart-write {a = a} {b = b} {c = c} chunk few one consumes part = record {
    bytes = one.bytes ++ chunk;
    consumes = Consumes-trans a b c one.bytes chunk one.consumes consumes;
    few = omega (arith, length-append one.bytes chunk, one.count);
    read_failed = λ e. absurd cc;
    long = λ e. absurd cc;
    not_memory = λ e. cc;
    fed = FedPart-join one.fed part;
  }

  -- 10. Over devices that tell their bytes

  pub WritesSession-from : (left left' taken taken' : Option (List ℕ)) (s : ScenarioData) (final : Tally) →
      SessionDone n left left' taken taken' s final → WritesSession n (Ok final) left taken taken' s
  WritesSession-from None left' taken taken' s final done = tt
  WritesSession-from (Some xs) None taken taken' s final done = absurd done.consumes
  WritesSession-from (Some xs) (Some ys) None taken' s final done = tt
  WritesSession-from (Some xs) (Some ys) (Some before) None s final done = absurd done.appends
  WritesSession-from (Some xs) (Some ys) (Some before) (Some after) s final done =
      let whole : xs ≡ done.bytes = done.consumes ∙ ap (λ v. done.bytes ++ v) done.at_end ∙ append-nil done.bytes in
      (done.out, rw whole done.session, ap Some done.appends)
