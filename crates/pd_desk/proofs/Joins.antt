-- How the desk's answers join.
use Rattle.std.proofs.Common.{◌≡◌, ℕ, ◌+◌, ◌<◌, ◌≤◌, Bool, true, false, cond, eqb, inl, inr, List, [], ◌∷◌, ◌++◌, length, map, All}
use Rattle.std.proofs.Common.{refl, sym, ap, ◌∙◌, append_assoc, arith, subst, Option, Result, Ok, Err}
use Rattle.std.specs.Prelude.{MatchResult}
use Rattle.std.specs.Str.Lines.{lines, strip_carriage_return}
use Rattle.std.specs.Io.KnownBytes.{Appends}
use Rattle.std.proofs.KnownBytes.{Appends-trans, Consumes-trans}
use Rattle.std.proofs.lemmas.Bool.{ne_eqb}
use Rattle.std.proofs.lemmas.List.{append-nil, length-append, map-append}
use Rattle.std.proofs.lemmas.List.Elements.{All-nil, All-head, All-tail, All-push}
use Rattle.pd_port.specs.declared.entry.Entry.{Entry}
use Rattle.pd_scenario.specs.Scenarios.{ScenarioData}
use Rattle.pd_scenario.specs.Plan.{Plan}
use Rattle.pd_device.specs.Device.{Writes, WrotePart}
use Rattle.pd_device.specs.declared.fault.BenchFault.{BenchFault}
use Rattle.pd_device.specs.declared.fault.BenchFault.TheVariants.{ReadFailed, WriteFailed, Memory, ReaderTooLong}
use Rattle.pd_device.proofs.DeviceLemmas.{WrotePart-after, WrotePart-longer}
use Rattle.pd_bench.specs.Pending.{IsPending}
use Rattle.pd_bench.specs.Session.{done_text}
use Rattle.pd_bench.specs.Stream.{IsRunning}
use Rattle.pd_bench.specs.Traces.{HasNoLineFeed, ended}
use Rattle.pd_bench.proofs.PendingLemmas.{empty-kept, lines-last}
use Rattle.pd_bench.proofs.TakenOut.{lines_can_be_taken_out}
use Rattle.std.specs.Io.KnownBytes.{Consumes}
use Rattle.pd_desk.specs.Commands.{is_quit}
use Rattle.pd_desk.specs.Desk.{DeskReply, DeskReplies, WithShelf, at_first, is_saved}
use Rattle.pd_desk.specs.Ends.{Beside, GoesOut, GoOut, GoesOn, GoOn, EndsAt, DeskDone, DeskStopped, DeskCut, DeskEnds}
use Rattle.pd_desk.specs.Shelf.{Shelved}
use Rattle.pd_desk.specs.Taking.{TakingLine, TookLine, TookEnd, StopsAt, Answering, AnsweredEnded, last_line, FinishedAll, FinishedSome}
use Rattle.pd_desk.specs.declared.left.Left.{Left}
use Rattle.pd_desk.proofs.Kept.{DeskReply-kept, DeskReply-cut, is_quit-cut}

-- 1. Replies, and what is told beside them

DeskReplies-one : (n : ℕ) (d : WithShelf) (line reply told : List ℕ) (d' : WithShelf) → DeskReply n d line reply told d' →
    DeskReplies n d (line ∷ []) reply (told ∷ []) d'
DeskReplies-one n d line reply told d' h = (reply, told, [], [], d', h, sym (append-nil reply), refl, (refl, refl, refl))

DeskReplies-append : (n : ℕ) (d : WithShelf) (ls : List (List ℕ)) (text : List ℕ) (tolds : List (List ℕ)) (d' : WithShelf)
    (ls' : List (List ℕ)) (text' : List ℕ) (tolds' : List (List ℕ)) (d'' : WithShelf)
    → DeskReplies n d ls text tolds d' → DeskReplies n d' ls' text' tolds' d'' →
    DeskReplies n d (ls ++ ls') (text ++ text') (tolds ++ tolds') d''
DeskReplies-append n d [] text tolds d' ls' text' tolds' d'' (text_is, tolds_are, same) second =
    rw (text_is, tolds_are) (rw same at second)
DeskReplies-append n d (line ∷ more) text tolds d' ls' text' tolds' d'' (reply, told, rest, others, next, is, text_is, tolds_are, replies)
    second = (
      reply,
      told,
      rest ++ text',
      others ++ tolds',
      next,
      is,
      ap (λ v. v ++ text') text_is ∙ append_assoc reply rest text',
      ap (λ (v : List (List ℕ)). v ++ tolds') tolds_are,
      DeskReplies-append n next more rest others d' ls' text' tolds' d'' replies second,
    )

GoOut-one : (told : List ℕ) (a b : Beside) → GoesOut told a b → GoOut (told ∷ []) a b
GoOut-one told a b h = (b, h, refl)

GoOut-append : (tolds tolds' : List (List ℕ)) (a b c : Beside) → GoOut tolds a b → GoOut tolds' b c → GoOut (tolds ++ tolds') a c
GoOut-append [] tolds' a b c same second = rw same at second
GoOut-append (told ∷ more) tolds' a b c (next, first, others) second = (next, first, GoOut-append more tolds' next b c others second)

-- 2. Lines

ended-push : (whole : List (List ℕ)) (raw : List ℕ) → ended (whole ++ raw ∷ []) ≡ ended whole ++ (raw ++ 10 ∷ [])
ended-push [] raw = refl
ended-push (line ∷ more) raw =
    ap (λ v. line ++ 10 ∷ v) (ended-push more raw) ∙ sym (append_assoc line (10 ∷ ended more) (raw ++ 10 ∷ []))

-- so many lines, and then what no line feed ends
pub lines-open : (whole : List (List ℕ)) (rest : List ℕ) → All HasNoLineFeed whole →
    lines (ended whole ++ rest) ≡ map strip_carriage_return whole ++ lines rest
lines-open whole rest h = (lines_can_be_taken_out.ended_line whole [] rest h (λ i x within. absurd (omega arith))).without_line

last-replies : (n : ℕ) (d : WithShelf) (raw kept reply : List ℕ) (tolds : List (List ℕ)) (d' : WithShelf) → IsPending raw kept →
    DeskReplies n d (last_line kept) reply tolds d' → DeskReplies n d (lines raw) reply tolds d'
last-replies n d raw [] reply tolds d' pending replies =
    let none : eqb (length raw) 0 ≡ true = empty-kept raw [] pending.stands in
    rw (lines-last raw pending.open_yet, none) replies
last-replies n d raw (byte ∷ more) reply tolds d' pending (one, told, rest, others, next, is, text_is, tolds_are, replies) =
    let some : eqb (length raw) 0 ≡ false = empty-kept raw (byte ∷ more) pending.stands ∙ ne_eqb (length (byte ∷ more)) 0 (λ e. omega arith)
    in rw (lines-last raw pending.open_yet, some)
    (one, told, rest, others, next, DeskReply-kept n d raw (byte ∷ more) one told next pending.stands is, text_is, tolds_are, replies)

pub last_line-some : (line : List ℕ) → 0 < length line → last_line line ≡ line ∷ []
last_line-some [] some = absurd (omega arith)
last_line-some (byte ∷ more) some = refl

pub last_line-none : (line : List ℕ) → length line ≡ 0 → last_line line ≡ []
last_line-none [] none = refl
last_line-none (byte ∷ more) none = absurd (omega arith)

-- such lines, and then one at most
GoOn-append : (ls last : List (List ℕ)) → All GoesOn ls → length last ≤ 1 → GoOn (ls ++ last)
GoOn-append [] [] h few = tt
GoOn-append [] (x ∷ []) h few = tt
GoOn-append [] (x ∷ (y ∷ more)) h few = absurd (omega (arith, few))
GoOn-append (l ∷ []) [] h few = tt
GoOn-append (l ∷ []) (x ∷ more) h few = (All-head GoesOn l [] h, GoOn-append [] (x ∷ more) (All-nil GoesOn) few)
GoOn-append (l ∷ (m ∷ ls)) last h few = (All-head GoesOn l (m ∷ ls) h, GoOn-append (m ∷ ls) last (All-tail GoesOn l (m ∷ ls) h) few)

few_lines : (t : Bool) (line : List ℕ) (ls : List (List ℕ)) → ls ≡ cond t [] (line ∷ []) → length ls ≤ 1
few_lines true line ls is = omega (arith, ap length is)
few_lines false line ls is = omega (arith, ap length is)

-- what was read last: the bytes that no line feed ends, or the line that ends the session
record LastRead (left left' : Option (List ℕ)) (total : ℕ) (kept : List ℕ) : Type 0 where
  pub bytes : List ℕ
  pub its : List (List ℕ)
  pub one : length its ≤ 1
  pub consumes : Consumes left left' bytes
  pub few : total + length bytes ≤ 16777217
  pub lines_are : (whole : List (List ℕ)) → All HasNoLineFeed whole → lines (ended whole ++ bytes) ≡ map strip_carriage_return whole ++ its
  pub replies : (n : ℕ) (d : WithShelf) (reply : List ℕ) (tolds : List (List ℕ)) (d' : WithShelf)
      → DeskReplies n d (last_line kept) reply tolds d' → DeskReplies n d its reply tolds d'
  pub ends : (whole : List (List ℕ)) → All HasNoLineFeed whole → total ≡ length (ended whole) → EndsAt left' (ended whole ++ bytes)

quit-replies : (n : ℕ) (d : WithShelf) (raw uncut kept reply : List ℕ) (tolds : List (List ℕ)) (d' : WithShelf) → IsPending raw uncut →
    kept ≡ strip_carriage_return uncut → is_quit kept ≡ true → DeskReplies n d (last_line kept) reply tolds d' →
    DeskReplies n d (strip_carriage_return raw ∷ []) reply tolds d'
quit-replies n d raw uncut [] reply tolds d' pending cut quits replies = absurd (cc)
quit-replies n d raw uncut (byte ∷ more) reply tolds d' pending cut quits
    (one, told, rest, others, next, is, text_is, tolds_are, replies) = (
      one,
      told,
      rest,
      others,
      next,
      DeskReply-cut n d raw uncut one told next pending.stands (subst (λ v. DeskReply n d v one told next) cut is),
      text_is,
      tolds_are,
      replies,
    )

last_read : (left left' : Option (List ℕ)) (total total' : ℕ) (kept : List ℕ) → TookEnd left left' total total' kept →
    LastRead left left' total kept
last_read left left' total total' kept (inl took) =
    let taking = took.taking in
    record {
      bytes = taking.raw;
      its = lines taking.raw;
      one = few_lines (eqb (length taking.raw) 0) taking.raw (lines taking.raw) (lines-last taking.raw taking.pending.open_yet);
      consumes = taking.consumes;
      few = omega (arith, taking.counts, took.few);
      lines_are = lines-open-last taking.raw;
      replies = λ n d reply tolds d' replies. last-replies n d taking.raw kept reply tolds d' taking.pending replies;
      ends = λ whole h is. inl (took.at_end, omega (arith, length-append (ended whole) taking.raw, taking.counts, took.few, is));
    }
  where
    lines-open-last : (raw : List ℕ) (whole : List (List ℕ)) → All HasNoLineFeed whole →
        lines (ended whole ++ raw) ≡ map strip_carriage_return whole ++ lines raw
    lines-open-last raw whole h = lines-open whole raw h
last_read left left' total total' kept (inr (took, quits)) = record {
  bytes = took.raw ++ 10 ∷ [];
  its = strip_carriage_return took.raw ∷ [];
  one = omega arith;
  consumes = took.consumes;
  few = omega (arith, length-append took.raw (10 ∷ []), took.counts, took.few);
  lines_are = λ whole h. (lines_can_be_taken_out.ended_line whole took.raw [] h took.pending.open_yet).with_line;
  replies = λ n d reply tolds d' replies. quit-replies n d took.raw took.uncut kept reply tolds d' took.pending took.cut quits replies;
  ends = λ whole h is. inr (
    record {
      front = map strip_carriage_return whole;
      last = strip_carriage_return took.raw;
      are = (lines_can_be_taken_out.ended_line whole took.raw [] h took.pending.open_yet).with_line;
      quits = is_quit-cut took.raw took.uncut took.pending.stands ∙ ap is_quit (sym took.cut) ∙ quits;
    },
    omega (arith, length-append (ended whole) (took.raw ++ 10 ∷ []), length-append took.raw (10 ∷ []), took.counts, took.few, is),
  );
}

abbrev left_by : WithShelf → Left
left_by d = record { tally = d.desk.tally; is_saved = is_saved d.desk }

-- 3. The lines that line feeds end

-- one line more, which was answered
pub Answering-more : (n : ℕ) (a b c p q r : Option (List ℕ)) (w w' w'' : Beside) (shelf : Shelved) (s : ScenarioData)
    (d d' : WithShelf) (total total' : ℕ) (kept reply told : List ℕ)
    → Answering n a b p q w w' shelf s d total → TookLine b c total total' kept → is_quit kept ≡ false → DeskReply n d kept reply told d'
    → Appends q r reply → GoesOut told w' w'' → Answering n a c p r w w'' shelf s d' total'
Answering-more n a b c p q r w w' w'' shelf s d d' total total' kept reply told so_far took other replies appends goes =
    let is = DeskReply-cut n d took.raw took.uncut reply told d' took.pending.stands (rw took.cut at replies) in
    record {
      whole = so_far.whole ++ took.raw ∷ [];
      are_whole = All-push HasNoLineFeed so_far.whole took.raw so_far.are_whole took.pending.open_yet;
      go_on = rw (map-append strip_carriage_return so_far.whole (took.raw ∷ []))
          (All-push GoesOn (map strip_carriage_return so_far.whole) (strip_carriage_return took.raw) so_far.go_on
          (is_quit-cut took.raw took.uncut took.pending.stands ∙ ap is_quit (sym took.cut) ∙ other));
      consumes = rw (ended-push so_far.whole took.raw)
          (Consumes-trans a b c (ended so_far.whole) (took.raw ++ 10 ∷ []) so_far.consumes took.consumes);
      counts = omega (
        arith,
        ap length (ended-push so_far.whole took.raw),
        length-append (ended so_far.whole) (took.raw ++ 10 ∷ []),
        length-append took.raw (10 ∷ []),
        took.counts,
        so_far.counts,
      );
      out = so_far.out ++ reply;
      appends = Appends-trans p q r so_far.out reply so_far.appends appends;
      tolds = so_far.tolds ++ told ∷ [];
      tells = GoOut-append so_far.tolds (told ∷ []) w w' w'' so_far.tells (GoOut-one told w' w'' goes);
      are_replies = rw (map-append strip_carriage_return so_far.whole (took.raw ∷ []))
          (DeskReplies-append n (at_first s shelf) (map strip_carriage_return so_far.whole) so_far.out so_far.tolds d
          (strip_carriage_return took.raw ∷ []) reply (told ∷ []) d' so_far.are_replies
          (DeskReplies-one n d (strip_carriage_return took.raw) reply told d' is));
    }

-- reading ended within a line
DeskStopped-from : (n : ℕ) (a b c p q : Option (List ℕ)) (w w' : Beside) (shelf : Shelved) (s : ScenarioData) (d : WithShelf)
    (total total' : ℕ) (kept : List ℕ) (plan : Option Plan) (entries : List (ℕ × Entry))
    → Answering n a b p q w w' shelf s d total → TakingLine b c total total' kept → IsRunning plan entries d.desk.scenario →
    DeskStopped n a c p q w w' shelf d.shelf s total'
DeskStopped-from n a b c p q w w' shelf s d total total' kept plan entries so_far taking runs = record {
  whole = so_far.whole;
  open_yet = taking.raw;
  are_whole = so_far.are_whole;
  go_on = so_far.go_on;
  is_open = taking.pending.open_yet;
  consumes = Consumes-trans a b c (ended so_far.whole) taking.raw so_far.consumes taking.consumes;
  counts = omega (arith, length-append (ended so_far.whole) taking.raw, taking.counts, so_far.counts);
  out = so_far.out;
  appends = so_far.appends;
  tolds = so_far.tolds;
  tells = so_far.tells;
  after = d;
  are_replies = so_far.are_replies;
  shelf_is = refl;
  run = (entries, runs.1);
}

pub DeskEnds-stopped : (fault : BenchFault) (n : ℕ) (a b c p q : Option (List ℕ)) (w w' : Beside) (shelf : Shelved) (s : ScenarioData)
    (d : WithShelf) (total total' : ℕ) (kept : List ℕ) (plan : Option Plan) (entries : List (ℕ × Entry))
    → Answering n a b p q w w' shelf s d total → TakingLine b c total total' kept × StopsAt fault total' →
    IsRunning plan entries d.desk.scenario → DeskEnds n (Err fault) a c p q w w' shelf d.shelf s
DeskEnds-stopped ReadFailed n a b c p q w w' shelf s d total total' kept plan entries so_far taking runs =
    (total', taking.1, DeskStopped-from n a b c p q w w' shelf s d total total' kept plan entries so_far taking.0 runs)
DeskEnds-stopped WriteFailed n a b c p q w w' shelf s d total total' kept plan entries so_far taking runs = absurd taking.1
DeskEnds-stopped Memory n a b c p q w w' shelf s d total total' kept plan entries so_far taking runs = absurd taking.1
DeskEnds-stopped ReaderTooLong n a b c p q w w' shelf s d total total' kept plan entries so_far taking runs =
    rw taking.1 at (DeskStopped-from n a b c p q w w' shelf s d total total' kept plan entries so_far taking.0 runs)

-- the writer failed within the reply to a line
pub DeskCut-line : (n : ℕ) (a b c p q r : Option (List ℕ)) (w w' : Beside) (shelf : Shelved) (s : ScenarioData)
    (d d' : WithShelf) (total total' : ℕ) (kept reply told : List ℕ)
    → Answering n a b p q w w' shelf s d total → TookLine b c total total' kept → DeskReply n d kept reply told d' → WrotePart q r reply →
    DeskCut n a c p r w w' shelf d'.shelf s
DeskCut-line n a b c p q r w w' shelf s d d' total total' kept reply told so_far took replies wrote =
    let is = DeskReply-cut n d took.raw took.uncut reply told d' took.pending.stands (rw took.cut at replies) in
    let part = WrotePart-longer p r (so_far.out ++ reply) (done_text d'.desk.tally)
    (WrotePart-after p q r so_far.out reply so_far.appends wrote) in
    record {
      bytes = ended so_far.whole ++ (took.raw ++ 10 ∷ []);
      consumes = Consumes-trans a b c (ended so_far.whole) (took.raw ++ 10 ∷ []) so_far.consumes took.consumes;
      few = omega (
        arith,
        length-append (ended so_far.whole) (took.raw ++ 10 ∷ []),
        length-append took.raw (10 ∷ []),
        took.counts,
        took.few,
        so_far.counts,
      );
      out = part.out;
      appends = part.appends;
      tolds = so_far.tolds;
      later = told ∷ [];
      tells = so_far.tells;
      whole = (so_far.out ++ reply) ++ done_text d'.desk.tally;
      end = left_by d';
      text = record {
        replies = so_far.out ++ reply;
        after = d';
        go_on = rw ((lines_can_be_taken_out.ended_line so_far.whole took.raw [] so_far.are_whole took.pending.open_yet).with_line)
            (GoOn-append (map strip_carriage_return so_far.whole) (strip_carriage_return took.raw ∷ []) so_far.go_on (omega arith));
        are_replies = rw ((lines_can_be_taken_out.ended_line so_far.whole took.raw [] so_far.are_whole took.pending.open_yet).with_line)
            (DeskReplies-append n (at_first s shelf) (map strip_carriage_return so_far.whole) so_far.out so_far.tolds d
            (strip_carriage_return took.raw ∷ []) reply (told ∷ []) d' so_far.are_replies
            (DeskReplies-one n d (strip_carriage_return took.raw) reply told d' is));
        shelf_is = refl;
        tally_is = refl;
        saved_is = refl;
        text_is = refl;
      };
      begins = part.begins;
    }

-- 4. The end

-- the counts alone were to be written
pub Finish-none : (n : ℕ) (told : Result (Unit {0}) BenchFault) (p q : Option (List ℕ)) (w : Beside) (d : WithShelf) (kept : List ℕ) →
    length kept ≡ 0 → Writes p q told (done_text d.desk.tally)
    → MatchResult told (λ _. FinishedAll n p q w w d kept d) (λ fault. (fault ≡ WriteFailed) × FinishedSome n p q w w d kept d.shelf)
Finish-none n (Ok done) p q w d kept none writes = record {
  reply = [];
  appends = writes;
  tolds = [];
  tells = refl;
  are_replies = rw (last_line-none kept none) (refl, refl, refl);
}
Finish-none n (Err fault) p q w d kept none writes = (
  writes.0,
  record {
    reply = [];
    after = d;
    shelf_is = refl;
    wrote = writes.1;
    tolds = [];
    later = [];
    tells = refl;
    are_replies = rw (last_line-none kept none) (refl, refl, refl);
  },
)

-- the last line was answered
pub Finish-line : (n : ℕ) (told : Result (Unit {0}) BenchFault) (p q r : Option (List ℕ)) (w w' : Beside) (d d' : WithShelf) (kept reply
    beside : List ℕ) → 0 < length kept → DeskReply n d kept reply beside d' → Appends p q reply → GoesOut beside w w' →
    Writes q r told (done_text d'.desk.tally)
    → MatchResult told (λ _. FinishedAll n p r w w' d kept d') (λ fault. (fault ≡ WriteFailed) × FinishedSome n p r w w' d kept d'.shelf)
Finish-line n (Ok done) p q r w w' d d' kept reply beside some replies appends goes writes = record {
  reply = reply;
  appends = Appends-trans p q r reply (done_text d'.desk.tally) appends writes;
  tolds = beside ∷ [];
  tells = GoOut-one beside w w' goes;
  are_replies = rw (last_line-some kept some) (DeskReplies-one n d kept reply beside d' replies);
}
Finish-line n (Err fault) p q r w w' d d' kept reply beside some replies appends goes writes = (
  writes.0,
  record {
    reply = reply;
    after = d';
    shelf_is = refl;
    wrote = WrotePart-after p q r reply (done_text d'.desk.tally) appends writes.1;
    tolds = beside ∷ [];
    later = [];
    tells = GoOut-one beside w w' goes;
    are_replies = rw (last_line-some kept some) (DeskReplies-one n d kept reply beside d' replies);
  },
)

-- the writer failed within the reply to the last line
pub Finish-failed : (n : ℕ) (p q : Option (List ℕ)) (w w' : Beside) (d d' : WithShelf) (kept reply beside : List ℕ) (fault : BenchFault)
    → 0 < length kept → DeskReply n d kept reply beside d' → (fault ≡ WriteFailed) × WrotePart p q reply → w' ≡ w →
    (fault ≡ WriteFailed) × FinishedSome n p q w w' d kept d'.shelf
Finish-failed n p q w w' d d' kept reply beside fault some replies failed same = (
  failed.0,
  record {
    reply = reply;
    after = d';
    shelf_is = refl;
    wrote = WrotePart-longer p q reply (done_text d'.desk.tally) failed.1;
    tolds = [];
    later = beside ∷ [];
    tells = same;
    are_replies = rw (last_line-some kept some) (DeskReplies-one n d kept reply beside d' replies);
  },
)

all-replies : (n : ℕ) (shelf : Shelved) (s : ScenarioData) (whole : List (List ℕ)) (left left' : Option (List ℕ)) (total : ℕ)
    (kept out reply : List ℕ) (tolds tolds' : List (List ℕ)) (d d' : WithShelf)
    → All HasNoLineFeed whole → (read : LastRead left left' total kept)
    → DeskReplies n (at_first s shelf) (map strip_carriage_return whole) out tolds d → DeskReplies n d (last_line kept) reply tolds' d' →
    DeskReplies n (at_first s shelf) (lines (ended whole ++ read.bytes)) (out ++ reply) (tolds ++ tolds') d'
all-replies n shelf s whole left left' total kept out reply tolds tolds' d d' h read first second =
    rw (read.lines_are whole h)
    (DeskReplies-append n (at_first s shelf) (map strip_carriage_return whole) out tolds d read.its reply tolds' d' first
    (read.replies n d reply tolds' d' second))

all-go-on : (whole : List (List ℕ)) (left left' : Option (List ℕ)) (total : ℕ) (kept : List ℕ) → All HasNoLineFeed whole →
    All GoesOn (map strip_carriage_return whole) → (read : LastRead left left' total kept) → GoOn (lines (ended whole ++ read.bytes))
all-go-on whole left left' total kept h go_on read =
    rw (read.lines_are whole h) (GoOn-append (map strip_carriage_return whole) read.its go_on read.one)

-- all was read and answered
pub DeskDone-from : (n : ℕ) (a c p q r : Option (List ℕ)) (w w' w'' : Beside) (shelf : Shelved) (s : ScenarioData)
    (d d' : WithShelf) (kept : List ℕ) → AnsweredEnded n a c p q w w' shelf s d kept → FinishedAll n q r w' w'' d kept d' →
    DeskDone n a c p r w w'' shelf d'.shelf s (left_by d')
DeskDone-from n a c p q r w w' w'' shelf s d d' kept so_far last =
    let one = so_far.answering in
    let read = last_read so_far.between c so_far.total so_far.total' kept so_far.took in
    record {
      bytes = ended one.whole ++ read.bytes;
      consumes = Consumes-trans a so_far.between c (ended one.whole) read.bytes one.consumes read.consumes;
      ends = read.ends one.whole one.are_whole one.counts;
      out = one.out ++ (last.reply ++ done_text d'.desk.tally);
      appends = Appends-trans p q r one.out (last.reply ++ done_text d'.desk.tally) one.appends last.appends;
      tolds = one.tolds ++ last.tolds;
      tells = GoOut-append one.tolds last.tolds w w' w'' one.tells last.tells;
      text = record {
        replies = one.out ++ last.reply;
        after = d';
        go_on = all-go-on one.whole so_far.between c so_far.total kept one.are_whole one.go_on read;
        are_replies =
            all-replies n shelf s one.whole so_far.between c so_far.total kept one.out last.reply one.tolds last.tolds d d' one.are_whole
            read one.are_replies last.are_replies;
        shelf_is = refl;
        tally_is = refl;
        saved_is = refl;
        text_is = sym (append_assoc one.out last.reply (done_text d'.desk.tally));
      };
    }

-- the writer failed at the end
pub DeskCut-end : (n : ℕ) (a c p q r : Option (List ℕ)) (w w' w'' : Beside) (shelf shelf' : Shelved) (s : ScenarioData)
    (d : WithShelf) (kept : List ℕ) → AnsweredEnded n a c p q w w' shelf s d kept → FinishedSome n q r w' w'' d kept shelf' →
    DeskCut n a c p r w w'' shelf shelf' s
DeskCut-end n a c p q r w w' w'' shelf shelf' s d kept so_far last =
    let one = so_far.answering in
    let read = last_read so_far.between c so_far.total so_far.total' kept so_far.took in
    let part = WrotePart-after p q r one.out (last.reply ++ done_text last.after.desk.tally) one.appends last.wrote in
    record {
      bytes = ended one.whole ++ read.bytes;
      consumes = Consumes-trans a so_far.between c (ended one.whole) read.bytes one.consumes read.consumes;
      few = omega (arith, length-append (ended one.whole) read.bytes, read.few, one.counts);
      out = part.out;
      appends = part.appends;
      tolds = one.tolds ++ last.tolds;
      later = last.later;
      tells = GoOut-append one.tolds last.tolds w w' w'' one.tells last.tells;
      whole = one.out ++ (last.reply ++ done_text last.after.desk.tally);
      end = left_by last.after;
      text = record {
        replies = one.out ++ last.reply;
        after = last.after;
        go_on = all-go-on one.whole so_far.between c so_far.total kept one.are_whole one.go_on read;
        are_replies = rw (append_assoc one.tolds last.tolds last.later)
            (all-replies n shelf s one.whole so_far.between c so_far.total kept one.out last.reply one.tolds (last.tolds ++ last.later) d
            last.after one.are_whole read one.are_replies last.are_replies);
        shelf_is = last.shelf_is;
        tally_is = refl;
        saved_is = refl;
        text_is = sym (append_assoc one.out last.reply (done_text last.after.desk.tally));
      };
      begins = part.begins;
    }
