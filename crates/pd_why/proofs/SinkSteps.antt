-- What a step of the sink's engine does to the Request that waits: it stays or is dropped, but where the step sends one.
use Rattle.std.proofs.Common.{◌≡◌, ℕ, ◌%◌, ◌^◌, Bool, true, false, not, ◌&&◌, if◌then◌else◌, List, [], ◌∷◌, ◌++◌, Option, Some, None}
use Rattle.std.proofs.Common.{refl, sym, ap}
use Rattle.std.proofs.Common.{◌∙◌, subst, arith}
use Rattle.pd_header.specs.Kinds.{number_of}
use Rattle.pd_header.specs.declared.kind.Kind.TheVariants.{Request}
use Rattle.pd_setup.specs.Sinks.{SinkData}
use Rattle.pd_sink.specs.declared.kinds.State.{State}
use Rattle.pd_sink.specs.declared.kinds.State.TheVariants as state
use Rattle.pd_sink.specs.declared.kinds.Stimulus.{Stimulus}
use Rattle.pd_sink.specs.declared.kinds.Sending.{Sending}
use Rattle.pd_sink.specs.declared.kinds.Sending.TheVariants as sending
use Rattle.pd_sink.specs.declared.kinds.Act.{Act}
use Rattle.pd_sink.specs.declared.kinds.Act.TheVariants as act
use Rattle.pd_sink.specs.Record.{SinkRecord}
use Rattle.pd_sink.specs.Acts.{send, asked_in, request_of}
use Rattle.pd_sink.specs.Step.{stepped, acts_of}
use Rattle.pd_sink.proofs.Requests as sink
use Rattle.pd_sink.proofs.Requests.{Requests, none, one, is_ended, leads_to_select, notes_mismatch, requests-stepped, sends_none}
use Rattle.pd_line.specs.declared.port_parts.Waiting.{Waiting}
use Rattle.pd_line.specs.declared.port_parts.Waiting.TheVariants as waits
use Rattle.pd_line.specs.Told.{sink_message}
use Rattle.pd_why.specs.Wishes.{is_select, asks_in, wish_of, sent_with, request_by}

-- what waits, where it is a Request, has these objects
abbrev pub IsAsked : List ℕ → Waiting → Type 0
IsAsked q waits.Nothing = Unit {0}
IsAsked q (waits.Message m) = m.kind % 2 ^ 5 ≡ number_of Request → m.objects ≡ q
IsAsked q waits.HardReset = Unit {0}

-- what waits on the sink after its acts
abbrev pub sink_left : List Act → Waiting → Waiting
sink_left [] w = w
sink_left (act.DropWaiting ∷ acts) w = sink_left acts waits.Nothing
sink_left (act.Send s ∷ acts) w = sink_left acts (waits.Message (sink_message s))
sink_left (act.SendHardReset ∷ acts) w = sink_left acts waits.HardReset
sink_left (a ∷ acts) w = sink_left acts w

apart : {A : Type 0} (k : ℕ) → (k ≡ 2 → ⊥) → k ≡ 2 → A
apart k n e = absurd (n e)

-- acts that send none leave it or drop it
none_waits : (q : List ℕ) (acts : List Act) (w : Waiting) → sends_none acts ≡ true → IsAsked q w → IsAsked q (sink_left acts w)
none_waits q [] w n h = h
none_waits q (act.DropWaiting ∷ acts) w n h = none_waits q acts waits.Nothing n tt
none_waits q (act.Send (sending.Request object) ∷ acts) w n h = absurd (cc)
none_waits q (act.Send sending.GetSourceCap ∷ acts) w n h =
    none_waits q acts (waits.Message (sink_message sending.GetSourceCap)) n (apart 7 (λ e. omega arith))
none_waits q (act.Send (sending.SinkCapabilities objects) ∷ acts) w n h =
    none_waits q acts (waits.Message (sink_message (sending.SinkCapabilities objects))) n (apart 4 (λ e. omega arith))
none_waits q (act.Send sending.Accept ∷ acts) w n h =
    none_waits q acts (waits.Message (sink_message sending.Accept)) n (apart 3 (λ e. omega arith))
none_waits q (act.Send sending.SoftReset ∷ acts) w n h =
    none_waits q acts (waits.Message (sink_message sending.SoftReset)) n (apart 13 (λ e. omega arith))
none_waits q (act.SendHardReset ∷ acts) w n h = none_waits q acts waits.HardReset n tt
none_waits q (a ∷ acts) w n h = none_waits q acts w n h

-- and those that send one leave it
sent_waits : (o : Option Sending) → IsAsked (sent_with o) (sink_left (send o ++ []) waits.Nothing)
sent_waits None = tt
sent_waits (Some s) = λ e. refl

one_waits : (b : Bool) (o : Option Sending) (w : Waiting) →
    IsAsked (sent_with o) (sink_left (act.DropWaiting ∷ (notes_mismatch b ++ (send o ++ []))) w)
one_waits true o w = sent_waits o
one_waits false o w = sent_waits o

-- ---- a step

-- the objects of the Request that was sent last, after a step between these records
abbrev pub asked_next : List ℕ → SinkRecord → SinkRecord → List ℕ
asked_next q old new = if asks_in old.state new.state then request_by (wish_of new) else q

-- what waits is the Request that was sent last, and without a timer that ends none is sent
pub record Asks (q : List ℕ) (x : Stimulus) (old new : SinkRecord) (before now : Waiting) : Type 0 where
  pub waits : IsAsked q before → IsAsked (asked_next q old new) now
  pub calm : is_ended x ≡ false → asks_in old.state new.state ≡ false

select_is : (s : State) → is_select s ≡ sink.is_select s
select_is state.SelectCapability = refl
select_is s = refl

asks_is : (s t : State) → asks_in s t ≡ leads_to_select s t
asks_is s t =
    ap (λ b. not b && is_select t) (select_is s) ∙ ap (λ b. not (sink.is_select s) && b) (select_is t)

by_wish : (r : SinkRecord) (o : Option SinkData) → let z : SinkRecord = record r { sink = o } in
    request_by (wish_of z) ≡ sent_with (request_of (asked_in z))
by_wish r None = refl
by_wish r (Some s) = refl

if_true : {A : Type 0} (b : Bool) (p q : A) → b ≡ true → (if b then p else q) ≡ p
if_true true p q h = refl
if_true false p q h = absurd (cc)

if_false : {A : Type 0} (b : Bool) (p q : A) → b ≡ false → (if b then p else q) ≡ q
if_false true p q h = absurd (cc)
if_false false p q h = refl

never : {A : Type 0} (b : Bool) → b ≡ true → b ≡ false → A
never b h k = let e : true ≡ false = sym h ∙ k in absurd (cc)

by_requests : (q : List ℕ) (x : Stimulus) (old new : SinkRecord) (acts : List Act) (w : Waiting) → Requests x old new acts →
    Asks q x old new w (sink_left acts w)
by_requests q x old new acts w (none to n) =
    let no : asks_in old.state new.state ≡ false = asks_is old.state new.state ∙ to in
    record {
      waits = λ h. subst (λ p. IsAsked p (sink_left acts w)) (sym (if_false (asks_in old.state new.state) (request_by (wish_of new)) q no))
          (none_waits q acts w n h);
      calm = λ e. no;
    }
by_requests q x old new acts w (one to ended b is) =
    let yes : asks_in old.state new.state ≡ true = asks_is old.state new.state ∙ to in
    let sent : IsAsked (sent_with (request_of (asked_in new))) (sink_left acts w) =
    subst (λ z. IsAsked (sent_with (request_of (asked_in new))) (sink_left z w)) (sym is) (one_waits b (request_of (asked_in new)) w) in
    record {
      waits = λ h. subst (λ p. IsAsked p (sink_left acts w))
          (sym (if_true (asks_in old.state new.state) (request_by (wish_of new)) q yes ∙ by_wish new new.sink)) sent;
      calm = λ e. never (is_ended x) ended e;
    }

pub sink_asks : (q : List ℕ) (now : ℕ) (x : Stimulus) (r : SinkRecord) (w : Waiting) →
    Asks q x r (stepped now x r) w (sink_left (acts_of now x r) w)
sink_asks q now x r w = by_requests q x r (stepped now x r) (acts_of now x r) w (requests-stepped now x r)
