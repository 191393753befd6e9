-- What the layer's rules come to.
use Rattle.std.proofs.Common.{◌≡◌, ◌==◌, ℕ, zero, suc, ◌+◌, ◌%◌, ◌^◌, ◌<◌, ◌≤◌, nat_lt, Bool, true, false, if◌then◌else◌, Option}
use Rattle.std.proofs.Common.{Some, refl, sym, ap, ◌∙◌, arith}
use Rattle.std.proofs.lemmas.Bool.{eq-eqb, lt-ltb, le-ltb}
use Rattle.pd_packet.specs.Contents.{Contents}
use Rattle.pd_header.specs.declared.side.Side.{Side}
use Rattle.pd_header.specs.Header.{id_of}
use Rattle.pd_header.specs.Kinds.{kind_of_header, is_soft_reset}
use Rattle.pd_protocol.specs.declared.layer.LayerAct.{LayerAct}
use Rattle.pd_protocol.specs.declared.layer.LayerAct.TheVariants.{Sent, Retry, Failed, Idle, Up, Repeat}
use Rattle.pd_protocol.specs.Messages.{MessageData, acknowledges, packet_of}
use Rattle.pd_protocol.specs.LayerRecord.{LayerRecord, OutstandingData}
use Rattle.pd_protocol.specs.Layer.{closed, submit, submitted, good_crc, timed_out, received, is_stored, tries_of}
use Rattle.pd_protocol.specs.Laws.{IsFree, AnsweredIsSent, UnansweredFails, TwiceIsRepeat, first_packet, after_timeouts}
use Rattle.pd_protocol.proofs.Headers.{id_is}

-- a layer whose packet went out n times
abbrev waiting : LayerRecord → Contents → ℕ → LayerRecord
waiting l p n = record l { outstanding = Some (record { packet = p; tries = n }) }

abbrev risen : LayerRecord → LayerRecord
risen l = record l { next_id = (l.next_id + 1) % 8 }

began : (l : LayerRecord) (revision : ℕ) (m : MessageData) → IsFree l → (submit l revision m).0 ≡ waiting l (first_packet l revision m) 1
unfolding submit
began l revision m free = ap (λ (o : Option OutstandingData). (submitted o l revision m).0) free

ended : (l : LayerRecord) (p : Contents) (n : ℕ) → IsFree l → closed (waiting l p n) ≡ risen l
ended l p n free = ap (λ (o : Option OutstandingData). record l { next_id = (l.next_id + 1) % 8; outstanding = o }) (sym free)

-- a GoodCRC of that ID, by the test's answer
answered : (l : LayerRecord) (p : Contents) (id : ℕ) → id_of p.header == id ≡ true
    → good_crc (waiting l p 1) id ≡ (closed (waiting l p 1), Sent)
unfolding good_crc
answered l p id e = ap (λ (c : Bool). if c then (closed (waiting l p 1), Sent) else (waiting l p 1, Idle)) e

same_id : (hearer : Side) (answering : ℕ) (p : Contents) → answering < 2 ^ 2
    → id_of p.header ≡ id_of (acknowledges hearer answering p).header
unfolding acknowledges packet_of id_of
same_id hearer answering p fits = sym (id_is hearer p.channel answering (id_of p.header) 1 0 fits (omega arith) (omega arith) (omega arith))

pub answered_is_sent : AnsweredIsSent
answered_is_sent l revision answering m hearer free fits =
    let p = first_packet l revision m in
    let id = id_of (acknowledges hearer answering p).header in
    ap (λ (k : LayerRecord). good_crc k id) (began l revision m free)
    ∙ answered l p id (eq-eqb (id_of p.header) id (same_id hearer answering p fits))
    ∙ ap (λ (k : LayerRecord). (k, Sent)) (ended l p 1 free)

-- a time-out, by the test's answer
timed : (l : LayerRecord) (p : Contents) (n : ℕ) (b : Bool) → nat_lt n (tries_of p.header) ≡ b
    → timed_out (waiting l p n) ≡ if b then (waiting l p (n + 1), Retry p) else (closed (waiting l p n), Failed)
unfolding timed_out
timed l p n b e = ap (λ (c : Bool). if c then (waiting l p (n + 1), Retry p) else (closed (waiting l p n), Failed)) e

retried : (l : LayerRecord) (p : Contents) (n : ℕ) → n < tries_of p.header → timed_out (waiting l p n) ≡ (waiting l p (n + 1), Retry p)
retried l p n lt = timed l p n true (lt-ltb n (tries_of p.header) lt)

failed : (l : LayerRecord) (p : Contents) (n : ℕ) → tries_of p.header ≤ n → timed_out (waiting l p n) ≡ (closed (waiting l p n), Failed)
failed l p n le = timed l p n false (le-ltb n (tries_of p.header) le)

-- n time-outs after the first try, the packet went out n + 1 times
went_out : (l : LayerRecord) (p : Contents) (k : LayerRecord) (n : ℕ) → k ≡ waiting l p 1 → n < tries_of p.header
    → after_timeouts n k ≡ waiting l p (n + 1)
went_out l p k zero e lt = e
went_out l p k (suc n) e lt =
    let more : n + 1 < tries_of p.header = omega arith in
    let here : after_timeouts n k ≡ waiting l p (n + 1) = went_out l p k n e (omega arith) in
    let next : n + 1 + 1 ≡ suc n + 1 = omega arith in
    ap (λ (r : LayerRecord). (timed_out r).0) here ∙ ap (λ (a : LayerRecord × LayerAct). a.0) (retried l p (n + 1) more)
    ∙ ap (λ (i : ℕ). waiting l p i) next

pub unanswered_fails : UnansweredFails
unanswered_fails l revision m free =
    let p = first_packet l revision m in
    let first = began l revision m free in
    record {
      again = λ n lt. ap (λ (r : LayerRecord). (timed_out r).1) (went_out l p (submit l revision m).0 n first (omega arith))
          ∙ ap (λ (a : LayerRecord × LayerAct). a.1) (retried l p (n + 1) lt);
      last = λ n e. ap (λ (r : LayerRecord). timed_out r) (went_out l p (submit l revision m).0 n first (omega arith))
          ∙ failed l p (n + 1) (omega arith) ∙ ap (λ (k : LayerRecord). (k, Failed)) (ended l p (n + 1) free);
    }

came : (l : LayerRecord) (header : ℕ) → is_soft_reset (kind_of_header header) ≡ false
    → received l header ≡ (record l { stored_id = Some (id_of header) }, if is_stored l.stored_id (id_of header) then Repeat else Up)
unfolding received
came l header other = rw other refl

pub twice_is_repeat : TwiceIsRepeat
twice_is_repeat l header other =
    let id = id_of header in
    ap (λ (k : LayerRecord). (received k header).1) (ap (λ (a : LayerRecord × LayerAct). a.0) (came l header other))
    ∙ ap (λ (a : LayerRecord × LayerAct). a.1) (came (record l { stored_id = Some id }) header other)
    ∙ ap (λ (b : Bool). if b then Repeat else Up) (eq-eqb id id refl)
