-- Two records are the same where each of their parts is.
use Rattle.std.proofs.Common.{◌≡◌}
use Rattle.pd_sink.specs.Record.{SinkRecord}

pub same_records : (r q : SinkRecord) → r.state ≡ q.state → r.deadlines ≡ q.deadlines → r.sent ≡ q.sent →
    r.hard_reset_counter ≡ q.hard_reset_counter → r.again ≡ q.again → r.fresh ≡ q.fresh → r.has_contract ≡ q.has_contract →
    r.sink ≡ q.sink → r.kept_offer ≡ q.kept_offer → r ≡ q
same_records r q state deadlines sent hard again fresh contract sink kept =
    λ i. record {
      state = state i;
      deadlines = deadlines i;
      sent = sent i;
      hard_reset_counter = hard i;
      again = again i;
      fresh = fresh i;
      has_contract = contract i;
      sink = sink i;
      kept_offer = kept i;
    }
