-- Two records are the same where each of their parts is.
use Rattle.std.proofs.Common.{◌≡◌}
use Rattle.pd_source.specs.Record.{SourceRecord}

pub same_records : (r q : SourceRecord) → r.state ≡ q.state → r.deadlines ≡ q.deadlines → r.caps_counter ≡ q.caps_counter →
    r.discover_identity_counter ≡ q.discover_identity_counter → r.hard_reset_counter ≡ q.hard_reset_counter → r.limit ≡ q.limit →
    r.sent ≡ q.sent → r.revision ≡ q.revision → r.kept_request ≡ q.kept_request → r.accepted_request ≡ q.accepted_request →
    r.draft_offer ≡ q.draft_offer → r.delivered_offer ≡ q.delivered_offer → r.contract ≡ q.contract → r ≡ q
same_records r q state deadlines caps identity hard limit sent revision kept accepted draft delivered contract = λ i. record {
  state = state i;
  deadlines = deadlines i;
  caps_counter = caps i;
  discover_identity_counter = identity i;
  hard_reset_counter = hard i;
  limit = limit i;
  sent = sent i;
  revision = revision i;
  kept_request = kept i;
  accepted_request = accepted i;
  draft_offer = draft i;
  delivered_offer = delivered i;
  contract = contract i;
}
