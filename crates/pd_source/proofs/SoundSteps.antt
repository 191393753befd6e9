-- What holds of the source's record holds after each step.
use Rattle.std.proofs.Common.{ℕ, inl, inr, Bool, true, false, ◌==◌, if◌then◌else◌, Option, Some, None, refl}
use Rattle.pd_objects.specs.declared.query.Answer.{Answer}
use Rattle.pd_source.specs.declared.kinds.Stimulus.{Stimulus}
use Rattle.pd_source.specs.declared.kinds.Stimulus.TheVariants as stimulus
use Rattle.pd_source.specs.Record.{SourceSettings, SourceRecord, off, cable_current}
use Rattle.pd_source.specs.Table.{holds, heard_of, is_request_valid}
use Rattle.pd_source.specs.Step.{before_row, row_at, deeds_at, stepped, query_of}
use Rattle.pd_source.specs.Sound.{IsLimit, is_early, is_transition, IsSound, IsAnswer}
use Rattle.pd_source.proofs.SoundActs.{walk}
use Rattle.pd_source.proofs.SoundRows.{row-kept, valid-fits, is_fits}
use Rattle.pd_source.proofs.Limits.{given}

-- before the row nothing of this changes
sound-before : (s : SourceSettings) (x : Stimulus) (r : SourceRecord) → IsSound s r → IsSound s (before_row x r)
sound-before s (stimulus.Sent m) r h = record {
  limit = h.limit;
  draft = h.draft;
  delivered = h.delivered;
  accepted = h.accepted;
  contract = h.contract;
  accepted_in_transition = h.accepted_in_transition;
  nothing_early = λ q. let n = h.nothing_early q in
      record { draft = n.draft; delivered = n.delivered; accepted = n.accepted; contract = n.contract };
}
sound-before s (stimulus.Ended t) r h = record {
  limit = h.limit;
  draft = h.draft;
  delivered = h.delivered;
  accepted = h.accepted;
  contract = h.contract;
  accepted_in_transition = h.accepted_in_transition;
  nothing_early = λ q. let n = h.nothing_early q in
      record { draft = n.draft; delivered = n.delivered; accepted = n.accepted; contract = n.contract };
}
sound-before s _ r h = h

pub sound-off : (s : SourceSettings) → IsSound s (off s)
sound-off s = record {
  limit = known s.identity_tries;
  draft = inl refl;
  delivered = inl refl;
  accepted = λ object e. absurd (cc);
  contract = λ c e. absurd (cc);
  accepted_in_transition = λ e. refl;
  nothing_early = λ e. record { draft = refl; delivered = refl; accepted = refl; contract = refl };
} where
  by_test : (b : Bool) → IsLimit (if b then Some cable_current else None)
  by_test true = inr (inl refl)
  by_test false = inl refl

  known : (n : ℕ) → IsLimit (if n == 0 then Some cable_current else None)
  known n = by_test (n == 0)

pub sound-stepped : (s : SourceSettings) (now : ℕ) (x : Stimulus) (a : Option Answer) (r : SourceRecord) → IsSound s r →
    IsAnswer s (query_of s x r) a → IsSound s (stepped s now x a r)
unfolding stepped
sound-stepped s now x a r h q =
    let z = before_row x r in
    let i = sound-before s x r h in
    let w = row_at s x a z in
    walk s (deeds_at s x a z) now x a z z.state (is_transition z.state) (is_early z.state) (is_fits w.guard)
    (row-kept (holds s a z) z.state (heard_of x)) refl (given s x a r q)
    (record {
      limit = i.limit;
      draft = i.draft;
      delivered = i.delivered;
      requested = i.accepted;
      contract = i.contract;
      none_accepted = i.accepted_in_transition;
      has_nothing = i.nothing_early;
      is_valid = λ f. valid-fits (holds s a z) z.state (heard_of x) (is_request_valid z) refl f;
    })
