-- What becomes of a port's contract, accepted request and delivered offer.
use Rattle.std.proofs.Common.{◌≡◌, ℕ, Bool, true, false, ◌&&◌, if◌then◌else◌, is_some, Option, Some, None, refl, sym, subst, inl, inr}
use Rattle.pd_objects.specs.declared.query.Answer.{Answer}
use Rattle.pd_source.specs.declared.kinds.Stimulus.{Stimulus}
use Rattle.pd_source.specs.Record.{SourceSettings, SourceRecord, off}
use Rattle.pd_source.specs.Step.{stepped}
use Rattle.pd_source.specs.Sound.{IsTaken}
use Rattle.pd_source.proofs.Accepting.{accepting-keeps}
use Rattle.pd_source.proofs.Commits.{still, switched_off, commits-stepped}
use Rattle.pd_source.proofs.Agreed.{contract-stepped, accepted-stepped, delivered-stepped}
use Rattle.pd_line.specs.Record.{PortRecord}
use Rattle.pd_setup.specs.Settings.{SettingsData}
use Rattle.pd_port.specs.declared.due.Due.{Due}
use Rattle.pd_port.specs.Happens.{is_budget, is_detach}
use Rattle.pd_port.specs.Laws.{source_after_told}
use Rattle.pd_port.specs.SourceTold.{source_told, told_if_shed}
use Rattle.pd_port.specs.Port.{source_settings, whole, record_after}
use Rattle.pd_port.specs.Sound.{Agrees}
use Rattle.pd_port.proofs.Asked.{source_when, record_after-source}

same : (s : SourceSettings) (a : Option Answer) (r : SourceRecord) → Agrees s a r r
same s a r = record { contract = inl refl; accepted = inl refl; delivered = inl refl; kept = inl refl; made = inr (still r) }

nothing : (s : SourceSettings) (a : Option Answer) (r : SourceRecord) → Agrees s a r (off s)
nothing s a r =
    record {
      contract = inr (inl refl);
      accepted = inr (inl refl);
      delivered = inr (inl refl);
      kept = inr (inr refl);
      made = inr (switched_off s r);
    }

step : (s : SourceSettings) (t : ℕ) (x : Stimulus) (a : Option Answer) (r : SourceRecord) → Agrees s a r (stepped s t x a r)
step s t x a r = record {
  contract = contract-stepped s t x a r;
  accepted = accepted-stepped s t x a r;
  delivered = delivered-stepped s t x a r;
  kept = accepting-keeps s t x a r;
  made = commits-stepped s t x a r;
}

-- without an answer nothing is accepted
none_taken : (a : Option Answer) (r : SourceRecord) (new : Option ℕ) → IsTaken None r new → IsTaken a r new
none_taken a r new (inl h) = inl h
none_taken a r new (inr (inl h)) = inr (inl h)
none_taken a r new (inr (inr h)) = absurd (let e : false ≡ true = h.2 in cc)

unanswered : (s : SourceSettings) (a : Option Answer) (r new : SourceRecord) → Agrees s None r new → Agrees s a r new
unanswered s a r new h =
    record {
      contract = h.contract;
      accepted = none_taken a r new.accepted_request h.accepted;
      delivered = h.delivered;
      kept = h.kept;
      made = h.made;
    }

after_told : (s : SourceSettings) (t : ℕ) (x : Option Stimulus) (a : Option Answer) (r : SourceRecord) →
    Agrees s a r (source_after_told s t x a r)
after_told s t None a r = same s a r
after_told s t (Some x) a r = step s t x a r

by_detach : (b : Bool) (s : SourceSettings) (a : Option Answer) (r new : SourceRecord) → Agrees s a r new →
    Agrees s a r (if b then off s else new)
by_detach true s a r new h = nothing s a r
by_detach false s a r new h = h

by_budget : (b : Bool) (s : SettingsData) (r : PortRecord) (d : Due) (a : Option Answer) →
    Agrees (source_settings s) a r.source (source_when b s r d a)
by_budget true s r d a = unanswered (source_settings s) a r.source _ (after_told (source_settings s) d.time (told_if_shed a) None r.source)
by_budget false s r d a =
    by_detach (is_detach d.what && is_some r.cable) (source_settings s) a r.source _
    (after_told (source_settings s) d.time (source_told d.what (whole s r)) a r.source)

pub ports_agree : (s : SettingsData) (r : PortRecord) (d : Due) (a : Option Answer) →
    Agrees (source_settings s) a r.source (record_after s r d a).source
ports_agree s r d a =
    subst (Agrees (source_settings s) a r.source) (sym (record_after-source s r d a)) (by_budget (is_budget d.what)
    s r d a)
