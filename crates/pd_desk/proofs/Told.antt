-- What is told beside an answer.
use Rattle.std.proofs.Common.{◌≡◌, ◌≢◌, ℕ, List, [], Result, Ok, Err, inl, inr, refl, sym, ◌∙◌}
use Rattle.std.proofs.Common.{Bool, true, false}
use Rattle.pd_scenario.specs.Scenarios.{ScenarioData}
use Rattle.pd_edit.specs.Refusals.{edited}
use Rattle.pd_edit_lines.specs.declared.line.Line.{Line}
use Rattle.pd_edit_lines.specs.declared.line.Line.TheVariants as lines_read
use Rattle.pd_edit_lines.specs.declared.line.Show.{Show}
use Rattle.pd_edit_lines.specs.Numbers.{number_of}
use Rattle.pd_edit_lines.specs.declared.fault.EditFault.{EditFault}
use Rattle.pd_edit_lines.specs.declared.fault.EditFault.TheVariants as edit_faults
use Rattle.pd_bench.specs.declared.tally.Outcome.{Outcome}
use Rattle.pd_bench.specs.declared.tally.Outcome.TheVariants.{Skipped, Accepted, Refused, Shown}
use Rattle.pd_bench.specs.Session.{Reply, EditReply, ShowReply, can_show, refused_text}
use Rattle.pd_hints.specs.Reasons.{reason_of}
use Rattle.std.proofs.KnownBytes.{Appends-nil}
use Rattle.pd_device.specs.declared.fault.BenchFault.{BenchFault}
use Rattle.pd_desk.specs.LineReasons.{reasons_text}
use Rattle.pd_desk.specs.Desk.{LineTells, TellsWhyNot}
use Rattle.pd_desk.specs.Ends.{Beside, ToldAfter}
use Rattle.pd_desk.specs.Laws.{RefusalsAreTold}
use Rattle.pd_desk.specs.Reasons.{as_line}

-- what can be told, whatever becomes of the line
pub some_told : (fault : EditFault) (outcome : Outcome) (reasons reply : List ℕ)
    → (outcome ≡ Refused → reply ≡ refused_text (number_of fault)) → (told : List ℕ) × LineTells outcome reasons reply told
some_told fault Skipped reasons reply is = ([], refl)
some_told fault Accepted reasons reply is = ([], refl)
some_told fault Refused reasons reply is = (as_line (reason_of (number_of fault)), inr (fault, is refl, refl))
some_told fault Shown reasons reply is = ([], refl)

-- beside a line that isn't refused nothing is told
pub none_told : (outcome : Outcome) (reasons reply : List ℕ) → outcome ≢ Refused → LineTells outcome reasons reply []
none_told Skipped reasons reply e = refl
none_told Accepted reasons reply e = refl
none_told Refused reasons reply e = absurd (e refl)
none_told Shown reasons reply e = refl

same_edit : (s : ScenarioData) (r : Result ScenarioData EditFault) (reply : List ℕ) (s' : ScenarioData) (outcome : Outcome) →
    outcome ≡ Refused → EditReply s r reply s' outcome → s' ≡ s
same_edit s (Err fault) reply s' outcome is h = h.1
same_edit s (Ok after) reply s' outcome is (inl h) = let both = sym h.2 ∙ is in absurd (cc)
same_edit s (Ok after) reply s' outcome is (inr h) = h.1

same_show : (can : Bool) (show : Show) (s : ScenarioData) (reply : List ℕ) (s' : ScenarioData) (outcome : Outcome) →
    ShowReply can show s reply s' outcome → s' ≡ s
same_show true show s reply s' outcome h = h.3
same_show false show s reply s' outcome h = h.1

-- a show is refused for its port alone
pub show_refused : (can : Bool) (show : Show) (s : ScenarioData) (reply : List ℕ) (s' : ScenarioData) (outcome : Outcome) →
    ShowReply can show s reply s' outcome → outcome ≡ Refused → reply ≡ refused_text (number_of edit_faults.NoSuchPort)
show_refused true show s reply s' outcome h is = let both = sym h.4 ∙ is in absurd (cc)
show_refused false show s reply s' outcome h is = h.0

-- a refused line leaves the scenario as it is
pub same_scenario : (n : ℕ) (s : ScenarioData) (r : Result Line EditFault) (reply : List ℕ) (s' : ScenarioData) (outcome : Outcome) →
    outcome ≡ Refused → Reply n s r reply s' outcome → s' ≡ s
same_scenario n s (Ok lines_read.Skip) reply s' outcome is h = h.1
same_scenario n s (Ok (lines_read.Edit edit)) reply s' outcome is h = same_edit s (edited n s edit) reply s' outcome is h
same_scenario n s (Ok (lines_read.Show show)) reply s' outcome is h = same_show (can_show n show) show s reply s' outcome h
same_scenario n s (Err fault) reply s' outcome is h = h.1

-- what fault a refused line has
pub some_fault : (n : ℕ) (s : ScenarioData) (r : Result Line EditFault) (reply : List ℕ) (s' : ScenarioData) (outcome : Outcome) →
    Reply n s r reply s' outcome → (fault : EditFault) × (outcome ≡ Refused → reply ≡ refused_text (number_of fault))
some_fault n s (Ok lines_read.Skip) reply s' outcome h = (edit_faults.Memory, λ is. let both = sym h.2 ∙ is in absurd (cc))
some_fault n s (Ok (lines_read.Edit edit)) reply s' outcome h = edit_fault s (edited n s edit) reply s' outcome h
  where
    edit_fault : (s : ScenarioData) (r : Result ScenarioData EditFault) (reply : List ℕ) (s' : ScenarioData) (outcome : Outcome) →
        EditReply s r reply s' outcome → (fault : EditFault) × (outcome ≡ Refused → reply ≡ refused_text (number_of fault))
    edit_fault s (Err fault) reply s' outcome h = (fault, λ is. h.0)
    edit_fault s (Ok after) reply s' outcome (inl h) = (edit_faults.Memory, λ is. let both = sym h.2 ∙ is in absurd (cc))
    edit_fault s (Ok after) reply s' outcome (inr h) = (edit_faults.Memory, λ is. h.0)
some_fault n s (Ok (lines_read.Show show)) reply s' outcome h =
    (edit_faults.NoSuchPort, show_refused (can_show n show) show s reply s' outcome h)
some_fault n s (Err fault) reply s' outcome h = (fault, λ is. h.0)

-- the reason of a refused line, with the scenario that stands after it
pub refusal_told : (n : ℕ) (s s' : ScenarioData) (line reply told : List ℕ) (fault : EditFault) (outcome : Outcome) → s' ≡ s →
    outcome ≡ Refused → reply ≡ refused_text (number_of fault)
    → TellsWhyNot (reasons_text n s' line) (refused_text (number_of fault)) told → LineTells outcome (reasons_text n s line) reply told
refusal_told n s s' line reply told fault outcome same is reply_is tells = rw (is, reply_is, sym same) tells

pub told_nothing : (r : Result (Unit {0}) BenchFault) (w : Beside) → ToldAfter r [] w w
told_nothing (Ok done) w = (Ok tt, Appends-nil w.taken, refl)
told_nothing (Err fault) w = refl

some_reason : (fault : EditFault) → as_line (reason_of (number_of fault)) ≢ []
some_reason edit_faults.Syntax = λ e. absurd (cc)
some_reason edit_faults.IdTaken = λ e. absurd (cc)
some_reason edit_faults.NoSuchId = λ e. absurd (cc)
some_reason edit_faults.NoSuchPort = λ e. absurd (cc)
some_reason edit_faults.NoSuchName = λ e. absurd (cc)
some_reason edit_faults.InUse = λ e. absurd (cc)
some_reason edit_faults.Range = λ e. absurd (cc)
some_reason edit_faults.Supplies = λ e. absurd (cc)
some_reason edit_faults.Floors = λ e. absurd (cc)
some_reason edit_faults.Limit = λ e. absurd (cc)
some_reason edit_faults.Memory = λ e. absurd (cc)

pub refusals_are_told : RefusalsAreTold
refusals_are_told reasons reply told (inl is) = λ e. is.1 (sym is.0 ∙ e)
refusals_are_told reasons reply told (inr (fault, reply_is, is)) = λ e. some_reason fault (sym is ∙ e)
