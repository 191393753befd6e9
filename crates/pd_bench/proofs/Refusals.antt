-- A refused line changes nothing.
use Rattle.std.proofs.Common.{◌≡◌, ℕ, Bool, true, false, List, ◌∷◌, ◌++◌, Result, Ok, Err, inl, inr, sym, ap, ◌∙◌}
use Rattle.pd_scenario.specs.Scenarios.{ScenarioData}
use Rattle.pd_edit.specs.Refusals.{edited}
use Rattle.pd_edit_lines.specs.Grammar.{line_of}
use Rattle.pd_edit_lines.specs.Numbers.{number_of}
use Rattle.pd_edit_lines.specs.declared.line.Line.{Line}
use Rattle.pd_edit_lines.specs.declared.line.Line.TheVariants as lines_read
use Rattle.pd_edit_lines.specs.declared.line.Show.{Show}
use Rattle.pd_edit_lines.specs.declared.fault.EditFault.{EditFault}
use Rattle.pd_edit_lines.specs.declared.fault.EditFault.TheVariants as edit_faults
use Rattle.pd_bench.specs.declared.tally.Outcome.{Outcome}
use Rattle.pd_bench.specs.declared.tally.Outcome.TheVariants.{Refused}
use Rattle.pd_bench.specs.Session.{Reply, EditReply, ShowReply, IsRefused, can_show, refused_text}
use Rattle.pd_bench.specs.Laws.{RefusedChangesNothing, RefusedAs, RefusalsAreShown}

-- the reply is a refusal's, and the scenario is as before
pub record Stays (s : ScenarioData) (reply : List ℕ) (s' : ScenarioData) : Type 0 where
  pub number : ℕ
  pub reply_is : reply ≡ refused_text number
  pub same : s' ≡ s

refused_edit : (s : ScenarioData) (r : Result ScenarioData EditFault) (reply : List ℕ) (s' : ScenarioData) (outcome : Outcome) →
    outcome ≡ Refused → EditReply s r reply s' outcome → Stays s reply s'
refused_edit s (Err fault) reply s' outcome is h = record { number = number_of fault; reply_is = h.0; same = h.1 }
refused_edit s (Ok after) reply s' outcome is (inl h) = let both = sym h.2 ∙ is in absurd (cc)
refused_edit s (Ok after) reply s' outcome is (inr h) = record { number = number_of edit_faults.Memory; reply_is = h.0; same = h.1 }

refused_show : (can : Bool) (show : Show) (s : ScenarioData) (reply : List ℕ) (s' : ScenarioData) (outcome : Outcome) → outcome ≡ Refused →
    ShowReply can show s reply s' outcome → Stays s reply s'
refused_show true show s reply s' outcome is h = let both = sym h.4 ∙ is in absurd (cc)
refused_show false show s reply s' outcome is h = record { number = number_of edit_faults.NoSuchPort; reply_is = h.0; same = h.1 }

refused_stays : (n : ℕ) (s : ScenarioData) (r : Result Line EditFault) (reply : List ℕ) (s' : ScenarioData) (outcome : Outcome) →
    outcome ≡ Refused → Reply n s r reply s' outcome → Stays s reply s'
refused_stays n s (Ok lines_read.Skip) reply s' outcome is h = let both = sym h.2 ∙ is in absurd (cc)
refused_stays n s (Ok (lines_read.Edit edit)) reply s' outcome is h = refused_edit s (edited n s edit) reply s' outcome is h
refused_stays n s (Ok (lines_read.Show show)) reply s' outcome is h = refused_show (can_show n show) show s reply s' outcome is h
refused_stays n s (Err fault) reply s' outcome is h = record { number = number_of fault; reply_is = h.0; same = h.1 }

pub refused_changes_nothing : RefusedChangesNothing
refused_changes_nothing n s line more text others (reply, rest, s', outcome, rests, is_reply, text_is, outcomes_are, replies) =
    let outcome_is : outcome ≡ Refused = cc in
    let rests_are : rests ≡ others = cc in
    let stays = refused_stays n s (line_of line) reply s' outcome outcome_is is_reply in
    (stays.number, rest, text_is ∙ ap (λ v. v ++ rest) stays.reply_is, rw (← rests_are, ← stays.same) replies)

-- a refusal for its own sake
own_refusal : (n : ℕ) (s : ScenarioData) (r : Result Line EditFault) (number : ℕ) (reply : List ℕ) (s' : ScenarioData)
    (outcome : Outcome) → RefusedAs n s r number → Reply n s r reply s' outcome → IsRefused number s reply s' outcome
own_refusal n s (Ok lines_read.Skip) number reply s' outcome h k = absurd h
own_refusal n s (Ok (lines_read.Edit edit)) number reply s' outcome (fault, is, number_is) k = rw number_is (rw is at k)
own_refusal n s (Ok (lines_read.Show show)) number reply s' outcome (none, number_is) k = rw number_is (rw none at k)
own_refusal n s (Err fault) number reply s' outcome h k = rw h k

pub refusals_are_shown : RefusalsAreShown
refusals_are_shown n s line more text outcomes number h (reply, rest, s', outcome, others, is_reply, text_is, outcomes_are, replies) =
    let (reply_is, same, outcome_is) = own_refusal n s (line_of line) number reply s' outcome h is_reply in
    (rest, others, text_is ∙ ap (λ v. v ++ rest) reply_is, outcomes_are ∙ ap (λ (o : Outcome). o ∷ others) outcome_is, rw (← same) replies)
