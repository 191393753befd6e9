-- A session without one of its refused lines.
use Rattle.std.proofs.Common.{◌≡◌, ℕ, List, [], ◌∷◌, ◌++◌, length, fold, refl, sym, ap, ◌∙◌, append_assoc}
use Rattle.std.specs.Prelude.{slice_get, Some}
use Rattle.std.specs.Str.Lines.{lines}
use Rattle.std.proofs.lemmas.List.Sums.{fold-append}
use Rattle.pd_scenario.specs.Scenarios.{ScenarioData}
use Rattle.pd_edit_lines.specs.Grammar.{line_of}
use Rattle.pd_bench.specs.declared.tally.Tally.{Tally}
use Rattle.pd_bench.specs.declared.tally.Outcome.{Outcome}
use Rattle.pd_bench.specs.declared.tally.Outcome.TheVariants.{Skipped, Accepted, Refused, Shown}
use Rattle.pd_bench.specs.Session.{Reply, Replies, Session, counted, no_lines, done_text, refused_text}
use Rattle.pd_bench.specs.Laws.{RefusedAs}
use Rattle.pd_bench.specs.Traces.{IsWithoutLine, LeavesNoTrace, RefusedLeavesNoTrace, RefusalsLeaveNoTrace, edited_by}
use Rattle.pd_bench.proofs.Refusals.{refused_changes_nothing, refusals_are_shown}

-- the replies to some lines, and to the same without a refused one
pub record Without (n : ℕ) (s : ScenarioData) (before after : List (List ℕ)) (text : List ℕ) (outcomes : List Outcome) (number : ℕ) : Type
    0 where
  pub earlier : List ℕ
  pub later : List ℕ
  pub done : List Outcome
  pub rest : List Outcome
  pub text_is : text ≡ earlier ++ (refused_text number ++ later)
  pub outcomes_are : outcomes ≡ done ++ Refused ∷ rest
  pub are_earlier : Replies n s before earlier done
  pub are_others : Replies n s (before ++ after) (earlier ++ later) (done ++ rest)

-- one more line before
with_first : (n : ℕ) (s : ScenarioData) (line : List ℕ) (before after : List (List ℕ)) (reply : List ℕ) (s' : ScenarioData)
    (outcome : Outcome) (rest text : List ℕ) (others outcomes : List Outcome) (number : ℕ)
    → Reply n s (line_of line) reply s' outcome → text ≡ reply ++ rest → outcomes ≡ outcome ∷ others →
    Without n s' before after rest others number → Without n s (line ∷ before) after text outcomes number
with_first n s line before after reply s' outcome rest text others outcomes number is_reply text_is outcomes_are w = record {
  earlier = reply ++ w.earlier;
  later = w.later;
  done = outcome ∷ w.done;
  rest = w.rest;
  text_is = text_is ∙ ap (λ v. reply ++ v) w.text_is ∙ sym (append_assoc reply w.earlier (refused_text number ++ w.later));
  outcomes_are = outcomes_are ∙ ap (λ (v : List Outcome). outcome ∷ v) w.outcomes_are;
  are_earlier = (reply, w.earlier, s', outcome, w.done, is_reply, refl, refl, w.are_earlier);
  are_others =
      (reply, w.earlier ++ w.later, s', outcome, w.done ++ w.rest, is_reply, append_assoc reply w.earlier w.later, refl, w.are_others);
}

-- the refused line is the first
at_first : (n : ℕ) (s : ScenarioData) (more after : List (List ℕ)) (rest text : List ℕ) (others outcomes : List Outcome) (number : ℕ)
    → more ≡ after → text ≡ refused_text number ++ rest → outcomes ≡ Refused ∷ others → Replies n s more rest others →
    Without n s [] after text outcomes number
at_first n s more after rest text others outcomes number more_are text_is outcomes_are replies = record {
  earlier = [];
  later = rest;
  done = [];
  rest = others;
  text_is = text_is;
  outcomes_are = outcomes_are;
  are_earlier = (refl, refl);
  are_others = rw more_are at replies;
}

without : (n : ℕ) (before : List (List ℕ)) (s : ScenarioData) (ls : List (List ℕ)) (line : List ℕ) (after : List (List ℕ)) (text : List ℕ)
    (outcomes : List Outcome) → ls ≡ before ++ line ∷ after
    → Replies n s ls text outcomes → slice_get outcomes (length before) ≡ Some Refused → (number : ℕ)
    × Without n s before after text outcomes number
without n [] s [] line after text outcomes split replies is = absurd cc
without n (first ∷ before) s [] line after text outcomes split replies is = absurd cc
without n [] s (here ∷ more) line after text outcomes split (reply, rest, s', outcome, others, is_reply, text_is, outcomes_are, replies) is
    =
    let more_are : more ≡ after = cc in
    let found : Some outcome ≡ Some Refused = rw outcomes_are at is in
    let others_are : Refused ∷ others ≡ outcome ∷ others = cc in
    let all_are : outcomes ≡ Refused ∷ others = cc in
    let w = refused_changes_nothing n s here more text others (reply, rest, s', outcome, others, is_reply, text_is, others_are, replies) in
    (w.0, at_first n s more after w.1 text others outcomes w.0 more_are w.2 all_are w.3)
without n (first ∷ before) s (here ∷ more) line after text outcomes split
    (reply, rest, s', outcome, others, is_reply, text_is, outcomes_are, replies) is =
    let here_is : here ≡ first = cc in
    let more_are : more ≡ before ++ line ∷ after = cc in
    let w = without n before s' more line after rest others more_are replies (rw outcomes_are at is) in (
      w.0,
      with_first n s first before after reply s' outcome rest text others outcomes w.0 (rw here_is at is_reply) text_is outcomes_are
          w.1,
    )

-- the same for a line that is refused for its own sake, by its number
without_own : (n : ℕ) (before : List (List ℕ)) (s : ScenarioData) (ls : List (List ℕ)) (line : List ℕ) (after : List (List ℕ))
    (text : List ℕ) (outcomes : List Outcome) (number : ℕ) → ls ≡ before ++ line ∷ after
    → (replies : Replies n s ls text outcomes) → RefusedAs n (edited_by n s ls text outcomes replies (length before)) (line_of line) number
    → (slice_get outcomes (length before) ≡ Some Refused) × Without n s before after text outcomes number
without_own n [] s [] line after text outcomes number split replies refused = absurd cc
without_own n (first ∷ before) s [] line after text outcomes number split replies refused = absurd cc
without_own n [] s (here ∷ more) line after text outcomes number split replies refused =
    let here_is : line ≡ here = cc in
    let more_are : more ≡ after = cc in
    let w = refusals_are_shown n s here more text outcomes number (rw here_is at refused) replies in
    (rw w.3 refl, at_first n s more after w.0 text w.1 outcomes number more_are w.2 w.3 w.4)
without_own n (first ∷ before) s (here ∷ more) line after text outcomes number split
    (reply, rest, s', outcome, others, is_reply, text_is, outcomes_are, replies) refused =
    let here_is : here ≡ first = cc in
    let more_are : more ≡ before ++ line ∷ after = cc in
    let w = without_own n before s' more line after rest others number more_are replies refused in (
      rw outcomes_are w.0,
      with_first n s first before after reply s' outcome rest text others outcomes number (rw here_is at is_reply)
          text_is outcomes_are w.1,
    )

-- ---- the counts

counted_in_turn : (t : Tally) (outcome : Outcome) → counted (counted t Refused) outcome ≡ counted (counted t outcome) Refused
counted_in_turn t Skipped = refl
counted_in_turn t Accepted = refl
counted_in_turn t Refused = refl
counted_in_turn t Shown = refl

counted_last : (t : Tally) (outcomes : List Outcome) → fold counted (counted t Refused) outcomes ≡ counted (fold counted t outcomes) Refused
counted_last t [] = refl
counted_last t (outcome ∷ more) =
    ap (λ (u : Tally). fold counted u more) (counted_in_turn t outcome) ∙ counted_last (counted t outcome) more

counted_apart : (done rest : List Outcome) →
    fold counted no_lines (done ++ Refused ∷ rest) ≡ counted (fold counted no_lines (done ++ rest)) Refused
counted_apart done rest =
    fold-append counted no_lines done (Refused ∷ rest) ∙ counted_last (fold counted no_lines done) rest
    ∙ ap (λ (u : Tally). counted u Refused) (sym (fold-append counted no_lines done rest))

-- ---- the session

from_without : (n : ℕ) (s : ScenarioData) (bytes others : List ℕ) (before : List (List ℕ)) (line : List ℕ) (after : List (List ℕ))
    (text : List ℕ) (tally : Tally) (number : ℕ) → IsWithoutLine bytes others before line after
    → (session : Session n s bytes text tally) → Without n s before after session.replies session.outcomes number →
    LeavesNoTrace n s others before text tally number
from_without n s bytes others before line after text tally number split session w =
    let fewer = fold counted no_lines (w.done ++ w.rest) in
    record {
      earlier = w.earlier;
      later = w.later;
      fewer = fewer;
      outcomes = w.done;
      are_earlier = w.are_earlier;
      text_is =
          session.text_is ∙ ap (λ v. v ++ done_text tally) w.text_is
          ∙ append_assoc w.earlier (refused_text number ++ w.later) (done_text tally)
          ∙ ap (λ v. w.earlier ++ v) (append_assoc (refused_text number) w.later (done_text tally));
      tally_is = session.tally_is ∙ ap (fold counted no_lines) w.outcomes_are ∙ counted_apart w.done w.rest;
      session = record {
        replies = w.earlier ++ w.later;
        outcomes = w.done ++ w.rest;
        are_replies = rw split.without_line w.are_others;
        tally_is = refl;
        text_is = sym (append_assoc w.earlier w.later (done_text fewer));
      };
    }

pub refused_leaves_no_trace : RefusedLeavesNoTrace
refused_leaves_no_trace n s bytes others before line after text tally split session refused =
    let w = without n before s (lines bytes) line after session.replies session.outcomes split.with_line session.are_replies refused in
    (w.0, from_without n s bytes others before line after text tally w.0 split session w.1)

pub refusals_leave_no_trace : RefusalsLeaveNoTrace
refusals_leave_no_trace n s bytes others before line after text tally number split session refused =
    let w = without_own n before s (lines bytes) line after session.replies session.outcomes number split.with_line session.are_replies
    refused in
    (w.0, from_without n s bytes others before line after text tally number split session w.1)
