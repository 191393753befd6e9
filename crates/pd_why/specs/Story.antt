-- What is told of a port over a run: of each offer up to a time, or of the last one, what bounds it and what comes of it.
use Rattle.std.specs.Prelude.{◌≡◌, ℕ, ◌==◌, Bool, true, false, nat_le, if◌then◌else◌, List, [], ◌∷◌, ◌++◌, Option, Some, None}
use Rattle.pd_objects.specs.declared.query.Query.{Query}
use Rattle.pd_objects.specs.declared.query.Query.TheVariants as query
use Rattle.pd_objects.specs.declared.query.Answer.{Answer}
use Rattle.pd_objects.specs.declared.query.Answer.TheVariants as answer
use Rattle.pd_source.specs.declared.kinds.State.{State}
use Rattle.pd_source.specs.declared.kinds.State.TheVariants as state
use Rattle.pd_scenario.specs.Plan.{Plan}
use Rattle.pd_run.specs.Run.{Move}
use Rattle.pd_run.specs.Shown.{SafeRun}
use Rattle.pd_why.specs.declared.fact.Fact.{Fact}
use Rattle.pd_why.specs.declared.fact.Fact.TheVariants as fact
use Rattle.pd_why.specs.declared.known.Known.{Known}
use Rattle.pd_why.specs.declared.look.Look.{Look}
use Rattle.pd_why.specs.declared.look.Share.{Share}
use Rattle.pd_why.specs.declared.question.Question.{Question}
use Rattle.pd_why.specs.Facts.{later_facts, offer_facts, offers_in}
use Rattle.pd_why.specs.Known.{known_after, nothing}
use Rattle.pd_why.specs.Looks.{look_of}

-- what is told so far, what is known of the port, whether the last offer is one that is told, and the source's state at the time
-- that is asked for
pub record StoryData : Type 0 where
  pub facts : List Fact
  pub known : Known
  pub telling : Bool
  pub state : State

abbrev pub no_story : StoryData
no_story = record { facts = []; known = nothing; telling = false; state = state.Off }

-- a time is no later than the one that is asked for, if one is
abbrev pub is_within : Option ℕ → ℕ → Bool
is_within None at = true
is_within (Some to) at = nat_le at to

-- where the last offer alone is asked for, a new one takes the place of all that is told
abbrev pub before_offer : Option ℕ → List Fact → List Fact
before_offer None facts = []
before_offer (Some to) facts = facts

-- one more offer
abbrev pub with_offer : Question → Look → StoryData → List Fact → StoryData
with_offer q look s offer =
    if is_within q.to look.entry.at
    then record s { facts = before_offer q.to s.facts ++ offer; telling = true }
    else record s { telling = false }

-- one more move that makes no offer
abbrev pub with_later : Look → StoryData → StoryData
with_later look s = if s.telling then record s { facts = s.facts ++ later_facts look s.known } else s

-- one more move, whose query and answer are those of an offer or not
abbrev pub with_move : Question → Look → Option Query → Option Answer → Option Share → StoryData → StoryData
with_move q look (Some (query.Offer supplies limit)) (Some (answer.Offer currents)) (Some share) s =
    if offers_in look.after
    then with_offer q look s (offer_facts look s.known supplies.items limit currents.items share)
    else with_later look s
with_move q look asked answered share s = with_later look s

-- what is known after one more move
abbrev pub with_known : Question → Look → StoryData → StoryData
with_known q look s = record s {
  known = known_after look s.known;
  state = if is_within q.to look.entry.at then look.after else s.state;
}

-- the story with one more move of the port
unfoldable pub step : Question → Look → StoryData → StoryData
step q look s = with_move q look look.entry.query look.answer look.share (with_known q look s)

-- the story with one more move, of the port or of another
abbrev pub heard : Question → Look → StoryData → StoryData
heard q look s = if look.port == q.port then step q look s else s

-- the story with one more move of the run
abbrev pub step_of : Plan → Question → List Move → Move → StoryData → StoryData
step_of plan q past m s = heard q (look_of plan past m) s

-- the story after some moves, which come after others
abbrev pub story_from : Plan → Question → List Move → List Move → StoryData → StoryData
story_from plan q past [] s = s
story_from plan q past (m ∷ moves) s = story_from plan q (past ++ m ∷ []) moves (step_of plan q past m s)

abbrev pub story_of : Plan → Question → List Move → StoryData
story_of plan q moves = story_from plan q [] moves no_story

-- where no offer is told, that
abbrev pub facts_or_none : Question → StoryData → List Fact → List Fact
facts_or_none q s [] = fact.NoOffer q.port q.to s.state ∷ []
facts_or_none q s (f ∷ facts) = f ∷ facts

-- what is told at the end
abbrev pub told : Question → StoryData → List Fact
told q s = facts_or_none q s s.facts

-- the facts are those of the moves of the plan's run, which is safe
pub record TellsFacts (plan : Plan) (q : Question) (facts : List Fact) : Type 0 where
  pub moves : List Move
  pub safe : SafeRun plan moves
  pub facts_are : facts ≡ told q (story_of plan q moves)
