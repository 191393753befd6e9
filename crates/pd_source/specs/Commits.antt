-- In which steps of the source a contract is made.
use Rattle.std.specs.Prelude.{◌≡◌, ◌≢◌, ◌⊎◌, ℕ, true, Option, None, option_map}
use Rattle.pd_objects.specs.declared.query.Answer.{Answer}
use Rattle.pd_source.specs.declared.kinds.State.TheVariants as state
use Rattle.pd_source.specs.declared.kinds.Stimulus.{Stimulus}
use Rattle.pd_source.specs.Record.{SourceSettings, SourceRecord}
use Rattle.pd_source.specs.Request.{contract_of}
use Rattle.pd_source.specs.Sound.{is_transition}
use Rattle.pd_source.specs.Step.{stepped}

-- A step makes a contract: it leads from Transition_Supply to Ready; the contract is of the accepted request and the
-- delivered offer, and the request is accepted no more.
pub record MakesContract (s : SourceSettings) (old new : SourceRecord) : Type 0 where
  pub from_transition : is_transition old.state ≡ true
  pub to_ready : new.state ≡ state.Ready
  pub contract : new.contract ≡ option_map (contract_of s.supplies old.delivered_offer) old.accepted_request
  pub used : new.accepted_request ≡ None

-- A step makes no contract: that of before stays or falls. From Transition_Supply it doesn't lead to Ready, and no request
-- is accepted anew.
pub record MakesNoContract (old new : SourceRecord) : Type 0 where
  pub contract : (new.contract ≡ old.contract) ⊎ (new.contract ≡ None)
  pub not_ready : is_transition old.state ≡ true → new.state ≢ state.Ready
  pub none_anew : is_transition old.state ≡ true → (new.accepted_request ≡ old.accepted_request) ⊎ (new.accepted_request ≡ None)

-- So a step that leads from Transition_Supply to Ready makes a contract, and no other does.
abbrev pub MakesOrNot : SourceSettings → SourceRecord → SourceRecord → Type 0
MakesOrNot s old new = MakesContract s old new ⊎ MakesNoContract old new

abbrev pub ContractsAreMadeAtReady : Type 0
ContractsAreMadeAtReady =
    (s : SourceSettings) (now : ℕ) (x : Stimulus) (a : Option Answer) (r : SourceRecord) → MakesOrNot s r (stepped s now x a r)
