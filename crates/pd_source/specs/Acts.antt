-- What each act of a row does to the engine, and what it wants of the port.
use Rattle.std.specs.Prelude.{ℕ, ◌+◌, ◌/◌, Bool, false, if◌then◌else◌, List, [], ◌∷◌, ◌++◌, Option, Some, None, option_map, min}
use Rattle.pd_timers.specs.Deadlines.{idle, started}
use Rattle.pd_objects.specs.Supply.{SupplyData}
use Rattle.pd_objects.specs.FixedSupply.{word_of, unconstrained_power, greatest_current}
use Rattle.pd_objects.specs.declared.query.Answer.{Answer}
use Rattle.pd_objects.specs.declared.query.Answer.TheVariants as answer
use Rattle.pd_identity.specs.Identity.{limit_of}
use Rattle.pd_source.specs.declared.kinds.Message.{Message}
use Rattle.pd_source.specs.declared.kinds.Message.TheVariants as message
use Rattle.pd_source.specs.declared.kinds.Sending.{Sending}
use Rattle.pd_source.specs.declared.kinds.Sending.TheVariants as sending
use Rattle.pd_source.specs.declared.kinds.Stimulus.{Stimulus}
use Rattle.pd_source.specs.declared.kinds.Stimulus.TheVariants as stimulus
use Rattle.pd_source.specs.declared.kinds.Revision.{Revision}
use Rattle.pd_source.specs.declared.kinds.Revision.TheVariants as revision
use Rattle.pd_source.specs.declared.kinds.Act.{Act}
use Rattle.pd_source.specs.declared.kinds.Act.TheVariants as act
use Rattle.pd_source.specs.declared.kinds.Deed.{Deed}
use Rattle.pd_source.specs.declared.kinds.Deed.TheVariants as deed
use Rattle.pd_source.specs.Record.{SourceSettings, SourceRecord, cable_current}
use Rattle.pd_source.specs.Request.{contract_of, revision_of}

-- where a counter stays
abbrev pub greatest_count : ℕ
greatest_count = 255

-- a counter rises up to its greatest value and then stays
abbrev pub rise : ℕ → ℕ
rise n = min (n + 1) greatest_count

-- the limit after a plug's answer
abbrev pub limit_from : Stimulus → Option ℕ → Option ℕ
limit_from (stimulus.Identity objects) old = Some (limit_of objects.items)
limit_from _ old = old

-- the request that is kept, after a stimulus, and the revision that is spoken: that of the kept request
abbrev pub kept_from : Stimulus → Option ℕ → Option ℕ
kept_from (stimulus.Request object bits) old = Some object
kept_from _ old = old

abbrev pub revision_from : Stimulus → Revision → Revision
revision_from (stimulus.Request object bits) old = revision_of bits
revision_from _ old = old

-- the offer that is being made, after an answer
abbrev pub draft_from : Option Answer → List ℕ → List ℕ
draft_from (Some (answer.Offer currents)) old = currents.items
draft_from _ old = old

-- An object of Source_Capabilities: the supply's voltage, and a current in mA, of which an object holds at most 10,230.
-- Bit 27 tells that the power is unconstrained.
abbrev pub object_of : Bool → SupplyData → ℕ → ℕ
object_of unconstrained supply ma =
    word_of (record {
      flags = if unconstrained then unconstrained_power else 0;
      peak_current = 0;
      voltage = supply.mv / 50;
      current = min (ma / 10) greatest_current;
    })

-- the objects of Source_Capabilities, one for each supply with its current; flags stand in the first alone
abbrev pub capabilities : Bool → List SupplyData → List ℕ → List ℕ
capabilities unconstrained (supply ∷ supplies) (ma ∷ currents) =
    object_of unconstrained supply ma ∷ capabilities false supplies currents
capabilities unconstrained _ _ = []

-- the message with its objects
abbrev pub sending_of : SourceSettings → Message → SourceRecord → Sending
sending_of s message.DiscoverIdentity r = sending.DiscoverIdentity
sending_of s message.SourceCapabilities r =
    sending.SourceCapabilities (record { items = capabilities s.unconstrained s.supplies r.draft_offer })
sending_of s message.Accept r = sending.Accept
sending_of s message.Reject r = sending.Reject
sending_of s message.Wait r = sending.Wait
sending_of s message.PsRdy r = sending.PsRdy
sending_of s message.GetSinkCap r = sending.GetSinkCap
sending_of s message.SoftReset r = sending.SoftReset

-- the request that came is kept, and its revision is spoken
abbrev pub keeping : Stimulus → SourceRecord → SourceRecord
keeping x r = record r { kept_request = kept_from x r.kept_request; revision = revision_from x r.revision }

-- no offer is being made, and no request is accepted
abbrev pub closed : SourceRecord → SourceRecord
closed r = record r { draft_offer = []; accepted_request = None }

-- the accepted request becomes the contract
abbrev pub committed : SourceSettings → SourceRecord → SourceRecord
committed s r = record r {
  contract = option_map (contract_of s.supplies r.delivered_offer) r.accepted_request;
  accepted_request = None;
}

-- contract, accepted request and both offers are dropped, and Revision 3.0 is spoken
abbrev pub voided : SourceRecord → SourceRecord
voided r = record r {
  contract = None;
  accepted_request = None;
  draft_offer = [];
  delivered_offer = [];
  revision = revision.Revision3;
}

-- the engine after an act
abbrev pub after : SourceSettings → Deed → ℕ → Stimulus → Option Answer → SourceRecord → SourceRecord
after s (deed.Enter t) now x a r = record r { state = t; deadlines = idle; sent = false }
after s deed.EnterAgain now x a r = record r { deadlines = idle; sent = false }
after s (deed.Start t) now x a r = record r { deadlines = started r.deadlines now t }
after s deed.CapsCounterUp now x a r = record r { caps_counter = rise r.caps_counter }
after s deed.CapsCounterZero now x a r = record r { caps_counter = 0 }
after s deed.DiscoverIdentityCounterUp now x a r = record r { discover_identity_counter = rise r.discover_identity_counter }
after s deed.HardResetCounterUp now x a r = record r { hard_reset_counter = rise r.hard_reset_counter }
after s deed.HardResetCounterZero now x a r = record r { hard_reset_counter = 0 }
after s deed.LimitFromAnswer now x a r = record r { limit = limit_from x r.limit }
after s deed.CableLimit now x a r = record r { limit = Some cable_current }
after s deed.KeepRequest now x a r = keeping x r
after s deed.Draft now x a r = record r { draft_offer = draft_from a r.draft_offer }
after s deed.Settle now x a r = record r { delivered_offer = r.draft_offer }
after s deed.Close now x a r = closed r
after s deed.Take now x a r = record r { accepted_request = r.kept_request }
after s deed.Commit now x a r = committed s r
after s deed.Void now x a r = voided r
after s _ now x a r = r

-- what an act wants of the port
abbrev pub wants : SourceSettings → Deed → SourceRecord → List Act
wants s (deed.Enter t) r = act.DropWaiting ∷ []
wants s deed.EnterAgain r = act.DropWaiting ∷ []
wants s (deed.Send m) r = act.Send (sending_of s m r) ∷ []
wants s deed.SendHardReset r = act.SendHardReset ∷ []
wants s (deed.Note n) r = act.Note n ∷ []
wants s deed.On r = act.On ∷ []
wants s deed.Off r = act.Off ∷ []
wants s deed.ResetLayer r = act.ResetLayer ∷ []
wants s _ r = []

-- the engine after all acts of a row, in order
abbrev pub all_after : SourceSettings → List Deed → ℕ → Stimulus → Option Answer → SourceRecord → SourceRecord
all_after s [] now x a r = r
all_after s (d ∷ ds) now x a r = all_after s ds now x a (after s d now x a r)

-- what all acts of a row want of the port
abbrev pub all_wants : SourceSettings → List Deed → ℕ → Stimulus → Option Answer → SourceRecord → List Act
all_wants s [] now x a r = []
all_wants s (d ∷ ds) now x a r = wants s d r ++ all_wants s ds now x a (after s d now x a r)

-- How many faults an act may bring: one of its own, or one of the sink's, which is stepped where the power is switched on.
abbrev pub fault_count_of : Act → ℕ
fault_count_of (act.Note n) = 1
fault_count_of act.On = 1
fault_count_of _ = 0

abbrev pub fault_count : List Act → ℕ
fault_count [] = 0
fault_count (a ∷ acts) = fault_count_of a + fault_count acts
