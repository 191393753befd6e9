-- A fact tells its kind first, and no kind after that.
use Rattle.std.proofs.Common.{◌≡◌, ℕ, Bool, true, false, List, [], ◌∷◌, Option, Some, None, refl}
use Rattle.std.specs.List.{list_all}
use Rattle.pd_setup.specs.declared.sink.SinkMode.{SinkMode}
use Rattle.pd_setup.specs.declared.sink.SinkMode.TheVariants as mode
use Rattle.pd_source.specs.declared.kinds.State.{State}
use Rattle.pd_source.specs.declared.kinds.State.TheVariants as state
use Rattle.pd_line.specs.declared.notes.Fault.{Fault}
use Rattle.pd_line.specs.declared.notes.Fault.TheVariants as fault
use Rattle.pd_port.specs.declared.entry.ContractChange.TheVariants as change
use Rattle.pd_why.specs.declared.cable.CableLimit.{CableLimit}
use Rattle.pd_why.specs.declared.cable.CableLimit.TheVariants as known
use Rattle.pd_why.specs.declared.holder.Maker.{Maker}
use Rattle.pd_why.specs.declared.holder.Maker.TheVariants as maker
use Rattle.pd_why.specs.declared.fact.Fact.TheVariants as fact
use Rattle.pd_text.specs.Pieces.{PieceData}
use Rattle.pd_text.specs.Json.{is_later}
use Rattle.pd_text.proofs.JsonLemmas.{tellings_are_objects}
use Rattle.pd_why.specs.Tellings.{choice_piece, fault_pieces, idle_pieces, known_piece, maker_pieces, mode_piece, need_pieces, to_piece}
use Rattle.pd_why.specs.Tellings.{tries_piece}
use Rattle.pd_why.specs.TellingLaws.{FactsAreObjects}

-- pieces that tell no kind
abbrev HaveNoKind : List PieceData → Type 0
HaveNoKind pieces = list_all is_later pieces ≡ true

of_maker : (m : Maker) → HaveNoKind (maker_pieces m)
of_maker maker.Floor = refl
of_maker (maker.Contract c) = refl
of_maker maker.Request = refl
of_maker maker.Offer = refl

of_limit : (how : CableLimit) (tries : ℕ) → HaveNoKind (known_piece how ∷ tries_piece how tries ∷ [])
of_limit known.Unknown tries = refl
of_limit known.NotAsked tries = refl
of_limit known.Told tries = refl
of_limit known.Nak tries = refl
of_limit known.Busy tries = refl
of_limit known.Silent tries = refl
of_limit known.NoPlug tries = refl

of_mode : (m : SinkMode) → HaveNoKind (mode_piece m ∷ [])
of_mode mode.PowerDelivery = refl
of_mode mode.Plain = refl
of_mode mode.Greedy = refl

of_need : (ma : ℕ) (need : Option ℕ) → HaveNoKind (need_pieces ma need)
of_need ma None = refl
of_need ma (Some need) = refl

of_choice : (mismatch : Bool) → HaveNoKind (choice_piece mismatch ∷ [])
of_choice true = refl
of_choice false = refl

of_fault : (f : Fault) → HaveNoKind (fault_pieces f)
of_fault (fault.NoGoodCrc side message) = refl
of_fault (fault.SoftReset side) = refl
of_fault (fault.HardReset side) = refl
of_fault fault.SourceDisabled = refl
of_fault fault.SinkDisabled = refl
of_fault fault.Reject = refl
of_fault fault.Wait = refl
of_fault fault.CableUnread = refl
of_fault fault.Mismatch = refl
of_fault (fault.Ignored id) = refl

of_idle : (to : Option ℕ) (s : State) → HaveNoKind (to_piece to ∷ idle_pieces s)
of_idle None state.Off = refl
of_idle None s = refl
of_idle (Some to) state.Off = refl
of_idle (Some to) s = refl

pub facts_are_objects : FactsAreObjects
facts_are_objects (fact.Offer at port budget) = tellings_are_objects _ _ refl
facts_are_objects (fact.Hold port hold m) = tellings_are_objects _ _ (of_maker m)
facts_are_objects (fact.Free port free floor) = tellings_are_objects _ _ refl
facts_are_objects (fact.Cable limit how tries) = tellings_are_objects _ _ (of_limit how tries)
facts_are_objects (fact.Supply position b) = tellings_are_objects _ _ refl
facts_are_objects (fact.Request at position ma mismatch) = tellings_are_objects _ _ refl
facts_are_objects (fact.Demand mw max_mv m) = tellings_are_objects _ _ (of_mode m)
facts_are_objects (fact.Need position mv ma need) = tellings_are_objects _ _ (of_need ma need)
facts_are_objects (fact.Choice mismatch) = tellings_are_objects _ _ (of_choice mismatch)
facts_are_objects (fact.Fits at power fits free) = tellings_are_objects _ _ refl
facts_are_objects (fact.Wrong at f) = tellings_are_objects _ _ (of_fault f)
facts_are_objects (fact.Contract at (change.Made c)) = tellings_are_objects _ _ refl
facts_are_objects (fact.Contract at change.Lost) = tellings_are_objects _ _ refl
facts_are_objects (fact.Detached at) = tellings_are_objects _ _ refl
facts_are_objects (fact.NoOffer port to s) = tellings_are_objects _ _ (of_idle to s)
