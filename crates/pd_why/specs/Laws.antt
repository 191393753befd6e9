-- What holds of what is told, in each run.
use Rattle.std.specs.Prelude.{◌≡◌, ◌⊎◌, ◌↔◌, ℕ, ◌+◌, true, List, [], ◌∷◌, ◌++◌, map, nat_le, is_some, All, Option, Some}
use Rattle.std.specs.Prelude.{None, option_map, if◌then◌else◌}
use Rattle.arrayvec.specs.ArrayVec.{ArrayVec}
use Rattle.pd_header.specs.Kinds.{kind_of_header}
use Rattle.pd_header.specs.declared.kind.Kind.TheVariants.{Request, SourceCapabilities}
use Rattle.pd_header.specs.declared.side.Side.{Side}
use Rattle.pd_header.specs.declared.side.Side.TheVariants.{Source, Sink, Plug}
use Rattle.pd_packet.specs.Contents.{Contents}
use Rattle.pd_packet.specs.declared.fate.Fate.{Fate}
use Rattle.pd_objects.specs.Supply.{SupplyData}
use Rattle.pd_objects.specs.declared.query.Query.{Query}
use Rattle.pd_objects.specs.declared.query.Query.TheVariants as query
use Rattle.pd_objects.specs.declared.query.Answer.{Answer}
use Rattle.pd_objects.specs.declared.query.Answer.TheVariants as answer
use Rattle.pd_protocol.specs.LayerRecord.{LayerRecord, OutstandingData}
use Rattle.pd_source.specs.declared.kinds.State.{State}
use Rattle.pd_source.specs.declared.kinds.Stimulus.{Stimulus}
use Rattle.pd_source.specs.Acts.{capabilities}
use Rattle.pd_source.specs.Record.{SourceRecord, off}
use Rattle.pd_source.specs.Sound.{limit_in}
use Rattle.pd_sink.specs.Choice.{asked_of}
use Rattle.pd_sink.specs.Rule.{Asks, accepted}
use Rattle.pd_ledger.specs.Offer.{offered}
use Rattle.pd_line.specs.declared.notes.Start.TheVariants.{Packet}
use Rattle.pd_port.specs.Happens.{is_detach}
use Rattle.pd_port.specs.declared.due.What.{What}
use Rattle.pd_port.specs.Port.{PortRecord, detached, source_settings, whole}
use Rattle.pd_port.specs.SourceTold.{source_told}
use Rattle.pd_scenario.specs.Plan.{Plan, settings_of}
use Rattle.pd_run.specs.Run.{Move, Run, after, standing}
use Rattle.pd_why.specs.declared.cable.CableLimit.{CableLimit}
use Rattle.pd_why.specs.declared.known.Known.{Known}
use Rattle.pd_why.specs.declared.question.Question.{Question}
use Rattle.pd_why.specs.declared.wish.Wish.{Wish}
use Rattle.pd_why.specs.Cables.{LearntBy, settles}
use Rattle.pd_why.specs.Facts.{offers_in}
use Rattle.pd_why.specs.Known.{pulls_out}
use Rattle.pd_why.specs.Looks.{share_at}
use Rattle.pd_why.specs.Story.{story_of}
use Rattle.pd_why.specs.Wishes.{asks_in, is_again, request_by, wish_of}

-- what the story of a port knows after these moves
abbrev pub known_of : Plan → Question → List Move → Known
known_of plan q moves = (story_of plan q moves).known

-- P holds at each place of each run: of the moves before it, and of the move there
abbrev pub InRuns : (Plan → List Move → Move → Type 0) → Type 0
InRuns P =
    (plan : Plan) (moves : List Move) → Run plan moves → (past rest : List Move) (m : Move) → moves ≡ past ++ m ∷ rest → P plan past m

-- ---- what is sent again

-- the packet that a layer has sent, and for which no GoodCRC has come
abbrev pub unanswered : LayerRecord → Option Contents
unanswered l = option_map (λ (o : OutstandingData). o.packet) l.outstanding

-- a side has sent a packet on one of its channels, and no GoodCRC has come for it
abbrev pub HasSent : Side → PortRecord → Contents → Type 0
HasSent Source r packet = (unanswered r.source_sop ≡ Some packet) ⊎ (unanswered r.source_sop_prime ≡ Some packet)
HasSent Sink r packet = unanswered r.sink_sop ≡ Some packet
HasSent Plug r packet = unanswered r.plug_sop_prime ≡ Some packet

-- a packet of a side goes out again, by what falls due and the port before it: the side has sent it, and no GoodCRC came in time
abbrev pub IsSentAgain : Side → What → PortRecord → Contents → Type 0
IsSentAgain by due r packet = (is_again by due r.line ≡ true) × HasSent by r packet

-- ---- what a sink asks for

-- in a move the sink's engine sends a Request
abbrev pub SendsRequest : Plan → Move → Type 0
SendsRequest plan m = asks_in m.before.sink.state (after plan m).sink.state ≡ true

-- A sink and an offer are those by which the sink of a port chose last: its engine knew the one and kept the other as it sent its last
-- Request, in one of these moves.
pub record IsLastWish (plan : Plan) (moves : List Move) (p : ℕ) (w : Wish) : Type 0 where
  pub earlier : List Move
  pub sending : Move
  pub since : List Move
  pub among : moves ≡ earlier ++ sending ∷ since
  pub on_port : sending.port ≡ p
  pub sends : SendsRequest plan sending
  pub of_record : wish_of (after plan sending).sink ≡ Some w
  pub last : All (λ m. m.port ≡ p → SendsRequest plan m → ⊥) since

-- The objects of a Request are what the sink's rule gives for the sink and the offer by which it is told, and these are those of the sink's
-- record when it was sent.
pub record IsExplained (plan : Plan) (moves : List Move) (p : ℕ) (known : Option Wish) (objects : List ℕ) : Type 0 where
  pub objects_are : objects ≡ request_by known
  pub by_rule : (w : Wish) → known ≡ Some w → Asks w.sink (accepted w.sink w.offer) (asked_of w.sink w.offer)
  pub of_record : (w : Wish) → known ≡ Some w → IsLastWish plan moves p w

-- a Request that starts is the one before, sent again, and isn't told, or it is explained by what is known then
abbrev pub RequestsAreExplained : Type 0
RequestsAreExplained = InRuns (λ plan past m. (packet : Contents) (fate : Fate) → m.entry.start ≡ Some (Packet Sink packet fate)
    → kind_of_header packet.header ≡ Request → (q : Question) → q.port ≡ m.port + 1
    → IsSentAgain Sink m.due.what m.before packet
    ⊎ IsExplained plan (past ++ m ∷ []) m.port (known_of plan q (past ++ m ∷ [])).wish packet.objects)

-- ---- what a source offers

-- the currents in mA of the offer that a move makes, by what it asked and was answered, and the source's state after it
abbrev pub offer_by : Option Query → Option Answer → State → Option (List ℕ)
offer_by (Some (query.Offer supplies limit)) (Some (answer.Offer currents)) state = if offers_in state then Some currents.items else None
offer_by asked given state = None

abbrev pub offer_in : Plan → Move → Option (List ℕ)
offer_in plan m = offer_by m.entry.query m.answer (after plan m).source.state

-- The currents of an offer are what the shared budget offers by the free power and the limit that are told: of each of the port's
-- supplies, under the limit that the source knows then.
pub record IsOfShare (plan : Plan) (past : List Move) (m : Move) (currents : List ℕ) : Type 0 where
  pub supplies : ArrayVec SupplyData
  pub limit : ℕ
  pub asked : m.entry.query ≡ Some (query.Offer supplies limit)
  pub supplies_are : supplies.items ≡ (settings_of plan m.port).supplies
  pub limit_is : limit ≡ limit_in (after plan m).source
  pub currents_are : currents ≡ map (offered (share_at plan past m.port m.due.time).free limit) supplies.items

-- so it is of each offer, and a request fits where its power is within what is free
pub record SharesAreTold : Type 0 where
  pub offers : InRuns (λ plan past m. (currents : List ℕ) → offer_in plan m ≡ Some currents → IsOfShare plan past m currents)
  pub fits : InRuns (λ plan past m. (power : ℕ) → m.entry.query ≡ Some (query.Fits power)
      → m.answer ≡ Some (answer.Fits (nat_le power (share_at plan past m.port m.due.time).free)))

-- currents are those of a port's last offer, which one of these moves has made
pub record IsLastOffer (plan : Plan) (moves : List Move) (p : ℕ) (currents : List ℕ) : Type 0 where
  pub earlier : List Move
  pub offering : Move
  pub since : List Move
  pub among : moves ≡ earlier ++ offering ∷ since
  pub on_port : offering.port ≡ p
  pub offers : offer_in plan offering ≡ Some currents
  pub last : All (λ m. m.port ≡ p → offer_in plan m ≡ None) since

-- the objects of Source_Capabilities are those of the last offer
pub record IsOfLastOffer (plan : Plan) (moves : List Move) (p : ℕ) (objects : List ℕ) : Type 0 where
  pub currents : List ℕ
  pub last : IsLastOffer plan moves p currents
  pub objects_are : objects ≡ capabilities (settings_of plan p).unconstrained (settings_of plan p).supplies currents

-- Source_Capabilities that start are those before, sent again, or the last offer's
abbrev pub CapabilitiesAreOffered : Type 0
CapabilitiesAreOffered = InRuns (λ plan past m. (packet : Contents) (fate : Fate) → m.entry.start ≡ Some (Packet Source packet fate)
    → kind_of_header packet.header ≡ SourceCapabilities
    → IsSentAgain Source m.due.what m.before packet ⊎ IsOfLastOffer plan (past ++ m ∷ []) m.port packet.objects)

-- ---- how a limit is known

-- in a move the source comes to its cable's limit so, by what its engine is told
pub record Learns (plan : Plan) (m : Move) (how : CableLimit) : Type 0 where
  pub settled : settles m.before.source.state (after plan m).source.state ≡ true
  pub stimulus : Stimulus
  pub told : source_told m.due.what (whole (settings_of plan m.port) m.before) ≡ Some stimulus
  pub by : LearntBy how stimulus (after plan m).source.limit

-- in one of these moves of a port its source has come so to a limit, which it has kept since
pub record IsLearnt (plan : Plan) (moves : List Move) (p : ℕ) (how : CableLimit) (limit : Option ℕ) : Type 0 where
  pub earlier : List Move
  pub learning : Move
  pub since : List Move
  pub among : moves ≡ earlier ++ learning ∷ since
  pub on_port : learning.port ≡ p
  pub learns : Learns plan learning how
  pub limit_is : (after plan learning).source.limit ≡ limit
  pub kept : All (λ m. m.port ≡ p → (after plan m).source.limit ≡ limit) since

-- the limit in a source's record is that of a detached port, where nothing is told to be learnt, or it was learnt as it is told
abbrev pub IsKnownLimit : Plan → List Move → ℕ → Option CableLimit → SourceRecord → Type 0
IsKnownLimit plan moves p None r = r.limit ≡ (off (source_settings (settings_of plan p))).limit
IsKnownLimit plan moves p (Some how) r = IsLearnt plan moves p how r.limit

abbrev pub LimitsAreKnown : Type 0
LimitsAreKnown =
    (plan : Plan) (moves : List Move) → Run plan moves → (done rest : List Move) → moves ≡ done ++ rest → (p : ℕ) (q : Question) →
    q.port ≡ p + 1 → IsKnownLimit plan done p (known_of plan q done).cable (standing plan done p).state.source

-- ---- a cable that is pulled out

-- a move is told to pull the cable out exactly where it does: something was attached before it, and after it the port is as at the start
pub record PullsAreDone (plan : Plan) (m : Move) : Type 0 where
  pub told : (pulls_out m.entry ≡ true) ↔ ((is_detach m.due.what ≡ true) × (is_some m.before.cable ≡ true))
  pub detaches : pulls_out m.entry ≡ true → after plan m ≡ detached (settings_of plan m.port)

abbrev pub DetachesAreTold : Type 0
DetachesAreTold = InRuns (λ plan past m. PullsAreDone plan m)
