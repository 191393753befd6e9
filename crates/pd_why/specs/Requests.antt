-- Why a sink asks for what it asks for: what it needs of each supply of the offer from which it chose, by its rule
-- (pd_sink/specs/Rule.antt).
use Rattle.std.specs.Prelude.{ℕ, ◌+◌, ◌*◌, ◌==◌, Bool, true, false, if◌then◌else◌, List, [], ◌∷◌, ◌++◌, Option, Some, None}
use Rattle.pd_symbols.specs.Words.{field}
use Rattle.pd_header.specs.Kinds.{kind_of_header}
use Rattle.pd_header.specs.declared.kind.Kind.{Kind}
use Rattle.pd_header.specs.declared.kind.Kind.TheVariants as kind
use Rattle.pd_header.specs.declared.side.Side.TheVariants as side
use Rattle.pd_setup.specs.Sinks.{SinkData}
use Rattle.pd_sink.specs.Rule.{is_accepted, need_of}
use Rattle.pd_line.specs.declared.notes.Start.{Start}
use Rattle.pd_line.specs.declared.notes.Start.TheVariants as start
use Rattle.pd_why.specs.declared.fact.Fact.{Fact}
use Rattle.pd_why.specs.declared.fact.Fact.TheVariants as fact
use Rattle.pd_why.specs.declared.wish.Wish.{Wish}

-- what a sink needs of the supply of an object, where it accepts that
abbrev pub need_of_object : SinkData → ℕ → Option ℕ
need_of_object sink w = if is_accepted sink w then Some (need_of (field w 19 10 * 50) sink.demand_mw) else None

-- of a supply at a position of an offer: its voltage and current, and what the sink needs of it
abbrev pub need_fact : SinkData → ℕ → ℕ → Fact
need_fact sink position w = fact.Need position (field w 19 10 * 50) (field w 9 0 * 10) (need_of_object sink w)

-- of each supply of an offer, from a position on
abbrev pub need_facts : SinkData → ℕ → List ℕ → List Fact
need_facts sink position [] = []
need_facts sink position (w ∷ ws) = need_fact sink position w ∷ need_facts sink (position + 1) ws

-- what the sink wants, and what it needs of each supply of the offer
abbrev pub reason_facts : Option Wish → List Fact
reason_facts None = []
reason_facts (Some w) = fact.Demand w.sink.demand_mw w.sink.max_mv w.sink.mode ∷ need_facts w.sink 1 w.offer

-- whether a request has the bit of a capability mismatch
abbrev pub has_mismatch : ℕ → Bool
has_mismatch w = field w 26 26 == 1

-- a request, by its object: the position of the supply, the maximum operating current, and why
abbrev pub request_facts : ℕ → Option Wish → List ℕ → List Fact
request_facts at wish [] = []
request_facts at wish (w ∷ ws) =
    fact.Request at (field w 30 28) (field w 9 0 * 10) (has_mismatch w) ∷ (reason_facts wish ++ fact.Choice (has_mismatch w) ∷ [])

abbrev pub is_request : Kind → Bool
is_request kind.Request = true
is_request k = false

-- the request that starts on the line, if one does; one that is sent once more is no new request
abbrev pub started_facts : ℕ → Bool → Option Wish → Option Start → List Fact
started_facts at false wish (Some (start.Packet side.Sink packet fate)) =
    if is_request (kind_of_header packet.header) then request_facts at wish packet.objects else []
started_facts at again wish s = []
