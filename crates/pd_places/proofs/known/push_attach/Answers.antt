use Rattle.std.proofs.Common.{◌≡◌, ◌++◌, ◌∙◌, ℕ, List, sym, ap}
use Rattle.std.proofs.lemmas.Result.{on_ok_weaker}
use Rattle.pd_misfits.specs.Spots.{SpotData}
use Rattle.toml.specs.Data.{Members}
use Rattle.toml.specs.View.{table_view}
use Rattle.pd_scenario_tables.specs.declared.schema.Key.TheVariants as key
use Rattle.pd_scenario_tables.specs.Tables.{word_at}
use Rattle.pd_scenario_text.specs.Names.{texts}
use Rattle.pd_places.specs.FirstLines.{added}
use Rattle.pd_places.specs.Known.{attach_part, stranger_part}
use Rattle.pd_places.proofs.FirstLines.{both_added}
use Rattle.pd_places.proofs.known.push_attach.Goals as goal

-- the name of the cable, and that of the sink
both_names : (text one two : List ℕ) (spot : SpotData) (cable sink : List ℕ) (cables sinks : List (List ℕ)) (t : Members)
    → cable ≡ word_at key.Cable t
    → sink ≡ word_at key.Sink t → one ≡ added text (stranger_part spot key.Cable cables cable)
    → two ≡ added one (stranger_part spot key.Sink sinks sink) → two ≡ added text (attach_part spot cables sinks t)
unfolding attach_part
both_names text one two spot cable sink cables sinks t cable_is sink_is first second =
    both_added text one two (stranger_part spot key.Cable cables cable) (stranger_part spot key.Sink sinks sink) first second
    ∙ ap (λ n. added text (stranger_part spot key.Cable cables n ++ stranger_part spot key.Sink sinks sink)) cable_is
    ∙ ap (λ n. added text (stranger_part spot key.Cable cables (word_at key.Cable t) ++ stranger_part spot key.Sink sinks n)) sink_is

pub returns : goal.returns
returns c =
    on_ok_weaker c.push_stranger-2.result
    (λ h. both_names c.args.told.now c.push_stranger.new.told c.push_stranger-2.new.told c.args.spot.now c.word_at.result.now
    c.word_at-2.result.now (texts c.args.cables.now) (texts c.args.sinks.now) (table_view c.args.table.now) c.word_at.ensures
    c.word_at-2.ensures c.in_ok-push_stranger.ensures h)
    c.push_stranger-2.ensures
