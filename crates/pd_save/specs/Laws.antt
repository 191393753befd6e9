-- What is proved of the definitions alone.
use Rattle.std.specs.Prelude.{◌≡◌, pos, Some}
use Rattle.pd_identity.specs.declared.CablePlug.{CablePlug}
use Rattle.pd_identity.specs.declared.Rating.{Rating}
use Rattle.pd_setup.specs.Events.{KindWord, by_kind}
use Rattle.pd_setup.specs.declared.event.EventKind.TheVariants.{Attach, Demand, Damage}
use Rattle.pd_setup.specs.declared.sink.SinkMode.{SinkMode}
use Rattle.pd_setup.specs.declared.sink.SinkRevision.{SinkRevision}
use Rattle.pd_scenario.specs.Events.{ScenarioEventKind}
use Rattle.pd_scenario.specs.Words.{kind_of, plug_of, mode_of, rating_of}
use Rattle.pd_scenario_tables.specs.Words.{revision_of}
use Rattle.pd_save.specs.Words.{kind_word, plug_word, mode_word, rating_number, revision_number}

-- the kind alone
abbrev pub bare_kind : ScenarioEventKind → KindWord
bare_kind kind = by_kind (λ cable sink. Attach tt tt) (λ power. Demand tt) (λ harm. Damage tt) (λ plain. plain) kind

-- each word and each number reads as what it is written for
pub record WordsAreRead : Type 0 where
  pub kinds : (kind : ScenarioEventKind) → kind_of (kind_word kind) ≡ Some (bare_kind kind)
  pub plugs : (plug : CablePlug) → plug_of (plug_word plug) ≡ Some plug
  pub modes : (mode : SinkMode) → mode_of (mode_word mode) ≡ Some mode
  pub ratings : (rating : Rating) → rating_of (rating_number rating) ≡ Some rating
  pub revisions : (revision : SinkRevision) → revision_of (pos (revision_number revision)) ≡ Some revision
