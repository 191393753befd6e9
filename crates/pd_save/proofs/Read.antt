-- Each word and each number reads as what it is written for.
use Rattle.std.proofs.Common.{◌≡◌, refl}
use Rattle.std.specs.Prelude.{pos, Some}
use Rattle.pd_identity.specs.declared.CablePlug.{CablePlug}
use Rattle.pd_identity.specs.declared.CablePlug.TheVariants.{Absent, Ack, Nak, Busy, Silent}
use Rattle.pd_identity.specs.declared.Rating.{Rating}
use Rattle.pd_identity.specs.declared.Rating.TheVariants.{ThreeAmperes, FiveAmperes}
use Rattle.pd_setup.specs.declared.event.EventKind.TheVariants.{Attach, Detach, Demand, Lose, Damage, GetSource, GetSink}
use Rattle.pd_setup.specs.declared.sink.SinkMode.{SinkMode}
use Rattle.pd_setup.specs.declared.sink.SinkMode.TheVariants.{PowerDelivery, Plain, Greedy}
use Rattle.pd_setup.specs.declared.sink.SinkRevision.{SinkRevision}
use Rattle.pd_setup.specs.declared.sink.SinkRevision.TheVariants.{Revision2, Revision3}
use Rattle.pd_scenario.specs.Events.{ScenarioEventKind}
use Rattle.pd_scenario.specs.Words.{kind_of, plug_of, mode_of, rating_of}
use Rattle.pd_scenario_tables.specs.Words.{revision_of}
use Rattle.pd_save.specs.Words.{kind_word, plug_word, mode_word, rating_number, revision_number}
use Rattle.pd_save.specs.Laws.{bare_kind, WordsAreRead}

kind_read : (kind : ScenarioEventKind) → kind_of (kind_word kind) ≡ Some (bare_kind kind)
kind_read (Attach cable sink) = refl
kind_read Detach = refl
kind_read (Demand mw) = refl
kind_read Lose = refl
kind_read (Damage harm) = refl
kind_read GetSource = refl
kind_read GetSink = refl

plug_read : (plug : CablePlug) → plug_of (plug_word plug) ≡ Some plug
plug_read Absent = refl
plug_read Ack = refl
plug_read Nak = refl
plug_read Busy = refl
plug_read Silent = refl

mode_read : (mode : SinkMode) → mode_of (mode_word mode) ≡ Some mode
mode_read PowerDelivery = refl
mode_read Plain = refl
mode_read Greedy = refl

rating_read : (rating : Rating) → rating_of (rating_number rating) ≡ Some rating
rating_read ThreeAmperes = refl
rating_read FiveAmperes = refl

revision_read : (revision : SinkRevision) → revision_of (pos (revision_number revision)) ≡ Some revision
revision_read Revision2 = refl
revision_read Revision3 = refl

pub words_are_read : WordsAreRead
words_are_read = record {
  kinds = kind_read;
  plugs = plug_read;
  modes = mode_read;
  ratings = rating_read;
  revisions = revision_read;
}
