-- Words and numbers by which a value is read are those of a list, one after the other.
use Rattle.std.proofs.Common.{◌≡◌, ℕ, Bool, true, false, List, Option, Some, None, refl}
use Rattle.std.specs.Prelude.{◌||◌, ◌==◌, pos, is_some, bytes_eq, codes, if◌then◌else◌}
use Rattle.std.specs.List.{list_any}
use Rattle.std.specs.Ordering.{int_eq}
use Rattle.pd_identity.specs.declared.CablePlug.{CablePlug}
use Rattle.pd_identity.specs.declared.CablePlug.TheVariants.{Absent, Ack, Nak, Busy, Silent}
use Rattle.pd_identity.specs.declared.Rating.{Rating}
use Rattle.pd_identity.specs.declared.Rating.TheVariants.{ThreeAmperes, FiveAmperes}
use Rattle.pd_setup.specs.Events.{KindWord}
use Rattle.pd_setup.specs.declared.event.EventKind.TheVariants.{Attach, Detach, Demand, Lose, Damage, GetSource, GetSink}
use Rattle.pd_setup.specs.declared.sink.SinkMode.{SinkMode}
use Rattle.pd_setup.specs.declared.sink.SinkMode.TheVariants.{PowerDelivery, Plain, Greedy}
use Rattle.pd_setup.specs.declared.sink.SinkRevision.{SinkRevision}
use Rattle.pd_setup.specs.declared.sink.SinkRevision.TheVariants.{Revision2, Revision3}
use Rattle.pd_scenario_tables.specs.declared.schema.Version.{Version}
use Rattle.pd_scenario_tables.specs.declared.schema.Version.TheVariants.{One, Two}
use Rattle.pd_scenario_tables.specs.declared.schema.EventName.TheVariants.{Budget, Unknown}
use Rattle.pd_scenario_tables.specs.Values.{is_known}
use Rattle.pd_scenario_tables.specs.Words.{event_named, named_event}
use Rattle.pd_save.specs.SchemaForms.{kind_words}
use Rattle.pd_save.specs.SchemaLaws.{SchemaIsWhole}

-- one word or number more
or_read : {A : Type 0} (is_it others : Bool) (value : A) (read : Option A) → others ≡ is_some read
    → (is_it || others) ≡ is_some (if is_it then Some value else read)
or_read true others value read h = refl
or_read false others value read h = h

-- one kind of event of a port more
or_known : (version : Version) (word : List ℕ) (is_it others : Bool) (kind : KindWord) (read : Option KindWord)
    → others ≡ is_known (named_event version word read)
    → (is_it || others) ≡ is_known (named_event version word (if is_it then Some kind else read))
or_known version word true others kind read h = refl
or_known version word false others kind read h = h

-- and last the budget
or_budget : (is_it : Bool) → (is_it || false) ≡ is_known (if is_it then Budget else Unknown)
or_budget true = refl
or_budget false = refl

kinds_whole : (version : Version) (word : List ℕ) → list_any (bytes_eq word) (kind_words version) ≡ is_known (event_named version word)
kinds_whole One word =
    or_known One word (bytes_eq word (codes "attach")) _ (Attach tt tt) _
    (or_known One word (bytes_eq word (codes "detach")) _ Detach _
    (or_known One word (bytes_eq word (codes "demand")) _ (Demand tt) _
    (or_known One word (bytes_eq word (codes "lose")) _ Lose _
    (or_known One word (bytes_eq word (codes "damage")) _ (Damage tt) _
    (or_known One word (bytes_eq word (codes "get_source")) _ GetSource _
    (or_known One word (bytes_eq word (codes "get_sink")) false GetSink None refl))))))
kinds_whole Two word =
    or_known Two word (bytes_eq word (codes "attach")) _ (Attach tt tt) _
    (or_known Two word (bytes_eq word (codes "detach")) _ Detach _
    (or_known Two word (bytes_eq word (codes "demand")) _ (Demand tt) _
    (or_known Two word (bytes_eq word (codes "lose")) _ Lose _
    (or_known Two word (bytes_eq word (codes "damage")) _ (Damage tt) _
    (or_known Two word (bytes_eq word (codes "get_source")) _ GetSource _
    (or_known Two word (bytes_eq word (codes "get_sink")) _ GetSink None (or_budget (bytes_eq word (codes "budget")))))))))

pub schema_is_whole : SchemaIsWhole
schema_is_whole = record {
  kinds = kinds_whole;
  plugs = λ word. or_read {A = CablePlug} (bytes_eq word (codes "none")) _ Absent _
      (or_read {A = CablePlug} (bytes_eq word (codes "ack")) _ Ack _
      (or_read {A = CablePlug} (bytes_eq word (codes "nak")) _ Nak _
      (or_read {A = CablePlug} (bytes_eq word (codes "busy")) _ Busy _
      (or_read {A = CablePlug} (bytes_eq word (codes "silent")) false Silent None refl))));
  modes = λ word. or_read {A = SinkMode} (bytes_eq word (codes "pd")) _ PowerDelivery _
      (or_read {A = SinkMode} (bytes_eq word (codes "plain")) _ Plain _
      (or_read {A = SinkMode} (bytes_eq word (codes "greedy")) false Greedy None refl));
  versions = λ number. or_read {A = Version} (int_eq number (pos 1)) _ One _
      (or_read {A = Version} (int_eq number (pos 2)) false Two None refl);
  ratings = λ number. or_read {A = Rating} (number == 3000) _ ThreeAmperes _
      (or_read {A = Rating} (number == 5000) false FiveAmperes None refl);
  revisions = λ number. or_read {A = SinkRevision} (int_eq number (pos 2)) _ Revision2 _
      (or_read {A = SinkRevision} (int_eq number (pos 3)) false Revision3 None refl);
}
