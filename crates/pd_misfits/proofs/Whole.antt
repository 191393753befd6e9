-- Words by which a value is read are those of a list, one after the other.
use Rattle.std.proofs.Common.{◌≡◌, Bool, true, false, Option, Some, None, refl}
use Rattle.std.specs.Prelude.{◌||◌, is_some, bytes_eq, codes, if◌then◌else◌}
use Rattle.pd_identity.specs.declared.CablePlug.{CablePlug}
use Rattle.pd_identity.specs.declared.CablePlug.TheVariants.{Absent, Ack, Nak, Busy, Silent}
use Rattle.pd_setup.specs.Events.{KindWord}
use Rattle.pd_setup.specs.declared.event.EventKind.TheVariants.{Attach, Detach, Demand, Lose, Damage, GetSource, GetSink}
use Rattle.pd_setup.specs.declared.sink.SinkMode.{SinkMode}
use Rattle.pd_setup.specs.declared.sink.SinkMode.TheVariants.{PowerDelivery, Plain, Greedy}
use Rattle.pd_misfits.specs.Laws.{WordsAreWhole}

-- one word more
or_read : {A : Type 0} (is_it others : Bool) (value : A) (read : Option A) → others ≡ is_some read
    → (is_it || others) ≡ is_some (if is_it then Some value else read)
or_read true others value read h = refl
or_read false others value read h = h

pub words_are_whole : WordsAreWhole
words_are_whole = record {
  kinds = λ word. or_read {A = KindWord} (bytes_eq word (codes "attach")) _ (Attach tt tt) _
      (or_read {A = KindWord} (bytes_eq word (codes "detach")) _ Detach _
      (or_read {A = KindWord} (bytes_eq word (codes "demand")) _ (Demand tt) _
      (or_read {A = KindWord} (bytes_eq word (codes "lose")) _ Lose _
      (or_read {A = KindWord} (bytes_eq word (codes "damage")) _ (Damage tt) _
      (or_read {A = KindWord} (bytes_eq word (codes "get_source")) _ GetSource _
      (or_read {A = KindWord} (bytes_eq word (codes "get_sink")) false GetSink None refl))))));
  plugs = λ word. or_read {A = CablePlug} (bytes_eq word (codes "none")) _ Absent _
      (or_read {A = CablePlug} (bytes_eq word (codes "ack")) _ Ack _
      (or_read {A = CablePlug} (bytes_eq word (codes "nak")) _ Nak _
      (or_read {A = CablePlug} (bytes_eq word (codes "busy")) _ Busy _
      (or_read {A = CablePlug} (bytes_eq word (codes "silent")) false Silent None refl))));
  modes = λ word. or_read {A = SinkMode} (bytes_eq word (codes "pd")) _ PowerDelivery _
      (or_read {A = SinkMode} (bytes_eq word (codes "plain")) _ Plain _
      (or_read {A = SinkMode} (bytes_eq word (codes "greedy")) false Greedy None refl));
}
