-- The row that is taken, as the code tells the guards, and a step by it.
use Rattle.std.proofs.Common.{◌≡◌, ℕ, Bool, List, refl, ap, ◌∙◌}
use Rattle.pd_sink.specs.declared.kinds.State.{State}
use Rattle.pd_sink.specs.declared.kinds.Act.{Act}
use Rattle.pd_sink.specs.declared.kinds.Stimulus.{Stimulus}
use Rattle.pd_sink.specs.declared.kinds.Facts.{Facts}
use Rattle.pd_sink.specs.declared.kinds.Deed.{Deed}
use Rattle.pd_sink.specs.Record.{SinkRecord}
use Rattle.pd_sink.specs.Facts.{told, facts_of}
use Rattle.pd_sink.specs.Table.{Guard, Always, Plain, NoContract, WasSent, HardResetsLeft, holds, row_of, deeds_of_row}
use Rattle.pd_sink.specs.Acts.{all_after, all_wants}
use Rattle.pd_sink.specs.Step.{before_row, deeds_at, stepped, acts_of}

told-each : (r : SinkRecord) (g : Guard) → told (facts_of r) g ≡ holds r g
told-each r Always = refl
told-each r Plain = refl
told-each r NoContract = refl
told-each r WasSent = refl
told-each r HardResetsLeft = refl

told-facts : (r : SinkRecord) → told (facts_of r) ≡ holds r
told-facts r = λ i g. told-each r g i

-- what a choice with these facts does is what the row that is taken does
deeds-told : (x : Stimulus) (r : SinkRecord) (s : State) (f : Facts) (ds : List Deed) → s ≡ r.state → f ≡ facts_of r
    → ds ≡ deeds_of_row (told f) (row_of (told f) s x) → ds ≡ deeds_at x r
deeds-told x r s f ds p q h =
    h
    ∙ ap (λ (s : State). deeds_of_row (told f) (row_of (told f) s x)) p
    ∙ ap (λ (f : Facts). deeds_of_row (told f) (row_of (told f) r.state x)) q
    ∙ ap (λ (g : Guard → Bool). deeds_of_row g (row_of g r.state x)) (told-facts r)

-- a step: what came is seen, a row is chosen, and what it does is done
module _ (r seen : SinkRecord) (now : ℕ) (x : Stimulus) (s : State) (f : Facts) (ds : List Deed) (p : seen ≡ before_row x r)
    (q : s ≡ seen.state) (u : f ≡ facts_of seen) (v : ds ≡ deeds_of_row (told f) (row_of (told f) s x)) where
  pub step-taken : (after : SinkRecord) → after ≡ all_after ds now x seen → after ≡ stepped now x r
  unfolding stepped
  step-taken after h =
      h
      ∙ ap (λ (ds : List Deed). all_after ds now x seen) (deeds-told x seen s f ds q u v)
      ∙ ap (λ (seen : SinkRecord). all_after (deeds_at x seen) now x seen) p

  pub acts-taken : (acts : List Act) → acts ≡ all_wants ds now x seen → acts ≡ acts_of now x r
  unfolding acts_of
  acts-taken acts h =
      h
      ∙ ap (λ (ds : List Deed). all_wants ds now x seen) (deeds-told x seen s f ds q u v)
      ∙ ap (λ (seen : SinkRecord). all_wants (deeds_at x seen) now x seen) p
