-- The plug's engine knows the cable of its attach, and sends what that cable answers.
use Rattle.std.proofs.Common.{◌≡◌, ℕ, List, [], ◌∷◌, ◌++◌, refl, subst, ◌∙◌}
use Rattle.pd_plug.specs.declared.kinds.Stimulus.{Stimulus}
use Rattle.pd_plug.specs.declared.kinds.Act.{Act}
use Rattle.pd_plug.specs.declared.kinds.Deed.{Deed}
use Rattle.pd_plug.specs.declared.kinds.Deed.TheVariants as deed
use Rattle.pd_plug.specs.Record.{PlugRecord}
use Rattle.pd_plug.specs.Acts.{after, wants, all_after, all_wants}
use Rattle.pd_plug.specs.Step.{before_row, deeds_at, stepped, acts_of}
use Rattle.pd_plug.specs.Laws.{SendOf, StepsSendOfTheirCables}

cable-after : (d : Deed) (now : ℕ) (r : PlugRecord) → (after d now r).cable ≡ r.cable
cable-after (deed.Enter s) now r = refl
cable-after deed.StartDelay now r = refl
cable-after deed.SendIdentity now r = refl

cable-all_after : (ds : List Deed) (now : ℕ) (r : PlugRecord) → (all_after ds now r).cable ≡ r.cable
cable-all_after [] now r = refl
cable-all_after (d ∷ ds) now r = cable-all_after ds now (after d now r) ∙ cable-after d now r

-- the cable that is known after a step is the one known before its row
pub cable-stepped : (now : ℕ) (x : Stimulus) (r : PlugRecord) → (stepped now x r).cable ≡ (before_row x r).cable
unfolding stepped
cable-stepped now x r = cable-all_after (deeds_at x (before_row x r)) now (before_row x r)

wants_of : (d : Deed) (r : PlugRecord) (acts : List Act) → SendOf r.cable acts → SendOf r.cable (wants d r ++ acts)
wants_of (deed.Enter s) r acts h = h
wants_of deed.StartDelay r acts h = h
wants_of deed.SendIdentity r acts h = (refl, h)

all_wants_of : (ds : List Deed) (now : ℕ) (r : PlugRecord) → SendOf r.cable (all_wants ds now r)
all_wants_of [] now r = tt
all_wants_of (d ∷ ds) now r =
    wants_of d r (all_wants ds now (after d now r))
    (subst (λ c. SendOf c (all_wants ds now (after d now r))) (cable-after d now r) (all_wants_of ds now (after d now r)))

-- what a step sends is what that cable answers
pub acts_of-of : (now : ℕ) (x : Stimulus) (r : PlugRecord) → SendOf (before_row x r).cable (acts_of now x r)
unfolding acts_of
acts_of-of now x r = all_wants_of (deeds_at x (before_row x r)) now (before_row x r)

pub sends_of_cables : StepsSendOfTheirCables
sends_of_cables now x r = record { cable = cable-stepped now x r; sends = acts_of-of now x r }
