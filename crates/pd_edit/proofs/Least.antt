-- The refusal that is answered is the least that applies.
use Rattle.std.proofs.Common.{◌≡◌, ℕ, ◌<◌, ◌⊎◌, true, false, find, refl, ap, inl, inr, Some, None, Err}
use Rattle.std.specs.Prelude.{Option}
use Rattle.pd_scenario.specs.Scenarios.{ScenarioData}
use Rattle.pd_scenario.proofs.First.{IsIn, least}
use Rattle.pd_edit_lines.specs.declared.fault.EditFault.{EditFault}
use Rattle.pd_edit_lines.specs.declared.fault.EditFault.TheVariants.{Syntax, IdTaken, NoSuchId, NoSuchPort, NoSuchName, InUse, Range}
use Rattle.pd_edit_lines.specs.declared.fault.EditFault.TheVariants.{Supplies, Floors, Limit, Memory}
use Rattle.pd_edit_lines.specs.declared.edit.Edit.{Edit}
use Rattle.pd_edit_lines.specs.Numbers.{number_of}
use Rattle.pd_edit.specs.Edits.{outcome}
use Rattle.pd_edit.specs.Refusals.{refuses, refusals, edited, answered}

refused_for : (o : Option EditFault) (c : ScenarioData) (fault : EditFault) → answered o c ≡ Err fault → o ≡ Some fault
refused_for None c fault h = absurd (cc)
refused_for (Some first) c fault h = let same : first ≡ fault = cc in ap (λ (f : EditFault). Some f) same

listed : (n : ℕ) (c : ScenarioData) (edit : Edit) (fault : EditFault) → (refuses fault n c edit ≡ false) ⊎ IsIn fault refusals
listed n c edit Syntax = inl refl
listed n c edit IdTaken = inr (inl refl)
listed n c edit NoSuchId = inr (inr (inl refl))
listed n c edit NoSuchPort = inr (inr (inr (inl refl)))
listed n c edit NoSuchName = inr (inr (inr (inr (inl refl))))
listed n c edit InUse = inr (inr (inr (inr (inr (inl refl)))))
listed n c edit Range = inr (inr (inr (inr (inr (inr (inl refl))))))
listed n c edit Supplies = inr (inr (inr (inr (inr (inr (inr (inl refl)))))))
listed n c edit Floors = inr (inr (inr (inr (inr (inr (inr (inr (inl refl))))))))
listed n c edit Limit = inr (inr (inr (inr (inr (inr (inr (inr (inr (inl refl)))))))))
listed n c edit Memory = inl refl

pub least_refusal : (n : ℕ) (c : ScenarioData) (edit : Edit) (fault : EditFault) → edited n c edit ≡ Err fault
    → (refuses fault n c edit ≡ true) × ((other : EditFault) → number_of other < number_of fault → refuses other n c edit ≡ false)
unfolding edited
least_refusal n c edit fault h =
    least number_of (λ f. refuses f n c edit) refusals fault refl (listed n c edit)
    (refused_for (find (λ f. refuses f n c edit) refusals) (outcome c edit) fault h)
