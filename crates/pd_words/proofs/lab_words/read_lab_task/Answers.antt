use Rattle.std.proofs.Common.{◌≡◌, ◌⊎◌, Some, None, inl, inr, subst}
use Rattle.std.specs.Prelude.{IfOk, IfErr}
use Rattle.pd_words.specs.LabTasks.{asked}
use Rattle.pd_words.specs.declared.lab_task.LabFault.TheVariants.{Memory}
use Rattle.pd_words.proofs.LabLines.{refused, taken}
use Rattle.pd_words.proofs.lab_words.read_lab_task.Goals as goal

pub returns-in-Ok-try_get_matches_from-clause-ok : goal.returns-in-Ok-try_get_matches_from-clause-ok
returns-in-Ok-try_get_matches_from-clause-ok c =
    let found = c.in-Ok-try_get_matches_from in
    subst (λ told. IfOk c.task_named.result (λ task. told ≡ Some (asked task)))
    (taken _ _ found.matches c.in-Ok.ensures found.ensures.kinds found.ensures.matches) c.task_named.ensures.ok

pub returns-in-Ok-try_get_matches_from-clause-err : goal.returns-in-Ok-try_get_matches_from-clause-err
returns-in-Ok-try_get_matches_from-clause-err c =
    let found = c.in-Ok-try_get_matches_from in
    subst (λ told. IfErr c.task_named.result (λ fault. (fault ≡ Memory) ⊎ (told ≡ None)))
    (taken _ _ found.matches c.in-Ok.ensures found.ensures.kinds found.ensures.matches) c.task_named.ensures.err

pub returns-in-Err-clause-err : goal.returns-in-Err-clause-err
returns-in-Err-clause-err c = elim (refused _ _ c.in-Err.error c.in-Ok.ensures c.in-Err.ensures.kinds) [
  | inl memory ↦ inl (c.fault_of.ensures memory)
  | inr none ↦ inr none
]
