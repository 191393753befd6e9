use Rattle.std.proofs.Common.{◌∙◌, ◌≡◌, List, String, map, sym}
use Rattle.std.specs.Global.{Global}
use Rattle.std.specs.List.{slice_index_or}
use Rattle.std.specs.Str.{IsUtf8}
use Rattle.std.specs.String.{string_bytes}
use Rattle.std.proofs.lemmas.List.Elements.{All-map}
use Rattle.std.proofs.lemmas.Str.{IsUtf8-string_bytes}
use Rattle.pd_words.specs.Tasks.{task_of}
use Rattle.pd_words.proofs.CommandLines.{found_as_asked}
use Rattle.pd_words.proofs.FoundTask.{found_task}
use Rattle.pd_words.proofs.TaskLemmas.{refused, taken, told_ok, told_usage}
use Rattle.pd_words.proofs.task.read_task.Goals as goal

as_asked : (words : List (String Global)) → task_of (map string_bytes words) ≡ found_task (map string_bytes words)
as_asked words = sym (found_as_asked (map string_bytes words)
    (All-map IsUtf8 string_bytes words (λ k d within. IsUtf8-string_bytes (slice_index_or words k d))))

pub returns-in-Ok-try_get_matches_from-clause-ok : goal.returns-in-Ok-try_get_matches_from-clause-ok
returns-in-Ok-try_get_matches_from-clause-ok c =
    let found = c.in-Ok-try_get_matches_from in
    let told = as_asked _ ∙ taken _ _ found.matches c.in-Ok.ensures found.ensures.kinds found.ensures.matches ∙ sym c.task_named.ensures in
    rw c.ok_or.ensures.value (told_ok _ c.task_named.result told)

pub returns-in-Ok-try_get_matches_from-clause-usage : goal.returns-in-Ok-try_get_matches_from-clause-usage
returns-in-Ok-try_get_matches_from-clause-usage c =
    let found = c.in-Ok-try_get_matches_from in
    let told = as_asked _ ∙ taken _ _ found.matches c.in-Ok.ensures found.ensures.kinds found.ensures.matches ∙ sym c.task_named.ensures in
    rw c.ok_or.ensures.value (told_usage _ c.task_named.result told)

pub returns-in-Err-clause-usage : goal.returns-in-Err-clause-usage
returns-in-Err-clause-usage c = λ usage.
    as_asked _ ∙ refused _ _ c.in-Err.error c.in-Ok.ensures c.in-Err.ensures.kinds (rw (← c.kind.ensures, ← c.fault_by.ensures) usage)
