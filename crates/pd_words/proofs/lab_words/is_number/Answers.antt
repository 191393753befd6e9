use Rattle.std.proofs.Common.{◌∙◌, ap, sym}
use Rattle.std.specs.Result.{result_ok}
use Rattle.pd_words.proofs.LabNumbers.{number_read, there_is, there_is_none}
use Rattle.pd_words.proofs.lab_words.is_number.Goals as goal

pub returns-in-Ok : goal.returns-in-Ok
returns-in-Ok c =
    let read = number_read c.args.word.now c.parse.result c.parse.ensures.value.0 in
    there_is c.args.word.now _ (sym (ap result_ok c.in-Ok.is) ∙ read)

pub returns-in-Err : goal.returns-in-Err
returns-in-Err c =
    let read = number_read c.args.word.now c.parse.result c.parse.ensures.value.0 in
    there_is_none c.args.word.now (sym (ap result_ok c.in-Err.is) ∙ read)
