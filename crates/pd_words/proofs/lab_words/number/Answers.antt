use Rattle.std.proofs.Common.{refl}
use Rattle.pd_words.proofs.LabNumbers.{number_read}
use Rattle.pd_words.proofs.lab_words.number.Goals as goal

pub returns-in-Ok : goal.returns-in-Ok
returns-in-Ok c =
    let read = number_read c.args.word.now c.parse.result c.parse.ensures.value.0 in
    rw (← read, c.in-Ok.is) refl

pub returns-in-Err : goal.returns-in-Err
returns-in-Err c =
    let read = number_read c.args.word.now c.parse.result c.parse.ensures.value.0 in
    rw (← read, c.in-Err.is) refl
