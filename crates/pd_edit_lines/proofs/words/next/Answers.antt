use Rattle.std.proofs.Common.{sym}
use Rattle.pd_edit_lines.proofs.FirstWord.{words-first, positive}
use Rattle.pd_edit_lines.proofs.words.next.Goals as goal

pub returns : goal.returns
returns c =
    let some = positive c.word_len.result c.without_spaces-rest.result.now c.word_len.ensures.found c.without_spaces-rest.ensures.front
    (sym c.if-is_empty.ensures) in
    let first = words-first c.without_spaces-rest.result.now c.word_len.result c.word_len.ensures.within c.word_len.ensures.before
    c.word_len.ensures.found some in
    rw (← c.without_spaces-rest.ensures.same, first, c.split_at.ensures.front, c.split_at.ensures.back)
