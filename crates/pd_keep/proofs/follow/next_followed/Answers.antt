use Rattle.std.proofs.Common.{arith}
use Rattle.pd_keep.proofs.Following.{some_kept}
use Rattle.pd_keep.proofs.follow.next_followed.Goals as goal

pub follows-requires-clause-first : goal.follows-requires-clause-first
follows-requires-clause-first c =
    let brief = c.brief.ensures some_kept in
    let port = brief.port in
    let numbered = c.requires.numbered c.loop-at.at some_kept (omega arith) in
    omega arith

pub follows-requires-clause-last : goal.follows-requires-clause-last
follows-requires-clause-last c =
    let brief = c.brief.ensures some_kept in
    let port = brief.port in
    let numbered = c.requires.numbered c.loop-at.at some_kept (omega arith) in
    omega arith
