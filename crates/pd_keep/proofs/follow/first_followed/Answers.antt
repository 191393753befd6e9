use Rattle.std.proofs.Common.{◌≡◌, ◌-◌, ap, arith, false, sym, ◌∙◌, slice_index_or}
use Rattle.pd_keep.proofs.Following.{not_both, some_kept}
use Rattle.pd_keep.proofs.follow.first_followed.Goals as goal

pub brief-brief-requires : goal.brief-brief-requires
brief-brief-requires c = (c.comes_first.ensures.first c.if-comes_first.true some_kept).0

pub follows-requires-clause-first : goal.follows-requires-clause-first
follows-requires-clause-first c =
    let brief = c.brief-brief.ensures some_kept in
    let port = brief.port in
    let numbered = c.requires.few c.args.at some_kept (c.comes_first.ensures.first c.if-comes_first.true some_kept).0 in
    omega (arith, numbered.0)

pub follows-requires-clause-last : goal.follows-requires-clause-last
follows-requires-clause-last c =
    let brief = c.brief-brief.ensures some_kept in
    let port = brief.port in
    let numbered = c.requires.few c.args.at some_kept (c.comes_first.ensures.first c.if-comes_first.true some_kept).0 in
    omega (arith, numbered.1)

pub returns-then-follows-clause-some : goal.returns-then-follows-clause-some
returns-then-follows-clause-some c = record {
  inside = (c.comes_first.ensures.first c.if-comes_first.true some_kept).0;
  brief = c.brief-brief.ensures;
  there = sym c.follows.ensures ∙ c.if-follows.true;
  first = λ k. (c.comes_first.ensures.first c.if-comes_first.true k).1;
}

pub returns-else-follows-clause-none : goal.returns-else-follows-clause-none
returns-else-follows-clause-none c = λ brief is.
    let port : c.brief-brief.result.port ≡ brief.port = (c.brief-brief.ensures some_kept).port ∙ sym (is.brief some_kept).port in
    let same = ap (λ p. slice_index_or c.args.away.now (p - 1) false) port in
    let there = is.there in
    let told = c.follows.ensures in
    let isnt = c.if-follows.false in cc

pub returns-else-comes_first-clause-none : goal.returns-else-comes_first-clause-none
returns-else-comes_first-clause-none c = λ brief is.
    not_both (slice_index_or c.args.old.now.moves c.args.at some_kept) c.args.own.now (is.first some_kept)
    (c.comes_first.ensures.other c.if-comes_first.false some_kept is.inside)
