use Rattle.std.proofs.Common.{◌<◌, List, arith, sym, subst}
use Rattle.std.proofs.lemmas.Result.{on_ok_weaker}
use Rattle.pd_keep.specs.Kept.{KeptData}
use Rattle.pd_keep.specs.Rerun.{AreThose}
use Rattle.pd_keep.specs.Spans.{kept_of_spans, moves_of}
use Rattle.pd_keep.proofs.Course.{go_beside, numbered_in}
use Rattle.pd_keep.proofs.Parted.{in_span}
use Rattle.pd_keep.proofs.rerun.go_on.Goals as goal

pub follow_on-requires : goal.follow_on-requires
follow_on-requires g c =
    let h = c.requires.comes in
    let k = h.2 in
    let w = in_span g.row.N h.0 h.1 k.place c.args.old.now k.kept k.there in
    let scripts = c.have_same_scripts.ensures c.if-have_same_scripts.true h.0 c.args.plan.now c.args.from c.args.old.now.to k.in_common in
    let can = go_beside g.row.N h.0 h.1 c.args.old.now c.args.plan.now c.args.spans.now c.args.from c.args.common c.args.alike
    c.share_alike-share.result c.args.live.now k scripts
    (λ share. c.share_alike-share.ensures share h.0 c.args.plan.now c.args.from c.args.old.now.to k.in_common) in
    let numbered = numbered_in g.row.N h.0 (moves_of h.1) c.args.old.now c.args.plan.now (moves_of c.args.spans.now) c.args.from
    can.beside in
    (omega arith, (omega arith, (w.made, (numbered, (k.soon, (k.far, (h.0, moves_of h.1, can)))))))

pub returns-then-have_same_scripts-clause-cost : goal.returns-then-have_same_scripts-clause-cost
returns-then-have_same_scripts-clause-cost g c =
    on_ok_weaker c.follow_on.result
    (λ paid a old_spans first k so_far.
    let all : List KeptData = kept_of_spans old_spans in
    let w = in_span g.row.N a old_spans k.place c.args.old.now k.kept k.there in
    let those : AreThose all c.args.from c.args.old.now.to c.args.old.now.moves =
    subst (λ t. AreThose all t c.args.old.now.to c.args.old.now.moves) (sym k.from_is) w.those in
    let scripts = c.have_same_scripts.ensures c.if-have_same_scripts.true a c.args.plan.now c.args.from c.args.old.now.to k.in_common in
    paid a (moves_of old_spans) all first
    (go_beside g.row.N a old_spans c.args.old.now c.args.plan.now c.args.spans.now c.args.from c.args.common c.args.alike
    c.share_alike-share.result c.args.live.now k scripts
    (λ share. c.share_alike-share.ensures share a c.args.plan.now c.args.from c.args.old.now.to k.in_common)) k.kept.own those so_far)
    c.follow_on.ensures.cost

pub run_on-requires : goal.run_on-requires
run_on-requires g c =
    let h = c.requires.comes in
    let k = h.2 in
    let w = in_span g.row.N h.0 h.1 k.place c.args.old.now k.kept k.there in
    let rises = w.rising in
    let begins = k.from_is in
    let to_is = c.to-to.ensures in
    let rising : c.args.from < c.to-to.result = omega arith in
    (omega arith, (omega arith, (w.made, (rising, (k.soon, (k.known, (k.far, k.stands)))))))

pub returns-clause-cost : goal.returns-clause-cost
returns-clause-cost g c =
    on_ok_weaker c.run_on.result
    (λ paid a old_spans first k so_far.
    let all : List KeptData = kept_of_spans old_spans in
    let w = in_span g.row.N a old_spans k.place c.args.old.now k.kept k.there in
    let from_at : AreThose all c.args.from c.args.old.now.to c.args.old.now.moves =
    subst (λ t. AreThose all t c.args.old.now.to c.args.old.now.moves) (sym k.from_is) w.those in
    let those : AreThose all c.args.from c.to-to.result c.args.old.now.moves =
    subst (λ t. AreThose all c.args.from t c.args.old.now.moves) (sym c.to-to.ensures) from_at in
    paid a all first k.kept.own those so_far)
    c.run_on.ensures.cost
