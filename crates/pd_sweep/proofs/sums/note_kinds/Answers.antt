use Rattle.std.proofs.Common.{◌≡◌, ap, sym, ◌∙◌, add-one, arith, take, get_or, set, List}
use Rattle.pd_header.specs.declared.kind.Kind.TheVariants.{GoodCrc}
use Rattle.pd_sweep.specs.Sums.{kinds, noted_kinds, noted_of}
use Rattle.pd_sweep.specs.Tallies.{no_trial}
use Rattle.pd_sweep.specs.declared.tally.Tally.{Tally}
use Rattle.pd_sweep.proofs.SumLemmas.{one_more_kind, rest_kept, room_at}
use Rattle.pd_sweep.proofs.sums.note_kinds.Goals as goal

pub noted_of-requires : goal.noted_of-requires
noted_of-requires c =
    let i = c.loop-index.index in
    let ts = c.args.tallies.now in
    rw (c.loop-index.invariant, rest_kept c.args.reserve c.args.old.now c.args.trial.now kinds ts i no_trial)
    (room_at c.args.reserve c.args.old.now ts i no_trial c.requires (omega arith))

pub loop-index-preserved : goal.loop-index-preserved
loop-index-preserved c =
    let reserve = c.args.reserve in
    let old = c.args.old.now in
    let trial = c.args.trial.now in
    let i = c.loop-index.index in
    let ts = c.args.tallies.now in
    let was : c.loop-index.tallies ≡ noted_kinds reserve old trial (take i kinds) ts = c.loop-index.invariant in
    let here : c.noted_of.result ≡ noted_of reserve old trial (get_or kinds i GoodCrc) (get_or ts i no_trial) =
    c.noted_of.ensures ∙ ap (λ (v : List Tally). noted_of reserve old trial (get_or kinds i GoodCrc) (get_or v i no_trial)) was
    ∙ ap (λ (t : Tally). noted_of reserve old trial (get_or kinds i GoodCrc) t) (rest_kept reserve old trial kinds ts i no_trial) in
    ap (λ (v : List Tally). set v i c.noted_of.result) was
    ∙ ap (λ (t : Tally). set (noted_kinds reserve old trial (take i kinds) ts) i t) here
    ∙ sym (one_more_kind reserve old trial kinds ts i GoodCrc no_trial (omega arith))
    ∙ ap (λ j. noted_kinds reserve old trial (take j kinds) ts) (sym (add-one i))
