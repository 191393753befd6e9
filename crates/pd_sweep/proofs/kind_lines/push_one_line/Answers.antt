use Rattle.std.proofs.Common.{◌≡◌, ◌-◌, ◌++◌, codes, ap, sym, ◌∙◌, append_assoc, take, length, get_or}
use Rattle.std.specs.List.{flat_map}
use Rattle.std.proofs.lemmas.List.{flat_map_more, take_all, take_more}
use Rattle.pd_sweep.specs.KindLines.{spaced}
use Rattle.pd_sweep.proofs.kind_lines.push_one_line.Goals as goal

pub loop-byte-preserved : goal.loop-byte-preserved
loop-byte-preserved c =
    let i = c.loop-byte.byte-index in
    let front = c.split_at.result.0.now in
    let old = c.args.text.now.items in
    c.in_ok-push_spaced.ensures ∙ ap (λ v. v ++ spaced (get_or front i 0)) c.loop-byte.invariant
    ∙ flat_map_more spaced old (take i front) (get_or front i 0)
    ∙ ap (λ v. old ++ flat_map spaced v) (sym (take_more front i 0 c.loop-byte-test.true))

pub returns : goal.returns
returns c =
    let i = c.loop-byte.byte-index in
    let front = c.split_at.result.0.now in
    let lines = c.args.lines.now in
    let old = c.args.text.now.items in
    let all : take i front ≡ take (length lines - 1) lines =
    take_all i front c.loop-byte-test.false ∙ c.split_at.ensures.front ∙ ap (λ n. take n lines) c.saturating_sub.ensures in
    c.in_ok-extend_from_slice.ensures.items ∙ ap (λ v. v ++ codes "\n") c.loop-byte.invariant
    ∙ ap (λ v. (old ++ flat_map spaced v) ++ codes "\n") all
    ∙ append_assoc old (flat_map spaced (take (length lines - 1) lines)) (codes "\n")
