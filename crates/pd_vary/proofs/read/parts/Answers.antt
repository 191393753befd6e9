use Rattle.std.proofs.Common.{◌≡◌, ◌∷◌, ◌∙◌, [], List, ℕ, ap, sym, map, drop, arith}
use Rattle.std.proofs.Math.ListN.{drop_of_length-le}
use Rattle.std.proofs.lemmas.List.{map-append}
use Rattle.pd_vary.specs.Sets.{words_from}
use Rattle.pd_vary.proofs.PartLemmas.{joined_end, joined_none}
use Rattle.pd_vary.proofs.read.parts.Goals as goal

pub loop-byte-init : goal.loop-byte-init
loop-byte-init c = rw (c.new-words.ensures.items, c.new-word.ensures.items) (joined_none c.args.text.now)

pub returns : goal.returns
returns c =
    let ws = map (λ w. w.items) c.loop-byte.words.items in
    let over : drop c.loop-byte.byte-index c.args.text.now ≡ [] =
    drop_of_length-le c.args.text.now (omega (arith, c.loop-byte-test.false)) in
    let all = ap (map (λ w. w.items)) c.in_ok-push.ensures.items
    ∙ map-append (λ w. w.items) c.loop-byte.words.items (c.loop-byte.word ∷ []) in
    all ∙ sym (joined_end ws c.loop-byte.word.items)
    ∙ ap (λ (t : List ℕ). words_from ws c.loop-byte.word.items t) (sym over)
    ∙ sym c.loop-byte.invariant
