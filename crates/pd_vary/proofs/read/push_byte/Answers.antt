use Rattle.std.proofs.Common.{◌++◌, ◌∷◌, ◌∙◌, [], List, ℕ, ap, sym, map}
use Rattle.std.proofs.lemmas.List.{map-append}
use Rattle.pd_vary.specs.Sets.{joined, parts}
use Rattle.pd_vary.proofs.PartLemmas.{joined_byte, joined_comma}
use Rattle.pd_vary.proofs.read.push_byte.Goals as goal

pub returns-then-is_comma : goal.returns-then-is_comma
returns-then-is_comma c = λ rest.
    let ws = map (λ w. w.items) c.args.words.now.items in
    let more = ap (map (λ w. w.items)) c.in_ok-push.ensures.items ∙ map-append (λ w. w.items) c.args.words.now.items (c.args.word ∷ []) in
    joined_comma ws c.args.word.items rest c.args.byte (sym c.is_comma.ensures ∙ c.if-is_comma.true)
    ∙ ap (λ v. v ++ joined [] (parts rest)) (sym more)
    ∙ ap (λ (w : List ℕ). map (λ w. w.items) c.push.new.self.items ++ joined w (parts rest)) (sym c.new-next.ensures.items)

pub returns : goal.returns
returns c = λ rest.
    let ws = map (λ w. w.items) c.args.words.now.items in
    joined_byte ws c.args.word.items rest c.args.byte (sym c.is_comma.ensures ∙ c.if-is_comma.false)
    ∙ ap (λ (w : List ℕ). ws ++ joined w (parts rest)) (sym c.in_ok-push-2.ensures.items)
