use Rattle.std.proofs.Common.{◌≡◌, drop, map}
use Rattle.pd_vary.specs.Sets.{parts, words_from}
use Rattle.pd_vary.proofs.read.parts.Given as goal

-- the words so far, and the one that has begun before what is left
abbrev pub invariant-loop-byte : goal.invariant-loop-byte
invariant-loop-byte l =
    parts l.text ≡ words_from (map (λ w. w.items) l.words.items) l.word.items (drop l.byte-index l.text)
