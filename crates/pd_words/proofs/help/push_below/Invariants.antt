use Rattle.std.proofs.Common.{◌≡◌, ◌++◌, map, take}
use Rattle.std.specs.String.{string_bytes}
use Rattle.pd_words.specs.Help.{below}
use Rattle.pd_words.proofs.help.push_below.Given as goal

abbrev pub invariant-loop-line : goal.invariant-loop-line
invariant-loop-line l = string_bytes l.text
    ≡ string_bytes l.initial.text ++ below l.column (map (λ line. line.now) (take l.line-index l.lines))
