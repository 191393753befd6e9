use Rattle.std.proofs.Common.{◌≡◌, ◌++◌, map, take}
use Rattle.std.specs.List.{flat_map}
use Rattle.std.specs.String.{string_bytes}
use Rattle.pd_words.specs.Help.{summary_line}
use Rattle.pd_words.proofs.help.push_summaries.Given as goal

abbrev pub invariant-loop-page : goal.invariant-loop-page
invariant-loop-page l = string_bytes l.text
    ≡ string_bytes l.initial.text ++ flat_map summary_line (map (λ page. page.now) (take l.page-index l.pages))
