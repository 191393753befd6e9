use Rattle.std.proofs.Common.{◌≡◌, map, take}
use Rattle.clap.specs.Words.{app_of}
use Rattle.pd_words.specs.Help.{shape}
use Rattle.pd_words.specs.Lab.{with_commands}
use Rattle.pd_words.proofs.lab.with_pages.Given as goal

abbrev pub invariant-loop-page : goal.invariant-loop-page
invariant-loop-page l = app_of l.program ≡ with_commands (app_of l.fn.program) (map (λ page. shape page.now) (take l.page-index l.pages))
