use Rattle.std.proofs.Common.{refl}
use Rattle.clap.specs.Words.{app_of}
use Rattle.pd_words.specs.Help.{shape}
use Rattle.pd_words.specs.Lab.{with_commands}
use Rattle.pd_words.proofs.Tables.{more_commands}
use Rattle.pd_words.proofs.lab.with_pages.Goals as goal

pub loop-page-init : goal.loop-page-init
unfolding with_commands
loop-page-init c = refl

pub loop-page-preserved : goal.loop-page-preserved
loop-page-preserved c = more_commands (app_of c.args.program) (λ page. shape page.now) c.args.pages.now c.loop-page.page-index _ _ _ _
    c.loop-page-test.true (c.in_ok-program.ensures.shape c.in_ok-command.ensures.local) c.loop-page.invariant
    c.in_ok-command.ensures.shape
