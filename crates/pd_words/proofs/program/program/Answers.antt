use Rattle.std.proofs.Common.{◌∙◌, ap, ap₂, codes}
use Rattle.std.proofs.lemmas.Result.{IfOk-weaker}
use Rattle.clap.specs.Words.{App, with_subcommand}
use Rattle.pd_words.specs.Program as spec
use Rattle.pd_words.proofs.program.program.Goals as goal

pub returns : goal.returns
unfolding spec.program
returns c =
    let first = c.in_ok-run.ensures.app ∙ ap (λ a. spec.with_word a (codes "SCENARIO")) c.new.ensures.app in
    let run = c.in_ok-run-2.ensures.app ∙ ap (λ a. spec.with_word a (codes "EDITS")) first in
    let check = c.in_ok-check.ensures.app ∙ ap (λ a. spec.with_word a (codes "SCENARIO")) c.new-2.ensures.app in
    let decode = c.in_ok-decode.ensures.app ∙ ap (λ a. spec.with_word a (codes "SYMBOLS")) c.new-3.ensures.app in
    let run_is_local = c.in_ok-run-2.ensures.local ∙ c.in_ok-run.ensures.local ∙ c.new.ensures.local in
    let check_is_local = c.in_ok-check.ensures.local ∙ c.new-2.ensures.local in
    let decode_is_local = c.in_ok-decode.ensures.local ∙ c.new-3.ensures.local in
    let with_run = c.in_ok-subcommand.ensures.shape run_is_local ∙ ap₂ with_subcommand c.new-4.ensures.app (ap (λ (a : App). a.top) run) in
    let with_check = c.in_ok-subcommand-2.ensures.shape check_is_local ∙ ap₂ with_subcommand with_run (ap (λ (a : App). a.top) check) in
    IfOk-weaker c.subcommand-3.result _ _
    (λ new added. added.shape decode_is_local ∙ ap₂ with_subcommand with_check (ap (λ (a : App). a.top) decode)) c.subcommand-3.ensures
