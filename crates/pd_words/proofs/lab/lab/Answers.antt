use Rattle.std.proofs.Common.{◌∙◌, ap, map}
use Rattle.std.proofs.lemmas.Result.{IfOk-weaker}
use Rattle.pd_words.specs.Help.{shape}
use Rattle.pd_words.specs.Lab as spec
use Rattle.pd_words.proofs.Tables.{all_commands}
use Rattle.pd_words.proofs.lab.lab.Goals as goal

pub returns : goal.returns
returns c =
    let bare = c.with_version.ensures ∙ ap spec.with_version c.new.ensures.app in
    let shapes = map (λ page. shape page.now) c.pages-table.result in
    IfOk-weaker c.with_pages.result _ _ (λ program all. all ∙ ap (λ app. spec.with_commands app shapes) bare ∙ all_commands shapes
    c.pages-table.ensures) c.with_pages.ensures
