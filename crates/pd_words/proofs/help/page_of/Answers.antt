use Rattle.std.proofs.Common.{◌∙◌, ap, option_map}
use Rattle.std.specs.Prelude.{bytes_eq, find}
use Rattle.clap.proofs.WalkLemmas.{find-map}
use Rattle.clap.specs.Words.{Shape}
use Rattle.pd_words.specs.Help.{shape}
use Rattle.pd_words.proofs.help.page_of.Goals as goal

pub returns : goal.returns
returns c =
    ap (option_map (λ page. shape page.now)) c.page_named.ensures
    ∙ find-map (λ (s : Shape). bytes_eq s.name c.args.name.now) (λ page. shape page.now) c.pages-table.result
    ∙ ap (find (λ (s : Shape). bytes_eq s.name c.args.name.now)) c.pages-table.ensures
