use Rattle.std.proofs.Common.{◌∙◌, map}
use Rattle.std.proofs.lemmas.Simd.{map-map}
use Rattle.pd_words.specs.Help.{shape}
use Rattle.pd_words.proofs.Tables.{grown}
use Rattle.pd_words.proofs.help.program_help.Goals as goal

pub returns : goal.returns
returns c = (
  map (λ page. page.now) c.pages-table.result,
  map-map shape (λ page. page.now) c.pages-table.result ∙ c.pages-table.ensures,
  grown _ _ _ _ _ _ _ c.new-text.ensures.bytes c.in_ok-push_str.ensures.bytes c.in_ok-push_summaries.ensures
      c.in_ok-push_str-2.ensures.bytes,
)
