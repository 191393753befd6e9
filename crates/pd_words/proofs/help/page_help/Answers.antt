use Rattle.pd_words.proofs.Tables.{grown}
use Rattle.pd_words.proofs.help.page_help.Goals as goal

pub returns : goal.returns
returns c =
    grown _ _ _ _ _ _ _ c.new-text.ensures.bytes c.in_ok-push_all.ensures c.in_ok-push_options.ensures c.in_ok-push_str.ensures.bytes
