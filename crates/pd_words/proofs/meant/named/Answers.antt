use Rattle.std.proofs.Common.{◌∙◌, ap, sym, option_map}
use Rattle.std.specs.Prelude.{bytes_eq}
use Rattle.pd_hints.proofs.SlipLemmas.{find-map}
use Rattle.pd_words.proofs.meant.named.Goals as goal

pub returns : goal.returns
returns c = ap (option_map _) c.first_named.ensures ∙ sym (find-map (bytes_eq c.args.word.now) _ c.args.names.now)
