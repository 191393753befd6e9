use Rattle.pd_draw.proofs.TitleLemmas.{titles}
use Rattle.pd_draw.proofs.laws.titles_are_lines.Goals as goal

pub returns : goal.returns
returns c = titles
