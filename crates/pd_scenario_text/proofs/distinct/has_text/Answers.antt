use Rattle.std.proofs.Common.{◌∙◌, ℕ, List, Bor, nat_cmp}
use Rattle.std.specs.Prelude.{bytes_eq}
use Rattle.std.specs.Ordering.{is_eq}
use Rattle.std.specs.Cmp.Lexicographic.{slice_cmp}
use Rattle.std.proofs.lemmas.Map.Text.{is_eq-slice_cmp}
use Rattle.pd_scenario_text.proofs.Differing.{list_any-same}
use Rattle.pd_scenario_text.proofs.distinct.has_text.Goals as goal

pub returns : goal.returns
returns c =
    c.contains.ensures
    ∙ list_any-same (λ (o : Bor (List ℕ)). is_eq (slice_cmp nat_cmp c.args.name.now o.now))
    (λ (o : Bor (List ℕ)). bytes_eq c.args.name.now o.now) (λ o. is_eq-slice_cmp c.args.name.now o.now) c.args.set.now.keys
