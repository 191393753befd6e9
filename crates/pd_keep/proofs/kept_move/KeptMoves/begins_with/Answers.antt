use Rattle.std.proofs.Common.{◌≡◌, ◌↔◌, ◌<◌, List, IsTrue, length, ap, sym, ◌∙◌, subst, slice_index_or}
use Rattle.std.proofs.lemmas.List.{get_or_default}
use Rattle.pd_port.specs.Port.{PortData}
use Rattle.pd_run.specs.Start.{no_port}
use Rattle.pd_keep.specs.Kept.{RunData}
use Rattle.pd_keep.proofs.kept_move.KeptMoves.begins_with.Goals as goal

pub returns-in-Some : goal.returns-in-Some
returns-in-Some c =
    let at = c.args.place in
    let list : List PortData = c.deref.result.now in
    let is : list ≡ c.args.self.now.first = c.deref.ensures.value ∙ ap (λ (r : RunData). r.first) c.self.view_is in
    let inside : at < length list = c.in-Some.ensures.lookup.3.0 in
    let there : slice_index_or list at no_port ≡ c.in-Some.first.now =
    get_or_default list at no_port c.in-Some.first.now inside ∙ sym c.in-Some.ensures.lookup.1 in
    subst (λ (l : List PortData). IsTrue c.stands_as.result ↔ (at < length l) × (slice_index_or l at no_port ≡ c.args.port.now)) is
    (λ yes. (inside, there ∙ c.stands_as.ensures.0 yes), λ with. c.stands_as.ensures.1 (sym there ∙ with.1))
