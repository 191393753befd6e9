use Rattle.std.proofs.Common.{List, ◌∷◌, [], ◌++◌, length, take, drop, replicate, ◌-◌, ap, ◌∙◌}
use Rattle.pd_symbols.specs.ShortLists.{filled}
use Rattle.pd_objects.specs.Supply.{SupplyData}
use Rattle.pd_objects.proofs.supply_list.SupplyList.of.Goals as goal

pub invariant_of-result : goal.invariant_of-result
invariant_of-result c =
    let n = length c.args.supplies.now in
    let f : SupplyData = c.default-items.result in
    let items : List SupplyData = c.copy_from_slice.new.self ++ drop n (f ∷ f ∷ f ∷ f ∷ f ∷ f ∷ f ∷ []) in
    let all = filled 7 f c.copy_from_slice.new.self n c.requires (ap length c.copy_from_slice.ensures.after) in
    (all.0, all.1, all.2 ∙ ap (λ (x : SupplyData). take n items ++ replicate (7 - n) x) c.default-items.ensures)
