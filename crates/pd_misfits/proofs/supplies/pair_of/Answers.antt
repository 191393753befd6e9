use Rattle.std.proofs.Common.{◌≡◌, length, ap, sym, arith}
use Rattle.toml.proofs.Views.{view-Array}
use Rattle.pd_misfits.proofs.Pairs.{pair-items}
use Rattle.pd_misfits.proofs.supplies.pair_of.Goals as goal

pub returns-in_default-as_slice : goal.returns-in_default-as_slice
returns-in_default-as_slice c =
    rw (c.in-Array.is, view-Array)
    (sym (pair-items c.in-Array.items.items
    (λ (h : length c.in-Array.items.items ≡ 2). omega (arith, ap length c.as_slice.ensures.value))))

pub returns-in_default-as_slice-2 : goal.returns-in_default-as_slice-2
returns-in_default-as_slice-2 c =
    rw (c.in-Array.is, view-Array)
    (sym (pair-items c.in-Array.items.items
    (λ (h : length c.in-Array.items.items ≡ 2). omega (arith, ap length c.as_slice.ensures.value))))
