use Rattle.std.proofs.Common.{◌≡◌, ◌++◌, ◌∙◌, List, ℕ, ap, append_assoc, codes}
use Rattle.std.specs.Prelude.{decimal}
use Rattle.pd_show.specs.Pages.{json_line}
use Rattle.pd_show.proofs.PageLemmas.{joined10}
use Rattle.pd_show.proofs.page.push_json_line.Goals as goal

joined11 : (t t1 t2 t3 t4 t5 t6 t7 t8 t9 t10 t11 a b c d e f g h i j k : List ℕ) → t1 ≡ t ++ a → t2 ≡ t1 ++ b → t3 ≡ t2 ++ c →
    t4 ≡ t3 ++ d → t5 ≡ t4 ++ e → t6 ≡ t5 ++ f → t7 ≡ t6 ++ g → t8 ≡ t7 ++ h → t9 ≡ t8 ++ i → t10 ≡ t9 ++ j → t11 ≡ t10 ++ k →
    t11 ≡ t ++ (a ++ (b ++ (c ++ (d ++ (e ++ (f ++ (g ++ (h ++ (i ++ (j ++ k))))))))))
joined11 t t1 t2 t3 t4 t5 t6 t7 t8 t9 t10 t11 a b c d e f g h i j k e1 e2 e3 e4 e5 e6 e7 e8 e9 e10 e11 =
    joined10 t t1 t2 t3 t4 t5 t6 t7 t8 t9 t11 a b c d e f g h i (j ++ k) e1 e2 e3 e4 e5 e6 e7 e8 e9
    (e11 ∙ ap (λ v. v ++ k) e10 ∙ append_assoc t9 j k)

pub returns : goal.returns
unfolding json_line
returns c =
    joined11 _ _ _ _ _ _ _ _ _ _ _ _ (codes "{\"at_us\":") (decimal c.args.at) (codes ",\"since_us\":") (decimal c.args.since)
    (codes ",\"port\":") (decimal c.args.port) (codes ",\"kind\":\"") c.args.kind.now (codes "\"") c.args.members.now (codes "}\n")
    c.in_ok-extend_from_slice.ensures.items c.in_ok-push_number.ensures c.in_ok-extend_from_slice-2.ensures.items
    c.in_ok-push_number-2.ensures c.in_ok-extend_from_slice-3.ensures.items c.in_ok-push_number-3.ensures
    c.in_ok-extend_from_slice-4.ensures.items c.in_ok-extend_from_slice-5.ensures.items c.in_ok-extend_from_slice-6.ensures.items
    c.in_ok-extend_from_slice-7.ensures.items c.in_ok-extend_from_slice-8.ensures.items
