use Rattle.std.proofs.Common.{◌∙◌, ◌++◌, ◌∷◌, ◌/◌, [], List, ℕ, ap, map, arith}
use Rattle.std.proofs.lemmas.List.{map-append}
use Rattle.pd_vary.specs.Sets.{set_data, value_at}
use Rattle.pd_vary.proofs.SetLemmas.{later_rows, rows_some}
use Rattle.pd_vary.proofs.set.push_first_value.Goals as goal

pub nonzero_div-row : goal.nonzero_div-row
nonzero_div-row c =
    let later = later_rows (set_data c.args.set.now) (map set_data c.args.more.now) c.args.rows c.count-count.result c.requires
    c.count-count.ensures.value in
    omega (arith, later, rows_some (map set_data c.args.more.now))

pub returns-clause-later : goal.returns-clause-later
returns-clause-later c =
    later_rows (set_data c.args.set.now) (map set_data c.args.more.now) c.args.rows c.count-count.result c.requires
    c.count-count.ensures.value

pub returns-clause-some : goal.returns-clause-some
returns-clause-some c =
    let later = later_rows (set_data c.args.set.now) (map set_data c.args.more.now) c.args.rows c.count-count.result c.requires
    c.count-count.ensures.value in
    omega (arith, later, rows_some (map set_data c.args.more.now))

pub returns-clause-values : goal.returns-clause-values
returns-clause-values c =
    let olds = map (λ v. v.items) c.args.values.now.items in
    let values = (set_data c.args.set.now).values in
    let later = later_rows (set_data c.args.set.now) (map set_data c.args.more.now) c.args.rows c.count-count.result c.requires
    c.count-count.ensures.value in
    ap (map (λ v. v.items)) c.in_ok-push.ensures.items ∙ map-append (λ v. v.items) c.args.values.now.items (c.in_ok-value.value ∷ [])
    ∙ ap (λ (v : List ℕ). olds ++ v ∷ []) c.in_ok-value.ensures
    ∙ ap (λ k. olds ++ value_at values (c.args.row / k) ∷ []) later
