-- How far the rows have come.
use Rattle.std.proofs.Common.{◌≡◌, ℕ, ◌+◌, ◌==◌, ◌<◌, ◌≤◌, List, [], ◌∷◌, ◌++◌, length, Option, refl, sym, ap, append_assoc, ◌∙◌, arith}
use Rattle.std.proofs.Common.{cond, length-append, subst, true}
use Rattle.std.specs.List.{flat_map}
use Rattle.std.specs.Io.KnownBytes.{Appends}
use Rattle.std.proofs.KnownBytes.{Appends-trans}
use Rattle.std.proofs.lemmas.Bool.{cond-true}
use Rattle.std.proofs.lemmas.Bool.Decides.{nat_tests}
use Rattle.std.proofs.lemmas.List.{append-nil}
use Rattle.std.proofs.lemmas.List.Concat.{flat_map-append}
use Rattle.std.proofs.lemmas.List.Sums.{fold-append}
use Rattle.pd_device.specs.Device.{WrotePart}
use Rattle.pd_device.proofs.DeviceLemmas.{WrotePart-after, WrotePart-longer}
use Rattle.pd_scenario.specs.Scenarios.{ScenarioData}
use Rattle.pd_vary.specs.Rows.{all_hold}
use Rattle.pd_vary.specs.Sets.{rows_of}
use Rattle.pd_vary.specs.Tellings.{head, summary}
use Rattle.pd_vary.specs.Varies.{AreInTurn, BeganRows, IsRow, WroteRows, holding, kept_of, kept_of_row, last_of, sets_of, texts_of, told_of}
use Rattle.pd_vary.specs.declared.outcome.Outcome.{Outcome}
use Rattle.pd_vary.specs.declared.walk.Question.{Question}
use Rattle.pd_vary.specs.declared.walk.Row.{Row}

-- so many rows were told, in so many of them all that is expected holds, and these are kept
pub record Progress (n : ℕ) (c : ScenarioData) (q : Question) (place all : ℕ) (kept : List Outcome) (a b : Option (List ℕ)) : Type 0 where
  pub rows : List Row
  pub count : length rows ≡ place
  pub holding_is : all ≡ holding rows
  pub each : AreInTurn (IsRow n c q) 0 rows
  pub kept_are : kept ≡ kept_of q rows
  pub appends : Appends a b (texts_of q rows)

turn_more : (P : ℕ → Row → Type 0) (place : ℕ) (rows : List Row) (row : Row) → AreInTurn P place rows
    → P (place + length rows) row → AreInTurn P place (rows ++ row ∷ [])
unfolding AreInTurn
turn_more P place [] row h p = (subst (λ k. P k row) (let e : place + 0 ≡ place = omega arith in e) p, tt)
turn_more P place (one ∷ rows) row h p =
    let next : place + length (one ∷ rows) ≡ place + 1 + length rows = omega arith in
    (h.0, turn_more P (place + 1) rows row h.1 (subst (λ k. P k row) next p))

-- one more row in which all holds, or not
holding_more : (rows : List Row) (row : Row) → holding (rows ++ row ∷ []) ≡ holding rows + cond (all_hold row.outcome) 1 0
holding_more rows row = fold-append (λ (n : ℕ) (r : Row). n + cond (all_hold r.outcome) 1 0) 0 rows (row ∷ [])

own : (n : ℕ) → (n == n) ≡ true
own n = grind (arith, nat_tests)

module _ (n : ℕ) (c : ScenarioData) (q : Question) where
  abbrev pub first : List ℕ
  first = head q.form (length q.sets.now) q.asks.now (length q.wheres.now)

  none_told : AreInTurn (IsRow n c q) 0 []
  unfolding AreInTurn
  none_told = tt

  -- what stands before the first row
  pub progress_none : (a b : Option (List ℕ)) (kept : List Outcome) → kept ≡ [] → Appends a b first → Progress n c q 0 0 kept a b
  progress_none a b kept none wrote = record {
    rows = [];
    count = refl;
    holding_is = refl;
    each = none_told;
    kept_are = none;
    appends = rw (append-nil first) wrote;
  }

  texts_push : (rows : List Row) (row : Row) → texts_of q (rows ++ row ∷ []) ≡ texts_of q rows ++ row.text.items
  texts_push rows row =
      let f : Row → List ℕ = λ r. r.text.items in
      ap (λ v. first ++ v) (flat_map-append f rows (row ∷ []) ∙ ap (λ v. flat_map f rows ++ v) (append-nil row.text.items))
      ∙ sym (append_assoc first (flat_map f rows) row.text.items)

  count_more : (place : ℕ) (rows : List Row) (row : Row) → length rows ≡ place → length (rows ++ row ∷ []) ≡ place + 1
  count_more place rows row count = length-append rows (row ∷ []) ∙ ap (λ k. k + 1) count

  each_more : (place : ℕ) (rows : List Row) (row : Row) → length rows ≡ place → AreInTurn (IsRow n c q) 0 rows
      → IsRow n c q place row → AreInTurn (IsRow n c q) 0 (rows ++ row ∷ [])
  each_more place rows row count each is =
      let here : place ≡ 0 + length rows = omega (arith, count) in
      turn_more (IsRow n c q) 0 rows row each (subst (λ k. IsRow n c q k row) here is)

  -- what is kept of one more row
  kept_more : (rows : List Row) (row : Row) → kept_of q (rows ++ row ∷ []) ≡ kept_of q rows ++ kept_of_row q.keeps row
  kept_more rows row =
      flat_map-append (kept_of_row q.keeps) rows (row ∷ [])
      ∙ ap (λ (v : List Outcome). kept_of q rows ++ v) (append-nil (kept_of_row q.keeps row))

  pub progress_more : (place all more : ℕ) (kept after : List Outcome) (a b d : Option (List ℕ)) (row : Row)
      → Progress n c q place all kept a b → IsRow n c q place row → more ≡ all + cond (all_hold row.outcome) 1 0
      → after ≡ kept ++ kept_of_row q.keeps row → Appends b d row.text.items → Progress n c q (place + 1) more after a d
  progress_more place all more kept after a b d row p is counted keeps wrote = record {
    rows = p.rows ++ row ∷ [];
    count = count_more place p.rows row p.count;
    holding_is = counted ∙ ap (λ k. k + cond (all_hold row.outcome) 1 0) p.holding_is ∙ sym (holding_more p.rows row);
    each = each_more place p.rows row p.count p.each is;
    kept_are = keeps ∙ ap (λ (v : List Outcome). v ++ kept_of_row q.keeps row) p.kept_are ∙ sym (kept_more p.rows row);
    appends = rw (texts_push p.rows row) (Appends-trans a b d (texts_of q p.rows) row.text.items p.appends wrote);
  }

  -- a part of what stands before the rows' summary
  began : (rows : List Row) (a b : Option (List ℕ)) → WrotePart a b (texts_of q rows) → WrotePart a b (told_of q rows)
  began rows a b part = WrotePart-longer a b (texts_of q rows) (last_of q rows) part

  -- what stands before the first row is written in part
  pub began_head : (a b : Option (List ℕ)) → WrotePart a b first → BeganRows n c q a b
  began_head a b part = record {
    rows = [];
    some = (let e : 0 ≤ rows_of (sets_of q) = omega arith in e);
    each = none_told;
    wrote = began [] a b (rw (append-nil first) part);
  }

  -- so many rows, and no more
  pub began_so_far : (place all : ℕ) (kept : List Outcome) (a b : Option (List ℕ)) → place ≤ rows_of (sets_of q)
      → Progress n c q place all kept a b → BeganRows n c q a b
  began_so_far place all kept a b there p = record {
    rows = p.rows;
    some = (let e : length p.rows ≤ rows_of (sets_of q) = omega (arith, p.count, there) in e);
    each = p.each;
    wrote =
        began p.rows a b
        (record { out = texts_of q p.rows; begins = ([], sym (append-nil (texts_of q p.rows))); appends = p.appends });
  }

  -- a row that is written in part
  pub began_torn : (place all : ℕ) (kept : List Outcome) (a b d : Option (List ℕ)) (row : Row) → place < rows_of (sets_of q)
      → Progress n c q place all kept a b → IsRow n c q place row → WrotePart b d row.text.items → BeganRows n c q a d
  began_torn place all kept a b d row there p is part = record {
    rows = p.rows ++ row ∷ [];
    some =
        (let e : length (p.rows ++ row ∷ []) ≤ rows_of (sets_of q) = omega (arith, count_more place p.rows row p.count, there) in e);
    each = each_more place p.rows row p.count p.each is;
    wrote =
        began (p.rows ++ row ∷ []) a d
        (rw (texts_push p.rows row) (WrotePart-after a b d (texts_of q p.rows) row.text.items p.appends part));
  }

  -- behind all rows stands their summary
  last_is : (place all : ℕ) (rows : List Row) → place ≡ rows_of (sets_of q) → length rows ≡ place → all ≡ holding rows
      → last_of q rows ≡ summary q.form q.wheres.now place all
  last_is place all rows whole count holding_is =
      cond-true (length rows == rows_of (sets_of q)) (summary q.form q.wheres.now (length rows) (holding rows)) []
      (ap (λ k. k == rows_of (sets_of q)) (count ∙ whole) ∙ own (rows_of (sets_of q)))
      ∙ ap (λ k. summary q.form q.wheres.now k (holding rows)) count
      ∙ ap (λ k. summary q.form q.wheres.now place k) (sym holding_is)

  -- the summary is written in part
  pub began_last : (place count all : ℕ) (kept : List Outcome) (a b d : Option (List ℕ)) → place ≡ count → count ≡ rows_of (sets_of q)
      → Progress n c q place all kept a b → WrotePart b d (summary q.form q.wheres.now count all) → BeganRows n c q a d
  began_last place count all kept a b d end whole p part = record {
    rows = p.rows;
    some = (let e : length p.rows ≤ rows_of (sets_of q) = omega (arith, p.count, end, whole) in e);
    each = p.each;
    wrote =
        WrotePart-after a b d (texts_of q p.rows) (last_of q p.rows) p.appends
        (subst (λ t. WrotePart b d t) (sym (last_is count all p.rows whole (p.count ∙ end) p.holding_is)) part);
  }

  -- all
  pub wrote_rows : (place all : ℕ) (kept : List Outcome) (a b d : Option (List ℕ)) → place ≡ rows_of (sets_of q)
      → Progress n c q place all kept a b → Appends b d (summary q.form q.wheres.now place all) → WroteRows n c q kept a d
  wrote_rows place all kept a b d whole p wrote = record {
    rows = p.rows;
    all = p.count ∙ whole;
    each = p.each;
    kept_are = p.kept_are;
    appends =
        Appends-trans a b d (texts_of q p.rows) (last_of q p.rows) p.appends
        (subst (λ t. Appends b d t) (sym (last_is place all p.rows whole p.count p.holding_is)) wrote);
  }
