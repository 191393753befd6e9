-- The parts of a sweep together are the sweep.
use Rattle.std.proofs.Common.{◌≡◌, ℕ, ◌+◌, ◌<◌, inl, inr, List, [], ◌++◌, length, map, take, drop, arith, sym, ap, subst, ◌∙◌}
use Rattle.std.proofs.lemmas.Bool.{cases_order}
use Rattle.std.proofs.lemmas.List.{append-nil, drop-drop, length-map, length-take, map-append, take_all}
use Rattle.std.proofs.Math.Seq.{take-add}
use Rattle.pd_packet.proofs.Places.{all_append}
use Rattle.pd_port.specs.declared.entry.Entry.{Entry}
use Rattle.pd_report.specs.LeastMargin.{IsLeastMargin, margin_at}
use Rattle.pd_report.specs.declared.least.Margin.{Margin}
use Rattle.pd_run.specs.Run.{shown}
use Rattle.pd_run.specs.Shown.{Shows}
use Rattle.pd_run.proofs.OneRun.{run_unique}
use Rattle.pd_scenario.specs.Plan.{Plan}
use Rattle.pd_scenario.specs.Plans.{plan_of}
use Rattle.pd_sweep.specs.Choices.{chosen}
use Rattle.pd_sweep.specs.Summaries.{AreFindings, makers_at}
use Rattle.pd_sweep.specs.Parts.{part_of}
use Rattle.pd_sweep.specs.Trials.{IsTrial, Tries}
use Rattle.pd_sweep.specs.Whole.{PartsJoin, ShortPartIsWhole, SinglesAreThePackets}
use Rattle.pd_sweep.specs.declared.findings.Findings.{Findings}
use Rattle.pd_sweep.specs.declared.makers.Makers.{Makers}
use Rattle.pd_sweep.specs.declared.packets.Target.{Target}
use Rattle.pd_sweep.specs.declared.sets.Packets.TheVariants.{One}
use Rattle.pd_sweep.specs.declared.summary.Summary.{Summary}
use Rattle.pd_sweep.specs.declared.trial.Trial.{Trial}
use Rattle.pd_sweep.proofs.TriesLemmas.{alone_in_turn, as_many, tries_both}

-- ---- one run has one list of findings

pub same_entries : (plan : Plan) (a b : List (ℕ × Entry)) → Shows plan a → Shows plan b → b ≡ a
same_entries plan a b p q = q.entries_are ∙ ap (map shown) (run_unique plan q.moves p.moves q.safe.run p.safe.run) ∙ sym p.entries_are

no_later : (plan : Plan) (moves : List (ℕ × Entry)) (a b : Margin) → IsLeastMargin plan moves a → IsLeastMargin plan moves b →
    a.at < b.at → ⊥
no_later plan moves a b p q h = omega (arith, q.is_first a.at h, p.is_least b.at q.soon, p.left_is, q.left_is)

-- the first instant at which the least is left
same_instant : (plan : Plan) (moves : List (ℕ × Entry)) (a b : Margin) → IsLeastMargin plan moves a → IsLeastMargin plan moves b →
    a.at ≡ b.at
same_instant plan moves a b p q =
    elim (cases_order a.at b.at)
    [ inl e ↦ e | inr o ↦ elim o [ inl h ↦ absurd (no_later plan moves a b p q h) | inr h ↦ absurd (no_later plan moves b a q p h) ] ]

same_margin : (plan : Plan) (moves : List (ℕ × Entry)) (a b : Margin) → IsLeastMargin plan moves a → IsLeastMargin plan moves b → b ≡ a
same_margin plan moves a b p q =
    let at : a.at ≡ b.at = same_instant plan moves a b p q in
    let left : a.left ≡ b.left = p.left_is ∙ ap (margin_at plan moves) at ∙ sym q.left_is in
    let margin : ℕ → ℕ → Margin = λ t l. record { at = t; left = l } in
    ap (λ t. margin t b.left) (sym at) ∙ ap (λ l. margin a.at l) (sym left)

pub same_findings : (plan : Plan) (moves : List (ℕ × Entry)) (a b : Findings) → AreFindings plan moves a → AreFindings plan moves b → b ≡ a
same_findings plan moves a b p q =
    let margins : b.margin ≡ a.margin = same_margin plan moves a.margin b.margin p.margin_is q.margin_is in
    let summaries : b.summary ≡ a.summary = q.summary_is ∙ sym p.summary_is in
    let makers : b.makers ≡ a.makers =
    q.makers_are ∙ ap (λ (m : Margin). makers_at m.at moves) margins ∙ sym p.makers_are in
    let found : Summary → Margin → Makers → Findings = λ s m k. record { summary = s; margin = m; makers = k } in
    ap (λ s. found s b.margin b.makers) summaries ∙ ap (λ m. found a.summary m b.makers) margins
    ∙ ap (λ k. found a.summary a.margin k) makers

-- ---- parts

pub parts_join : PartsJoin
parts_join n c campaign first count more without without' trials trials' one two =
    let same : two.base ≡ one.base = same_entries (plan_of c) one.base two.base one.shows two.shows in
    let found : AreFindings (plan_of c) one.base without' = subst (λ b. AreFindings (plan_of c) b without') same two.without_is in
    let all : List Target = chosen campaign.choice one.base in
    let behind : Tries c campaign (map One (take more (drop (first + count) all))) trials' [] =
    subst (λ b. Tries c campaign (map One (take more (drop (first + count) (chosen campaign.choice b)))) trials' []) same two.tried in
    let both : map One (take count (drop first all)) ++ map One (take more (drop (first + count) all))
    ≡ map One (take (count + more) (drop first all)) =
    ap (λ l. map One (take count (drop first all)) ++ map One (take more l)) (sym (drop-drop count first all))
    ∙ sym (map-append One (take count (drop first all)) (take more (drop count (drop first all))))
    ∙ ap (map One) (sym (take-add count more (drop first all))) in (
      same_findings (plan_of c) one.base without without' one.without_is found,
      record {
        base = one.base;
        shows = one.shows;
        without_is = one.without_is;
        tried =
            subst (λ l. Tries c campaign l (trials ++ trials') []) both
            (tries_both c campaign trials trials' (map One (take count (drop first all))) (map One (take more (drop (first + count) all)))
            one.tried behind);
        each = all_append (IsTrial n c campaign) trials trials' one.each two.each;
      },
    )

pub short_part_is_whole : ShortPartIsWhole
short_part_is_whole n c campaign count without trials all short =
    let targets : List Target = chosen campaign.choice all.base in
    let many = as_many c campaign trials (map One (take count targets)) [] all.tried in
    let few : length targets < count =
    omega (arith, short, many, length-map (take count targets) One, length-take count targets) in
    record {
      base = all.base;
      shows = all.shows;
      without_is = all.without_is;
      tried = subst (λ l. Tries c campaign (map One l) trials []) (take_all count targets (omega arith)) all.tried;
      each = all.each;
    }

pub singles_are_the_packets : SinglesAreThePackets
singles_are_the_packets n c campaign part without trials few all = record {
  base = all.base;
  shows = all.shows;
  packets_are =
      sym (append-nil (map (λ (trial : Trial). trial.packets) trials))
      ∙ alone_in_turn c campaign few trials (map One (part_of part (chosen campaign.choice all.base))) [] all.tried;
}
