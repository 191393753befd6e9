use Rattle.std.proofs.Common.{◌≡◌, ◌∙◌, ◌-◌, ℕ, Some, sym, ap, arith, take, get_or}
use Rattle.std.specs.List.{list_any}
use Rattle.std.specs.Prelude.{bytes_eq}
use Rattle.std.proofs.lemmas.Bool.{OnTrue_from}
use Rattle.std.proofs.lemmas.List.{at_drop_all, at_drop_more}
use Rattle.pd_scenario_text.specs.Names.{texts}
use Rattle.pd_scenario_text.proofs.Found.{name_found, no_text, texts_next}
use Rattle.pd_places.specs.FirstLines.{added}
use Rattle.pd_places.specs.Same.{same_name_part}
use Rattle.pd_places.specs.Numbered.{numbered}
use Rattle.pd_places.proofs.FirstLines.{full_bytes}
use Rattle.pd_places.proofs.NumberedTexts.{more_added, all_added}
use Rattle.pd_places.proofs.Seen.{is_first_name}
use Rattle.pd_places.proofs.same.push_same_names.Goals as goal

pub push_same_name-requires-clause-first : goal.push_same_name-requires-clause-first
push_same_name-requires-clause-first c =
    let i = c.loop-name.name-index in
    let at : i ≡ c.loop-name.number - 1 = omega (arith, c.loop-name.invariant.count) in
    OnTrue_from c.in_ok-is_new.is_new _
    (λ new. is_first_name c.args.names.now c.loop-name.seen.keys i no_text c.in_ok-is_new.is_new c.loop-name.invariant.before
    c.in_ok-is_new.ensures.added c.loop-name-test.true new ∙ ap (λ (n : ℕ). Some n) at)

pub loop-name-preserved : goal.loop-name-preserved
loop-name-preserved c =
    let part = same_name_part c.args.spot.now c.args.word.now (texts c.args.names.now) in
    let i = c.loop-name.name-index in
    let more = texts_next c.args.names.now i no_text c.loop-name-test.true in
    let found = name_found (texts (take i c.args.names.now)) c.loop-name.seen.keys c.insert.new.self.keys
    (get_or c.args.names.now i no_text) c.loop-name.invariant.before c.in_ok-is_new.ensures.keys in
    record {
      text =
          more_added _ c.loop-name.told _ part c.loop-name.number _ _
          (c.loop-name.invariant.text
          ∙ at_drop_more (λ xs. added c.loop-name.told (numbered part c.loop-name.number (texts xs)))
          c.args.names.now i _ c.loop-name-test.true)
          c.in_ok-push_same_name.ensures;
      count = omega (arith, c.loop-name.invariant.count);
      before = λ name. found name ∙ sym (ap (list_any (λ other. bytes_eq other name)) more);
    }

pub returns : goal.returns
returns c =
    let part = same_name_part c.args.spot.now c.args.word.now (texts c.args.names.now) in
    all_added _ c.loop-name.told part c.loop-name.number
    (c.loop-name.invariant.text
    ∙ at_drop_all (λ xs. added c.loop-name.told (numbered part c.loop-name.number (texts xs)))
    c.args.names.now c.loop-name.name-index c.loop-name-test.false)

pub returns-then-is_full : goal.returns-then-is_full
returns-then-is_full c = full_bytes _ c.loop-name.told _ c.loop-name.invariant.text (sym c.is_full.ensures ∙ c.if-is_full.true)
