use Rattle.std.proofs.Common.{◌≡◌, ◌<◌, List, length, ap, sym, ◌∙◌, subst, slice_index_or, arith}
use Rattle.std.proofs.lemmas.Option.{slice_get_within}
use Rattle.pd_ledger.specs.Account.{Account}
use Rattle.pd_keep.specs.Asked.{IsAsked}
use Rattle.pd_keep.specs.declared.kept_move.Brief.{Brief}
use Rattle.pd_keep.specs.Kept.{KeptData, RunData, move_of}
use Rattle.pd_keep.proofs.Asked.{brief_at, quiet_at, quiet_answered, quiet_held, told_of}
use Rattle.pd_keep.proofs.kept_move.KeptMoves.is_answered.Goals as goal

pub returns-then-not-index-clause-answered : goal.returns-then-not-index-clause-answered
returns-then-not-index-clause-answered g c = λ _ past k a.
    let plan = c.args.plan.now in
    let shared : Account = c.args.shared.now in
    let i = c.args.i in
    let moves : List KeptData = c.self.inside.moves.items in
    let is : moves ≡ c.args.self.now.moves = ap (λ (r : RunData). r.moves) c.self.view_is in
    let asked : IsAsked plan past shared moves i k = subst (λ (l : List KeptData). IsAsked plan past shared l i k) (sym is) a in
    let inside : i < length moves = slice_get_within moves i k asked.there in
    let briefs : List Brief = c.self.inside.briefs.items in
    let read = brief_at moves briefs i c.index.result.now c.self.invariant.2 inside c.index.ensures in
    let none = sym (ap (λ (b : Brief). b.stirs) read) ∙ c.if-not-index.true in
    let quiet = quiet_at moves briefs i k c.self.invariant.2 asked.there none in
    quiet_answered plan past shared moves i k asked quiet

pub returns-then-not-index-clause-held : goal.returns-then-not-index-clause-held
returns-then-not-index-clause-held g c = λ _ past k a.
    let plan = c.args.plan.now in
    let shared : Account = c.args.shared.now in
    let i = c.args.i in
    let moves : List KeptData = c.self.inside.moves.items in
    let is : moves ≡ c.args.self.now.moves = ap (λ (r : RunData). r.moves) c.self.view_is in
    let asked : IsAsked plan past shared moves i k = subst (λ (l : List KeptData). IsAsked plan past shared l i k) (sym is) a in
    let inside : i < length moves = slice_get_within moves i k asked.there in
    let briefs : List Brief = c.self.inside.briefs.items in
    let read = brief_at moves briefs i c.index.result.now c.self.invariant.2 inside c.index.ensures in
    let none = sym (ap (λ (b : Brief). b.stirs) read) ∙ c.if-not-index.true in
    let quiet = quiet_at moves briefs i k c.self.invariant.2 asked.there none in
    quiet_held plan past shared moves i k asked quiet

pub index-kept-requires : goal.index-kept-requires
index-kept-requires g c =
    let plan = c.args.plan.now in
    let shared : Account = c.args.shared.now in
    let i = c.args.i in
    let moves : List KeptData = c.self.inside.moves.items in
    let is : moves ≡ c.args.self.now.moves = ap (λ (r : RunData). r.moves) c.self.view_is in
    let past = c.requires.0 in
    let k = c.requires.1 in
    let a = c.requires.2 in
    let asked : IsAsked plan past shared moves i k = subst (λ (l : List KeptData). IsAsked plan past shared l i k) (sym is) a in
    let inside : i < length moves = slice_get_within moves i k asked.there in omega (arith, inside)

pub answers-requires : goal.answers-requires
answers-requires g c =
    let plan = c.args.plan.now in
    let shared : Account = c.args.shared.now in
    let i = c.args.i in
    let moves : List KeptData = c.self.inside.moves.items in
    let is : moves ≡ c.args.self.now.moves = ap (λ (r : RunData). r.moves) c.self.view_is in
    let past = c.requires.0 in
    let k = c.requires.1 in
    let a = c.requires.2 in
    let asked : IsAsked plan past shared moves i k = subst (λ (l : List KeptData). IsAsked plan past shared l i k) (sym is) a in
    let m : KeptData = c.index-kept.result.now in
    let v : KeptData = record {
      port = c.port.result;
      before = m.before;
      due = c.entry.result.now.due;
      answer = c.answer.result.now;
      after = m.after;
      entry = c.entry.result.now;
    } in
    let is_kept : v ≡ m = λ j. record {
      port = c.port.ensures j;
      before = m.before;
      due = c.entry.ensures.due j;
      answer = c.answer.ensures j;
      after = m.after;
      entry = c.entry.ensures.entry j;
    } in
    let read : v ≡ slice_index_or moves i v =
    is_kept ∙ c.index-kept.ensures ∙ ap (λ (x : KeptData). slice_index_or moves i x) (sym is_kept) in
    let told = told_of plan past shared moves i k v c.left.result asked read c.left.ensures in
    (omega arith, (omega arith, (past, move_of k, told)))

pub returns-clause-answered : goal.returns-clause-answered
returns-clause-answered g c = λ yes past k a.
    let plan = c.args.plan.now in
    let shared : Account = c.args.shared.now in
    let i = c.args.i in
    let moves : List KeptData = c.self.inside.moves.items in
    let is : moves ≡ c.args.self.now.moves = ap (λ (r : RunData). r.moves) c.self.view_is in
    let asked : IsAsked plan past shared moves i k = subst (λ (l : List KeptData). IsAsked plan past shared l i k) (sym is) a in
    let m : KeptData = c.index-kept.result.now in
    let v : KeptData = record {
      port = c.port.result;
      before = m.before;
      due = c.entry.result.now.due;
      answer = c.answer.result.now;
      after = m.after;
      entry = c.entry.result.now;
    } in
    let is_kept : v ≡ m = λ j. record {
      port = c.port.ensures j;
      before = m.before;
      due = c.entry.ensures.due j;
      answer = c.answer.ensures j;
      after = m.after;
      entry = c.entry.ensures.entry j;
    } in
    let read : v ≡ slice_index_or moves i v =
    is_kept ∙ c.index-kept.ensures ∙ ap (λ (x : KeptData). slice_index_or moves i x) (sym is_kept) in
    let told = told_of plan past shared moves i k v c.left.result asked read c.left.ensures in
    (c.answers.ensures.answered past (move_of k) told).0 yes

pub returns-clause-held : goal.returns-clause-held
returns-clause-held g c = λ yes past k a.
    let plan = c.args.plan.now in
    let shared : Account = c.args.shared.now in
    let i = c.args.i in
    let moves : List KeptData = c.self.inside.moves.items in
    let is : moves ≡ c.args.self.now.moves = ap (λ (r : RunData). r.moves) c.self.view_is in
    let asked : IsAsked plan past shared moves i k = subst (λ (l : List KeptData). IsAsked plan past shared l i k) (sym is) a in
    let m : KeptData = c.index-kept.result.now in
    let v : KeptData = record {
      port = c.port.result;
      before = m.before;
      due = c.entry.result.now.due;
      answer = c.answer.result.now;
      after = m.after;
      entry = c.entry.result.now;
    } in
    let is_kept : v ≡ m = λ j. record {
      port = c.port.ensures j;
      before = m.before;
      due = c.entry.ensures.due j;
      answer = c.answer.ensures j;
      after = m.after;
      entry = c.entry.ensures.entry j;
    } in
    let read : v ≡ slice_index_or moves i v =
    is_kept ∙ c.index-kept.ensures ∙ ap (λ (x : KeptData). slice_index_or moves i x) (sym is_kept) in
    let told = told_of plan past shared moves i k v c.left.result asked read c.left.ensures in
    c.answers.ensures.held yes past (move_of k) told
