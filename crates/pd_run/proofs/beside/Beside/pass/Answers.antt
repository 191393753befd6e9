use Rattle.std.proofs.Common.{refl, ◌≡◌, ◌+◌, ◌-◌, ◌≤◌, ◌<◌, ℕ, List, arith, ap, sym, ◌∙◌, subst, length, take, drop, slice_index, get_or}
use Rattle.std.proofs.lemmas.List.{get_or_read}
use Rattle.pd_setup.specs.Events.{EventData}
use Rattle.pd_scenario.specs.Plan.{script_of}
use Rattle.pd_run.specs.UpTo.{had_by, events_in}
use Rattle.pd_run.specs.Beside.{BesideData}
use Rattle.pd_run.proofs.Until.{had_rises, had_few, events_between}
use Rattle.pd_run.proofs.beside.Beside.pass.Goals as goal

-- what a counter reads is how many events are before the time
counted : (n p at : ℕ) (had : List ℕ) (x : ℕ) (script : List EventData) → length had ≡ n → p < n → x ≡ get_or had p x
    → slice_index had p ≡ had_by at script → x ≡ had_by at script
counted n p at had x script count lt read is = get_or_read had p x (omega arith) read 0 ∙ is

-- the events from one place to another, by what is before each time
between : (from to a b : ℕ) (script events : List EventData) → from ≤ to → a ≡ had_by from script → b ≡ had_by to script
    → events ≡ take (b - a) (drop a script) → events ≡ events_in from to script
between from to a b script events le is_from is_to are =
    are ∙ ap (λ n. take (b - n) (drop n script)) is_from ∙ ap (λ n. take (n - had_by from script) (drop (had_by from script) script)) is_to
    ∙ sym (events_between from to script le)

-- a count so far is no more than the next, and that no more than all
bounds : (at to p q x y : ℕ) (script : ℕ → List EventData) → x ≡ had_by at (script p) → at ≤ to → q ≡ p → y ≡ had_by to (script q)
    → (x ≤ y) × (y ≤ length (script q))
bounds at to p q x y script is le same next =
    let rises = had_rises at to (script p) le in
    let few = had_few to (script q) in
    let here : had_by to (script q) ≡ had_by to (script p) = ap (λ k. had_by to (script k)) same in
    (omega arith, omega arith)

-- what is between two counts
part : (at to p q x y : ℕ) (script : ℕ → List EventData) (events : List EventData) → x ≡ had_by at (script p) → at ≤ to → q ≡ p
    → y ≡ had_by to (script q) → events ≡ take (y - x) (drop x (script q)) → events ≡ events_in at to (script p)
part at to p q x y script events is le same next are =
    between at to x y (script p) events le is (next ∙ ap (λ k. had_by to (script k)) same)
    (are ∙ ap (λ k. take (y - x) (drop x (script k))) same)

pub had_by-old_to-requires : goal.had_by-old_to-requires
had_by-old_to-requires g c =
    let read = subst (λ (b : BesideData). c.index-old_from.result.now ≡ get_or b.old_had c.args.port c.index-old_from.result.now)
    c.self.view_is c.index-old_from.ensures in
    let count = subst (λ (b : BesideData). length b.old_had ≡ g.row.N) c.self.view_is c.self.invariant.old_count in
    let old_is = counted g.row.N c.args.port c.args.self.now.at c.args.self.now.old_had c.index-old_from.result.now
    (script_of c.args.old.now c.args.port) count c.requires.known read c.requires.old_had in
    let known = bounds c.args.self.now.at c.args.to c.args.port (c.args.port + 1 - 1) c.index-old_from.result.now _
    (script_of c.args.old.now) old_is c.requires.later (omega arith) refl in
    (omega arith, (omega arith, (omega arith, known.0)))

pub events_from-old_events-requires : goal.events_from-old_events-requires
events_from-old_events-requires g c =
    let read = subst (λ (b : BesideData). c.index-old_from.result.now ≡ get_or b.old_had c.args.port c.index-old_from.result.now)
    c.self.view_is c.index-old_from.ensures in
    let count = subst (λ (b : BesideData). length b.old_had ≡ g.row.N) c.self.view_is c.self.invariant.old_count in
    let old_is = counted g.row.N c.args.port c.args.self.now.at c.args.self.now.old_had c.index-old_from.result.now
    (script_of c.args.old.now c.args.port) count c.requires.known read c.requires.old_had in
    let known = bounds c.args.self.now.at c.args.to c.args.port (c.args.port + 1 - 1) c.index-old_from.result.now
    c.had_by-old_to.result (script_of c.args.old.now) old_is c.requires.later (omega arith) c.had_by-old_to.ensures in
    (omega arith, (omega arith, (omega arith, (known.0, known.1))))

pub had_by-new_to-requires : goal.had_by-new_to-requires
had_by-new_to-requires g c =
    let read = subst (λ (b : BesideData). c.index-new_from.result.now ≡ get_or b.new_had c.args.port c.index-new_from.result.now)
    c.self.view_is c.index-new_from.ensures in
    let count = subst (λ (b : BesideData). length b.new_had ≡ g.row.N) c.self.view_is c.self.invariant.new_count in
    let new_is = counted g.row.N c.args.port c.args.self.now.at c.args.self.now.new_had c.index-new_from.result.now
    (script_of c.args.plan.now c.args.port) count c.requires.known read c.requires.new_had in
    let known = bounds c.args.self.now.at c.args.to c.args.port (c.args.port + 1 - 1) c.index-new_from.result.now _
    (script_of c.args.plan.now) new_is c.requires.later (omega arith) refl in
    (omega arith, (omega arith, (omega arith, known.0)))

pub events_from-new_events-requires : goal.events_from-new_events-requires
events_from-new_events-requires g c =
    let read = subst (λ (b : BesideData). c.index-new_from.result.now ≡ get_or b.new_had c.args.port c.index-new_from.result.now)
    c.self.view_is c.index-new_from.ensures in
    let count = subst (λ (b : BesideData). length b.new_had ≡ g.row.N) c.self.view_is c.self.invariant.new_count in
    let new_is = counted g.row.N c.args.port c.args.self.now.at c.args.self.now.new_had c.index-new_from.result.now
    (script_of c.args.plan.now c.args.port) count c.requires.known read c.requires.new_had in
    let known = bounds c.args.self.now.at c.args.to c.args.port (c.args.port + 1 - 1) c.index-new_from.result.now
    c.had_by-new_to.result (script_of c.args.plan.now) new_is c.requires.later (omega arith) c.had_by-new_to.ensures in
    (omega arith, (omega arith, (omega arith, (known.0, known.1))))

pub returns-clause-same : goal.returns-clause-same
returns-clause-same g c =
    let read = subst (λ (b : BesideData). c.index-old_from.result.now ≡ get_or b.old_had c.args.port c.index-old_from.result.now)
    c.self.view_is c.index-old_from.ensures in
    let count = subst (λ (b : BesideData). length b.old_had ≡ g.row.N) c.self.view_is c.self.invariant.old_count in
    let old_is = counted g.row.N c.args.port c.args.self.now.at c.args.self.now.old_had c.index-old_from.result.now
    (script_of c.args.old.now c.args.port) count c.requires.known read c.requires.old_had in
    let read_new = subst (λ (b : BesideData). c.index-new_from.result.now ≡ get_or b.new_had c.args.port c.index-new_from.result.now)
    c.self.view_is c.index-new_from.ensures in
    let count_new = subst (λ (b : BesideData). length b.new_had ≡ g.row.N) c.self.view_is c.self.invariant.new_count in
    let new_is = counted g.row.N c.args.port c.args.self.now.at c.args.self.now.new_had c.index-new_from.result.now
    (script_of c.args.plan.now c.args.port) count_new c.requires.known read_new c.requires.new_had in
    let olds = part c.args.self.now.at c.args.to c.args.port (c.args.port + 1 - 1) c.index-old_from.result.now c.had_by-old_to.result
    (script_of c.args.old.now) c.events_from-old_events.result.now old_is c.requires.later (omega arith) c.had_by-old_to.ensures
    c.events_from-old_events.ensures in
    let news = part c.args.self.now.at c.args.to c.args.port (c.args.port + 1 - 1) c.index-new_from.result.now c.had_by-new_to.result
    (script_of c.args.plan.now) c.events_from-new_events.result.now new_is c.requires.later (omega arith) c.had_by-new_to.ensures
    c.events_from-new_events.ensures in
    (λ is. sym olds ∙ c.same_events.ensures.0 is ∙ news, λ same. c.same_events.ensures.1 (olds ∙ same ∙ sym news))
