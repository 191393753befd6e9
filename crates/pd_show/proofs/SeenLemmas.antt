-- Facts on what is seen of a move.
use Rattle.std.proofs.Common.{◌≡◌, ℕ, ◌+◌, ◌-◌, ◌<◌, ◌≤◌, List, [], ◌∷◌, ◌++◌, Option, refl, ap, ◌∙◌, arith}
use Rattle.pd_objects.specs.declared.query.Answer.{Answer}
use Rattle.pd_port.specs.declared.due.Due.{Due}
use Rattle.pd_port.specs.declared.entry.Entry.{Entry}
use Rattle.pd_port.specs.Port.{PortData}
use Rattle.pd_scenario.specs.Plan.{Plan, count, force, settings_of}
use Rattle.pd_run.specs.Run.{Move, Standing, after, shown}
use Rattle.pd_run.specs.Live.{LiveData, StandsAfter, next_move, port_at}
use Rattle.pd_run.proofs.Moves.{standing-same}
use Rattle.pd_watch.specs.Watch.{WatchData, after_step, disturber_of, id_of, watch_at}
use Rattle.pd_show.specs.declared.seen.Glance.{Glance}
use Rattle.pd_show.specs.declared.seen.Seen.{Seen}
use Rattle.pd_show.specs.Seen.{glance, seen_of}

abbrev glance_at : LiveData → ℕ → Glance
glance_at live p = glance (port_at live p).settings (port_at live p).port_record

-- the port before its move
stood : (plan : Plan) (past : List Move) (live : LiveData) (p : ℕ) (d : Due) → p < count plan → StandsAfter plan past live
    → glance_at live p ≡ glance (settings_of plan p) (next_move plan past p d).before
stood plan past live p d known stands = ap (λ (q : PortData). glance q.settings q.port_record) (stands.ports_are p known)

-- and after it
stands_now : (plan : Plan) (past : List Move) (live : LiveData) (p : ℕ) (d : Due) → p < count plan →
    StandsAfter plan (past ++ next_move plan past p d ∷ []) live
    → glance_at live p ≡ glance (settings_of plan p) (after plan (next_move plan past p d))
stands_now plan past live p d known stands =
    ap (λ (q : PortData). glance q.settings q.port_record) (stands.ports_are p known)
    ∙ ap (λ (s : Standing). glance (settings_of plan p) s.state) (standing-same plan past (next_move plan past p d) p refl)

-- what a step has shown is what is seen of the move
pub seen_is : (plan : Plan) (ws : List WatchData) (past : List Move) (live live' : LiveData) (port budget : ℕ) (d : Due)
    (before now : Glance) (entry : Entry) (answer : Option Answer) (by : Option ℕ) → 1 ≤ port → port - 1 < count plan →
    StandsAfter plan past live →
    StandsAfter plan (past ++ next_move plan past (port - 1) d ∷ []) live' → budget ≡ force plan d.time →
    before ≡ glance_at live (port - 1) → now ≡ glance_at live' (port - 1) → entry ≡ (next_move plan past (port - 1) d).entry →
    answer ≡ (next_move plan past (port - 1) d).answer → by ≡ id_of (disturber_of (watch_at ws port) entry) →
    record { port = port; budget = budget; before = before; after = now; entry = entry; answer = answer; by = by }
    ≡ seen_of plan ws (next_move plan past (port - 1) d)
unfolding seen_of
seen_is plan ws past live live' port budget d before now entry answer by first known was is b g h e a taken =
    let m : Move = next_move plan past (port - 1) d in
    let number : port ≡ (port - 1) + 1 = omega arith in
    let named : by ≡ id_of (disturber_of (watch_at ws ((port - 1) + 1)) m.entry) =
    taken ∙ ap (λ (x : Entry). id_of (disturber_of (watch_at ws port) x)) e
    ∙ ap (λ n. id_of (disturber_of (watch_at ws n) m.entry)) number in
    let make : ℕ → ℕ → Glance → Glance → Entry → Option Answer → Seen =
    λ p u x y z w. record { port = p; budget = u; before = x; after = y; entry = z; answer = w; by = by } in
    let whole : Option ℕ → Seen =
    λ v. record (seen_of plan ws m) { by = v } in
    let so_far : record { port = port; budget = budget; before = before; after = now; entry = entry; answer = answer; by = by }
    ≡ whole by =
    ap (λ v. make v budget before now entry answer) number
    ∙ ap (λ v. make ((port - 1) + 1) v before now entry answer) b
    ∙ ap (λ v. make ((port - 1) + 1) (force plan d.time) v now entry answer) (g ∙ stood plan past live (port - 1) d known was)
    ∙ ap (λ v. make ((port - 1) + 1) (force plan d.time) (glance (settings_of plan (port - 1)) m.before) v entry answer)
    (h ∙ stands_now plan past live' (port - 1) d known is)
    ∙ ap (λ v. make ((port - 1) + 1) (force plan d.time) (glance (settings_of plan (port - 1)) m.before)
    (glance (settings_of plan (port - 1)) (after plan m)) v answer) e
    ∙ ap (λ v. make ((port - 1) + 1) (force plan d.time) (glance (settings_of plan (port - 1)) m.before)
    (glance (settings_of plan (port - 1)) (after plan m)) m.entry v) a in
    so_far ∙ ap whole named

-- what is watched after the move
pub watched_is : (ws : List WatchData) (port : ℕ) (entry : Entry) (m : Move) → 1 ≤ port → m.port ≡ port - 1 → entry ≡ m.entry
    → after_step ws (port, entry) ≡ after_step ws (shown m)
watched_is ws port entry m first at e =
    let number : port ≡ m.port + 1 = omega arith in
    ap (λ (x : Entry). after_step ws (port, x)) e ∙ ap (λ n. after_step ws (n, m.entry)) number
