-- Facts on what is looked at of a move.
use Rattle.std.proofs.Common.{◌≡◌, ℕ, ◌+◌, ◌-◌, ◌<◌, ◌≤◌, List, [], ◌∷◌, ◌++◌, Bool, Option, option_map, refl, ap, ◌∙◌, arith}
use Rattle.pd_header.specs.declared.side.Side.TheVariants.{Sink}
use Rattle.pd_objects.specs.declared.query.Answer.{Answer}
use Rattle.pd_setup.specs.Settings.{SettingsData, floor_of}
use Rattle.pd_port.specs.declared.due.Due.{Due}
use Rattle.pd_port.specs.declared.entry.Entry.{Entry}
use Rattle.pd_port.specs.Port.{PortData, PortRecord}
use Rattle.pd_scenario.specs.Plan.{Plan, count, settings_of}
use Rattle.pd_run.specs.Run.{Move, Standing, after}
use Rattle.pd_run.specs.Live.{LiveData, StandsAfter, next_move, port_at}
use Rattle.pd_run.proofs.Moves.{standing-same}
use Rattle.pd_why.specs.declared.look.Look.{Look}
use Rattle.pd_why.specs.declared.look.Share.{Share}
use Rattle.pd_why.specs.declared.look.Stood.{Stood}
use Rattle.pd_why.specs.declared.cable.CableLimit.{CableLimit}
use Rattle.pd_why.specs.declared.wish.Wish.{Wish}
use Rattle.pd_source.specs.declared.kinds.State.{State}
use Rattle.pd_sink.specs.declared.kinds.State.{State as SinkState}
use Rattle.pd_why.specs.Cables.{learnt, learnt_by}
use Rattle.pd_why.specs.Looks.{look_of, share_at, stood_at}
use Rattle.pd_why.specs.Wishes.{asks_in, is_again, wish_of}

abbrev pub record_at : LiveData → ℕ → PortRecord
record_at live p = (port_at live p).port_record

stood_before : (plan : Plan) (past : List Move) (live : LiveData) (p : ℕ) (d : Due) → p < count plan → StandsAfter plan past live
    → record_at live p ≡ (next_move plan past p d).before
stood_before plan past live p d known stands = ap (λ (q : PortData). q.port_record) (stands.ports_are p known)

stands_now : (plan : Plan) (past : List Move) (live : LiveData) (p : ℕ) (d : Due) → p < count plan →
    StandsAfter plan (past ++ next_move plan past p d ∷ []) live → record_at live p ≡ after plan (next_move plan past p d)
stands_now plan past live p d known stands =
    ap (λ (q : PortData). q.port_record) (stands.ports_are p known)
    ∙ ap (λ (s : Standing). s.state) (standing-same plan past (next_move plan past p d) p refl)

-- what is looked at of a move, from where its port stood and stands
abbrev pub seen : ℕ → ℕ → ℕ → Due → PortRecord → PortRecord → Entry → Option Answer → Option Share → Look
seen port tries floor d old new entry answer share = record {
  port = port;
  tries = tries;
  floor = floor;
  after = new.source.state;
  learnt = learnt old.source.state new.source.state (learnt_by d.what old.line);
  asks = asks_in old.sink.state new.sink.state;
  wish = wish_of new.sink;
  again = is_again Sink d.what old.line;
  entry = entry;
  answer = answer;
  share = share;
}

-- what a step has shown is what is looked at of the move
pub look_is : (plan : Plan) (past : List Move) (live live' : LiveData) (port tries floor : ℕ) (d : Due) (entry : Entry)
    (answer : Option Answer) (share : Option Share) → 1 ≤ port → port - 1 < count plan → StandsAfter plan past live →
    StandsAfter plan (past ++ next_move plan past (port - 1) d ∷ []) live' →
    tries ≡ (settings_of plan (port - 1)).identity_tries → floor ≡ floor_of (settings_of plan (port - 1)) →
    entry ≡ (next_move plan past (port - 1) d).entry → answer ≡ (next_move plan past (port - 1) d).answer →
    share ≡ option_map (λ (a : Answer). share_at plan past (port - 1) d.time) answer →
    seen port tries floor d (record_at live (port - 1)) (record_at live' (port - 1)) entry answer share
    ≡ look_of plan past (next_move plan past (port - 1) d)
unfolding look_of
look_is plan past live live' port tries floor d entry answer share first known stands moved t f e a s =
    let q = port - 1 in
    let m : Move = next_move plan past q d in
    let number : port ≡ q + 1 = omega arith in
    let before : record_at live q ≡ m.before = stood_before plan past live q d known stands in
    let now : record_at live' q ≡ after plan m = stands_now plan past live' q d known moved in
    let shared : share ≡ option_map (λ (x : Answer). share_at plan past q d.time) m.answer =
    s ∙ ap (option_map (λ (x : Answer). share_at plan past q d.time)) a in
    let set : SettingsData = settings_of plan q in
    ap (λ k. seen k tries floor d (record_at live q) (record_at live' q) entry answer share) number
    ∙ ap (λ k. seen (q + 1) k floor d (record_at live q) (record_at live' q) entry answer share) t
    ∙ ap (λ k. seen (q + 1) set.identity_tries k d (record_at live q) (record_at live' q) entry answer share) f
    ∙ ap (λ k. seen (q + 1) set.identity_tries (floor_of set) d k (record_at live' q) entry answer share) before
    ∙ ap (λ k. seen (q + 1) set.identity_tries (floor_of set) d m.before k entry answer share) now
    ∙ ap (λ k. seen (q + 1) set.identity_tries (floor_of set) d m.before (after plan m) k answer share) e
    ∙ ap (λ k. seen (q + 1) set.identity_tries (floor_of set) d m.before (after plan m) m.entry k share) a
    ∙ ap (λ k. seen (q + 1) set.identity_tries (floor_of set) d m.before (after plan m) m.entry m.answer k) shared

-- what is looked at, from the answers of the calls that look
pub shown_is : (port tries floor : ℕ) (d : Due) (old new : PortRecord) (stood : Stood) (after stands : State) (how : Option CableLimit)
    (sink : SinkState) (asks : Bool) (wish : Option Wish) (entry : Entry) (answer : Option Answer) (share : Option Share) →
    stood ≡ stood_at old d → after ≡ new.source.state → stands ≡ new.source.state → how ≡ learnt stood.source stands stood.how →
    sink ≡ new.sink.state → asks ≡ asks_in stood.sink sink → wish ≡ wish_of new.sink →
    record {
      port = port;
      tries = tries;
      floor = floor;
      after = after;
      learnt = how;
      asks = asks;
      wish = wish;
      again = stood.again;
      entry = entry;
      answer = answer;
      share = share;
    } ≡ seen port tries floor d old new entry answer share
shown_is port tries floor d old new stood after stands how sink asks wish entry answer share e a t h s k w = rw (h, k, w, a, t, s, e) refl
