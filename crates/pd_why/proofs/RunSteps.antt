-- What the story of a port knows goes with the port's record, at each place of a run.
use Rattle.std.proofs.Common.{◌≡◌, ◌≢◌, ⊎_elim, ℕ, ◌+◌, Bool, true, false, ◌&&◌, if◌then◌else◌, is_some, List, [], ◌∷◌, ◌++◌, map}
use Rattle.std.proofs.Common.{Option, None, Some, option_map, refl, sym, ap, ◌∙◌, subst, append_assoc, arith, cond, eqb}
use Rattle.std.proofs.lemmas.Bool.{cases_eq}
use Rattle.std.proofs.lemmas.Bool.Decides.{nat_tests}
use Rattle.std.proofs.lemmas.List.{append-nil}
use Rattle.std.proofs.lemmas.List.Elements.{All-nil, All-push}
use Rattle.arrayvec.specs.ArrayVec.{ArrayVec}
use Rattle.pd_objects.specs.Supply.{SupplyData}
use Rattle.pd_objects.specs.declared.query.Answer.{Answer}
use Rattle.pd_objects.specs.declared.query.Answer.TheVariants as answer
use Rattle.pd_objects.specs.declared.query.Query.{Query}
use Rattle.pd_objects.specs.declared.query.Query.TheVariants as query
use Rattle.pd_header.specs.declared.side.Side.{Side}
use Rattle.pd_packet.specs.Contents.{Contents}
use Rattle.pd_source.specs.Record.{SourceData, SourceRecord}
use Rattle.pd_ledger.specs.Account.{free_of}
use Rattle.pd_ledger.specs.Offer.{answer_of, offered}
use Rattle.pd_line.specs.Record.{nothing_attached}
use Rattle.pd_port.specs.declared.entry.Entry.{Entry}
use Rattle.pd_port.specs.Happens.{is_detach}
use Rattle.pd_port.specs.Port.{PortRecord, ask, detached, entry_of, source_settings}
use Rattle.pd_scenario.specs.Plan.{Plan, settings_of}
use Rattle.pd_run.specs.Order.{EachAfter}
use Rattle.pd_run.specs.Run.{Move, Run, Standing, after, account_after, standing, GoesOn, IsAnswered}
use Rattle.pd_run.proofs.Moves.{standing-other, standing-same}
use Rattle.pd_why.specs.declared.cable.CableLimit.{CableLimit}
use Rattle.pd_why.specs.declared.known.Known.{Known}
use Rattle.pd_why.specs.declared.look.Look.{Look}
use Rattle.pd_why.specs.declared.look.Share.{Share}
use Rattle.pd_why.specs.declared.question.Question.{Question}
use Rattle.pd_why.specs.declared.wish.Wish.{Wish}
use Rattle.pd_why.specs.Cables.{learnt, learnt_by}
use Rattle.pd_why.specs.Facts.{offers_in}
use Rattle.pd_why.specs.Known.{known_after, learnt_after, pulls_out}
use Rattle.pd_why.specs.Laws.{IsKnownLimit, IsLastOffer, IsLastWish, IsLearnt, IsSentAgain, SendsRequest, known_of, offer_by, offer_in}
use Rattle.pd_why.specs.Looks.{look_of}
use Rattle.pd_why.specs.Story.{StoryData, is_within, step, story_of, with_known, with_later, with_move}
use Rattle.pd_why.specs.Wishes.{asks_in, request_by, wish_of}
use Rattle.pd_why.proofs.DetachSteps.{entry_pulls_is}
use Rattle.pd_why.proofs.PortSteps.{port_steps}
use Rattle.pd_why.proofs.SinkSteps.{IsAsked, asked_next}
use Rattle.pd_why.proofs.SourcePort.{LimitGoes, pulled, kept, learns, port_drafts, port_limits}
use Rattle.pd_source.proofs.Offering.{Drafts, is_offer_query}
use Rattle.pd_why.proofs.SourceSteps.{IsOffered, offering_is}
use Rattle.pd_why.proofs.StartSteps.{StartFits}
use Rattle.pd_why.proofs.StoryLemmas.{story_more}

-- ---- what is known after one more move

-- a choice of stories that know the same
either_knows : (b : Bool) (k : Known) (s z : StoryData) → s.known ≡ k → z.known ≡ k → (if b then s else z).known ≡ k
either_knows true k s z h e = h
either_knows false k s z h e = e

later_knows : (look : Look) (s : StoryData) → (with_later look s).known ≡ s.known
later_knows look s = either_knows s.telling s.known _ s refl refl

move_knows : (q : Question) (look : Look) (asked : Option Query) (answered : Option Answer) (share : Option Share) (s : StoryData) →
    (with_move q look asked answered share s).known ≡ s.known
move_knows q look (Some (query.Offer supplies limit)) (Some (answer.Offer currents)) (Some share) s =
    either_knows (offers_in look.after) s.known _ _ (either_knows (is_within q.to look.entry.at) s.known _ _ refl refl) (later_knows look s)
move_knows q look asked answered share s = later_knows look s

step_knows : (q : Question) (look : Look) (s : StoryData) → (step q look s).known ≡ known_after look s.known
unfolding step
step_knows q look s = move_knows q look look.entry.query look.answer look.share (with_known q look s)

if_same : {X : Type 0} (a b : ℕ) (x y : X) → a ≡ b → cond (eqb a b) x y ≡ x
if_same a b x y e = grind (arith, nat_tests)

if_other : {X : Type 0} (a b : ℕ) (x y : X) → a ≢ b → cond (eqb a b) x y ≡ y
if_other a b x y e = grind (arith, nat_tests)

-- a move of the port
pub known_more : (plan : Plan) (q : Question) (past : List Move) (m : Move) → q.port ≡ m.port + 1 →
    known_of plan q (past ++ m ∷ []) ≡ known_after (look_of plan past m) (known_of plan q past)
unfolding look_of
known_more plan q past m e =
    let s = story_of plan q past in
    ap (λ (z : StoryData). z.known) (story_more plan q past m)
    ∙ ap (λ (z : StoryData). z.known) (if_same (m.port + 1) q.port (step q (look_of plan past m) s) s (sym e))
    ∙ step_knows q (look_of plan past m) s

-- and one of another
known_same : (plan : Plan) (q : Question) (past : List Move) (m : Move) → m.port + 1 ≢ q.port →
    known_of plan q (past ++ m ∷ []) ≡ known_of plan q past
unfolding look_of
known_same plan q past m e =
    let s = story_of plan q past in
    ap (λ (z : StoryData). z.known) (story_more plan q past m)
    ∙ ap (λ (z : StoryData). z.known) (if_other (m.port + 1) q.port (step q (look_of plan past m) s) s e)

-- ---- what stays true for one more move

longer : (earlier later : List Move) (m n : Move) (moves : List Move) → moves ≡ earlier ++ m ∷ later →
    moves ++ n ∷ [] ≡ earlier ++ m ∷ (later ++ n ∷ [])
longer earlier later m n moves e = ap (λ (l : List Move). l ++ n ∷ []) e ∙ append_assoc earlier (m ∷ later) (n ∷ [])

wish_longer : (plan : Plan) (moves : List Move) (n : Move) (p : ℕ) (w : Wish) → (n.port ≡ p → SendsRequest plan n → ⊥) →
    IsLastWish plan moves p w → IsLastWish plan (moves ++ n ∷ []) p w
wish_longer plan moves n p w none h = record {
  earlier = h.earlier;
  sending = h.sending;
  since = h.since ++ n ∷ [];
  among = longer h.earlier h.since h.sending n moves h.among;
  on_port = h.on_port;
  sends = h.sends;
  of_record = h.of_record;
  last = All-push (λ m. m.port ≡ p → SendsRequest plan m → ⊥) h.since n h.last none;
}

offer_longer : (plan : Plan) (moves : List Move) (n : Move) (p : ℕ) (currents : List ℕ) → (n.port ≡ p → offer_in plan n ≡ None) →
    IsLastOffer plan moves p currents → IsLastOffer plan (moves ++ n ∷ []) p currents
offer_longer plan moves n p currents none h = record {
  earlier = h.earlier;
  offering = h.offering;
  since = h.since ++ n ∷ [];
  among = longer h.earlier h.since h.offering n moves h.among;
  on_port = h.on_port;
  offers = h.offers;
  last = All-push (λ m. m.port ≡ p → offer_in plan m ≡ None) h.since n h.last none;
}

learnt_longer : (plan : Plan) (moves : List Move) (n : Move) (p : ℕ) (how : CableLimit) (limit new : Option ℕ) → new ≡ limit →
    (n.port ≡ p → (after plan n).source.limit ≡ limit) → IsLearnt plan moves p how limit → IsLearnt plan (moves ++ n ∷ []) p how new
learnt_longer plan moves n p how limit new e stays h =
    subst (IsLearnt plan (moves ++ n ∷ []) p how) (sym e) (record {
      earlier = h.earlier;
      learning = h.learning;
      since = h.since ++ n ∷ [];
      among = longer h.earlier h.since h.learning n moves h.among;
      on_port = h.on_port;
      learns = h.learns;
      limit_is = h.limit_is;
      kept = All-push (λ m. m.port ≡ p → (after plan m).source.limit ≡ limit) h.since n h.kept stays;
    })

known_longer : (plan : Plan) (moves : List Move) (n : Move) (p : ℕ) (how : Option CableLimit) (old new : SourceRecord) →
    new.limit ≡ old.limit →
    (n.port ≡ p → (after plan n).source.limit ≡ old.limit) → IsKnownLimit plan moves p how old →
    IsKnownLimit plan (moves ++ n ∷ []) p how new
known_longer plan moves n p None old new e stays h = e ∙ h
known_longer plan moves n p (Some how) old new e stays h = learnt_longer plan moves n p how old.limit new.limit e stays h

-- ---- at a place of a run

-- What waits on a port is what was sent and offered last, and its limit is known, as the story has it.
pub record Knows (plan : Plan) (q : Question) (moves : List Move) (p : ℕ) : Type 0 where
  pub request : IsAsked (request_by (known_of plan q moves).wish) (standing plan moves p).state.sink_waits
  pub wish : (w : Wish) → (known_of plan q moves).wish ≡ Some w → IsLastWish plan moves p w
  pub offer : IsOffered (source_settings (settings_of plan p)) (standing plan moves p).state.source
      (standing plan moves p).state.source_waits
  pub draft : offers_in (standing plan moves p).state.source.state ≡ true →
      IsLastOffer plan moves p (standing plan moves p).state.source.draft_offer
  pub limit : IsKnownLimit plan moves p (known_of plan q moves).cable (standing plan moves p).state.source

knows_start : (plan : Plan) (q : Question) (p : ℕ) → Knows plan q [] p
unfolding detached nothing_attached
knows_start plan q p =
    record { request = tt; wish = λ w e. absurd (cc); offer = tt; draft = λ e. absurd (cc); limit = refl }

-- with a record and what is known in place of what the moves have left
record KnowsOf (plan : Plan) (moves : List Move) (p : ℕ) (r : PortRecord) (k : Known) : Type 0 where
  request : IsAsked (request_by k.wish) r.sink_waits
  wish : (w : Wish) → k.wish ≡ Some w → IsLastWish plan moves p w
  offer : IsOffered (source_settings (settings_of plan p)) r.source r.source_waits
  draft : offers_in r.source.state ≡ true → IsLastOffer plan moves p r.source.draft_offer
  limit : IsKnownLimit plan moves p k.cable r.source

knows_by : (plan : Plan) (q : Question) (moves : List Move) (p : ℕ) (r : PortRecord) (k : Known) → (standing plan moves p).state ≡ r →
    known_of plan q moves ≡ k → KnowsOf plan moves p r k → Knows plan q moves p
knows_by plan q moves p r k e f h =
    let g : KnowsOf plan moves p (standing plan moves p).state (known_of plan q moves) =
    subst (λ (x : PortRecord). KnowsOf plan moves p x (known_of plan q moves)) (sym e)
    (subst (λ (x : Known). KnowsOf plan moves p r x) (sym f) h) in
    record { request = g.request; wish = g.wish; offer = g.offer; draft = g.draft; limit = g.limit }

of_knows : (plan : Plan) (q : Question) (moves : List Move) (p : ℕ) (r : PortRecord) → r ≡ (standing plan moves p).state →
    Knows plan q moves p → KnowsOf plan moves p r (known_of plan q moves)
of_knows plan q moves p r e h =
    subst (λ (x : PortRecord). KnowsOf plan moves p x (known_of plan q moves)) (sym e)
    (record { request = h.request; wish = h.wish; offer = h.offer; draft = h.draft; limit = h.limit })

-- a move of another port
knows_aside : (plan : Plan) (q : Question) (past : List Move) (m : Move) (p : ℕ) → m.port ≢ p → q.port ≡ p + 1 → Knows plan q past p →
    Knows plan q (past ++ m ∷ []) p
knows_aside plan q past m p other e h =
    let apart : m.port + 1 ≢ q.port = λ f. other (omega arith) in
    let r = (standing plan past p).state in
    knows_by plan q (past ++ m ∷ []) p r (known_of plan q past) (ap (λ (s : Standing). s.state) (standing-other plan past m p other))
    (known_same plan q past m apart)
    (record {
      request = h.request;
      wish = λ w f. wish_longer plan past m p w (λ on s. absurd (other on)) (h.wish w f);
      offer = h.offer;
      draft = λ f. offer_longer plan past m p r.source.draft_offer (λ on. absurd (other on)) (h.draft f);
      limit = known_longer plan past m p (known_of plan q past).cable r.source r.source refl (λ on. absurd (other on)) h.limit;
    })

-- ---- a move of the port

if_lifts : (b : Bool) (x y : Option Wish) → (if b then request_by x else request_by y) ≡ request_by (if b then x else y)
if_lifts true x y = refl
if_lifts false x y = refl

wish_now : (plan : Plan) (past : List Move) (m : Move) (w : Wish) → SendsRequest plan m → wish_of (after plan m).sink ≡ Some w →
    IsLastWish plan (past ++ m ∷ []) m.port w
wish_now plan past m w s e = record {
  earlier = past;
  sending = m;
  since = [];
  among = refl;
  on_port = refl;
  sends = s;
  of_record = e;
  last = All-nil (λ x. x.port ≡ m.port → SendsRequest plan x → ⊥);
}

wish_by : (plan : Plan) (past : List Move) (m : Move) (known : Option Wish) (b : Bool) →
    asks_in m.before.sink.state (after plan m).sink.state ≡ b → ((w : Wish) → known ≡ Some w → IsLastWish plan past m.port w) →
    (w : Wish) → (if b then wish_of (after plan m).sink else known) ≡ Some w → IsLastWish plan (past ++ m ∷ []) m.port w
wish_by plan past m known true a h w e = wish_now plan past m w a e
wish_by plan past m known false a h w e =
    wish_longer plan past m m.port w (λ on s. absurd (let f : true ≡ false = sym s ∙ a in cc)) (h w e)

if_true : {A : Type 0} (b : Bool) (x y : A) → b ≡ true → (if b then x else y) ≡ x
if_true true x y h = refl
if_true false x y h = absurd (cc)

if_false : {A : Type 0} (b : Bool) (x y : A) → b ≡ false → (if b then x else y) ≡ y
if_false true x y h = absurd (cc)
if_false false x y h = refl

offer_now : (plan : Plan) (past : List Move) (m : Move) (currents : List ℕ) → offer_in plan m ≡ Some currents →
    IsLastOffer plan (past ++ m ∷ []) m.port currents
offer_now plan past m currents e = record {
  earlier = past;
  offering = m;
  since = [];
  among = refl;
  on_port = refl;
  offers = e;
  last = All-nil (λ x. x.port ≡ m.port → offer_in plan x ≡ None);
}

-- a move of which it is known what it has asked
pub record Asked (plan : Plan) (past : List Move) (m : Move) (q : Option Query) : Type 0 where
  pub asked : m.entry.query ≡ q
  pub answered : m.answer ≡ option_map (answer_of (account_after plan past m.due.time) m.port) q

abbrev pub answered_currents : Plan → List Move → Move → List SupplyData → ℕ → List ℕ
answered_currents plan past m supplies limit = map (offered (free_of (account_after plan past m.due.time) m.port) limit) supplies

pub offer_made : (plan : Plan) (past : List Move) (m : Move) (supplies : ArrayVec SupplyData) (limit : ℕ) →
    Asked plan past m (Some (query.Offer supplies limit)) → offers_in (after plan m).source.state ≡ true →
    offer_in plan m ≡ Some (answered_currents plan past m supplies.items limit)
offer_made plan past m supplies limit k h =
    let t = (after plan m).source.state in
    ap (λ q. offer_by q m.answer t) k.asked ∙ ap (λ x. offer_by (Some (query.Offer supplies limit)) x t) k.answered
    ∙ if_true (offers_in t) (Some (answered_currents plan past m supplies.items limit)) None h

-- the draft is as before, where no offer was asked for
draft_stays : (plan : Plan) (past : List Move) (m : Move) (q : Option Query) → offer_in plan m ≡ None → is_offer_query q ≡ false →
    Drafts q m.answer m.before.source (after plan m).source →
    (offers_in m.before.source.state ≡ true → IsLastOffer plan past m.port m.before.source.draft_offer) →
    IsLastOffer plan (past ++ m ∷ []) m.port (after plan m).source.draft_offer
draft_stays plan past m q none n d before =
    let h = d.stays n in
    subst (IsLastOffer plan (past ++ m ∷ []) m.port) (sym h.1)
    (offer_longer plan past m m.port m.before.source.draft_offer (λ on. none) (before (sym (offering_is m.before.source.state) ∙ h.0)))

draft_by : (plan : Plan) (past : List Move) (m : Move) (q : Option Query) → Asked plan past m q →
    offers_in (after plan m).source.state ≡ true → Drafts q m.answer m.before.source (after plan m).source →
    (offers_in m.before.source.state ≡ true → IsLastOffer plan past m.port m.before.source.draft_offer) →
    IsLastOffer plan (past ++ m ∷ []) m.port (after plan m).source.draft_offer
draft_by plan past m (Some (query.Offer supplies limit)) k h d before =
    let currents : ArrayVec ℕ = record { items = answered_currents plan past m supplies.items limit } in
    subst (IsLastOffer plan (past ++ m ∷ []) m.port) (sym (d.answered currents refl k.answered))
    (offer_now plan past m currents.items (offer_made plan past m supplies limit k h))
draft_by plan past m None k h d before =
    draft_stays plan past m None (ap (λ q. offer_by q m.answer (after plan m).source.state) k.asked) refl d before
draft_by plan past m (Some (query.Fits power)) k h d before =
    draft_stays plan past m (Some (query.Fits power)) (ap (λ q. offer_by q m.answer (after plan m).source.state) k.asked)
    refl d before
draft_by plan past m (Some (query.Keep power)) k h d before =
    draft_stays plan past m (Some (query.Keep power)) (ap (λ q. offer_by q m.answer (after plan m).source.state) k.asked) refl d before

-- how the limit is known, by what the step did
limit_by : (plan : Plan) (past : List Move) (m : Move) (known : Option CableLimit) →
    pulls_out m.entry ≡ is_detach m.due.what && is_some m.before.cable →
    LimitGoes (settings_of plan m.port) m.before m.due (after plan m).source → IsKnownLimit plan past m.port known m.before.source →
    IsKnownLimit plan (past ++ m ∷ []) m.port (if pulls_out m.entry then None else
    learnt_after (learnt m.before.source.state (after plan m).source.state (learnt_by m.due.what m.before.line)) known)
    (after plan m).source
limit_by plan past m known e (pulled b same) h =
    let new = (after plan m).source in
    let how = learnt_after (learnt m.before.source.state new.state (learnt_by m.due.what m.before.line)) known in
    subst (λ k. IsKnownLimit plan (past ++ m ∷ []) m.port k new) (sym (if_true (pulls_out m.entry) None how (e ∙ b)))
    (ap (λ (z : SourceRecord). z.limit) same)
limit_by plan past m known e (kept b n same) h =
    let new = (after plan m).source in
    let how = learnt_by m.due.what m.before.line in
    let is : (if pulls_out m.entry then None else learnt_after (learnt m.before.source.state new.state how) known) ≡ known =
    if_false (pulls_out m.entry) None _ (e ∙ b) ∙ ap (λ c. learnt_after (if c then Some how else None) known) n in
    subst (λ k. IsKnownLimit plan (past ++ m ∷ []) m.port k new) (sym is)
    (known_longer plan past m m.port known m.before.source new same (λ on. same) h)
limit_by plan past m known e (learns b settled y told goes by) h =
    let new = (after plan m).source in
    let how = learnt_by m.due.what m.before.line in
    let is : (if pulls_out m.entry then None else learnt_after (learnt m.before.source.state new.state how) known) ≡ Some how =
    if_false (pulls_out m.entry) None _ (e ∙ b) ∙ ap (λ c. learnt_after (if c then Some how else None) known) settled in
    subst (λ k. IsKnownLimit plan (past ++ m ∷ []) m.port k new) (sym is) (record {
      earlier = past;
      learning = m;
      since = [];
      among = refl;
      on_port = refl;
      learns = record { settled = settled; stimulus = y; told = told; by = by };
      limit_is = refl;
      kept = All-nil (λ x. x.port ≡ m.port → (after plan x).source.limit ≡ new.limit);
    })

pub asked_is : (plan : Plan) (past : List Move) (m : Move) → GoesOn plan past m → IsAnswered plan past m →
    Asked plan past m (ask (settings_of plan m.port) m.before m.due)
unfolding entry_of
asked_is plan past m goes given = record { asked = ap (λ (e : Entry). e.query) goes.entry_is; answered = given }

knows_here : (plan : Plan) (q : Question) (past : List Move) (m : Move) → GoesOn plan past m → IsAnswered plan past m →
    q.port ≡ m.port + 1 → Knows plan q past m.port → Knows plan q (past ++ m ∷ []) m.port
unfolding look_of
knows_here plan q past m goes given e h =
    let s = settings_of plan m.port in
    let k = known_of plan q past in
    let b = of_knows plan q past m.port m.before goes.before_is h in
    let t = port_steps (request_by k.wish) s m.before m.due m.answer b.request b.offer in
    let new = after plan m in
    let asks = asks_in m.before.sink.state new.sink.state in
    let pulls : pulls_out m.entry ≡ is_detach m.due.what && is_some m.before.cable =
    ap pulls_out goes.entry_is ∙ entry_pulls_is s m.before m.due m.answer in
    knows_by plan q (past ++ m ∷ []) m.port new (known_after (look_of plan past m) k)
    (ap (λ (z : Standing). z.state) (standing-same plan past m m.port refl)) (known_more plan q past m e)
    (record {
      request = subst (λ o. IsAsked o new.sink_waits) (if_lifts asks (wish_of new.sink) k.wish) t.request;
      wish = wish_by plan past m k.wish asks refl b.wish;
      offer = t.offer;
      draft = λ f. draft_by plan past m (ask s m.before m.due) (asked_is plan past m goes given) f
          (port_drafts s m.before m.due m.answer f) b.draft;
      limit = limit_by plan past m k.cable pulls (port_limits s m.before m.due m.answer) b.limit;
    })

knows_step : (plan : Plan) (q : Question) (past : List Move) (m : Move) (p : ℕ) → GoesOn plan past m → IsAnswered plan past m →
    q.port ≡ p + 1 → Knows plan q past p → Knows plan q (past ++ m ∷ []) p
knows_step plan q past m p goes given e h =
    ⊎_elim
    (λ (same : m.port ≡ p).
    let f : q.port ≡ m.port + 1 = omega arith in
    subst (Knows plan q (past ++ m ∷ [])) same (knows_here plan q past m goes given f (subst (Knows plan q past) (sym same) h)))
    (λ (other : m.port ≢ p). knows_aside plan q past m p other e h)
    (cases_eq m.port p)

knows_all : (plan : Plan) (q : Question) (p : ℕ) (past done rest : List Move) → q.port ≡ p + 1 →
    EachAfter (GoesOn plan) past (done ++ rest) → EachAfter (IsAnswered plan) past (done ++ rest) → Knows plan q past p →
    Knows plan q (past ++ done) p
knows_all plan q p past [] rest e goes given h = subst (λ l. Knows plan q l p) (sym (append-nil past)) h
knows_all plan q p past (m ∷ ms) rest e goes given h =
    subst (λ l. Knows plan q l p) (append_assoc past (m ∷ []) ms)
    (knows_all plan q p (past ++ m ∷ []) ms rest e goes.1 given.1 (knows_step plan q past m p goes.0 given.0 e h))

-- at each place of a run
pub knows_at : (plan : Plan) (q : Question) (p : ℕ) (moves : List Move) → Run plan moves → (done rest : List Move) → moves ≡ done ++ rest →
    q.port ≡ p + 1 → Knows plan q done p
knows_at plan q p moves run done rest e f =
    knows_all plan q p [] done rest f (subst (EachAfter (GoesOn plan) []) e run.chained) (subst (EachAfter
    (IsAnswered plan) []) e run.answered)
    (knows_start plan q p)

-- a move at a place of a run goes on from there, and is answered
each_at : (P : List Move → Move → Type 0) (before past : List Move) (m : Move) (rest : List Move) →
    EachAfter P before (past ++ m ∷ rest) → P (before ++ past) m
each_at P before [] m rest h = subst (λ l. P l m) (sym (append-nil before)) h.0
each_at P before (x ∷ past) m rest h =
    subst (λ l. P l m) (append_assoc before (x ∷ []) past) (each_at P (before ++ x ∷ []) past m rest h.1)

pub goes_at : (plan : Plan) (moves : List Move) → Run plan moves → (past rest : List Move) (m : Move) → moves ≡ past ++ m ∷ rest →
    GoesOn plan past m × IsAnswered plan past m
goes_at plan moves run past rest m e = (
  each_at (GoesOn plan) [] past m rest (subst (EachAfter (GoesOn plan) []) e run.chained),
  each_at (IsAnswered plan) [] past m rest (subst (EachAfter (IsAnswered plan) []) e run.answered),
)

-- what starts in a move is explained by what is known after it
pub start_fits : (plan : Plan) (q : Question) (past : List Move) (m : Move) → GoesOn plan past m → q.port ≡ m.port + 1 →
    Knows plan q past m.port →
    StartFits (request_by (known_of plan q (past ++ m ∷ [])).wish)
    (record { settings = source_settings (settings_of plan m.port); «record» = (after plan m).source })
    (λ by p. IsSentAgain by m.due.what m.before p) m.entry.start
unfolding look_of
start_fits plan q past m goes e h =
    let s = settings_of plan m.port in
    let k = known_of plan q past in
    let b = of_knows plan q past m.port m.before goes.before_is h in
    let t = port_steps (request_by k.wish) s m.before m.due m.answer b.request b.offer in
    let new = after plan m in
    let asks = asks_in m.before.sink.state new.sink.state in
    let source : SourceData = record { settings = source_settings s; «record» = new.source } in
    let again : Side → Contents → Type 0 = λ by p. IsSentAgain by m.due.what m.before p in
    let known : asked_next (request_by k.wish) m.before.sink new.sink ≡ request_by (known_of plan q (past ++ m ∷ [])).wish =
    if_lifts asks (wish_of new.sink) k.wish ∙ ap (λ (z : Known). request_by z.wish) (sym (known_more plan q past m e)) in
    subst (λ o. StartFits o source again m.entry.start) known
    (subst (λ (x : Entry). StartFits (asked_next (request_by k.wish) m.before.sink new.sink) source again x.start)
    (sym goes.entry_is) t.begun)
