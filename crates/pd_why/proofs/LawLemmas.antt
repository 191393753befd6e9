-- What holds of what is told, in each run.
use Rattle.std.proofs.Common.{◌≡◌, ◌⊎◌, inl, inr, ℕ, ◌+◌, Bool, true, false, ◌&&◌, if◌then◌else◌, is_some, List, [], ◌∷◌, ◌++◌, Option}
use Rattle.std.proofs.Common.{None, Some}
use Rattle.std.proofs.Common.{append_assoc, option_map, refl, sym, ap, ◌∙◌, subst}
use Rattle.std.proofs.lemmas.Option.{same_Some}
use Rattle.arrayvec.specs.ArrayVec.{ArrayVec}
use Rattle.pd_header.specs.Header.{count_of, type_of}
use Rattle.pd_header.specs.Kinds.{kind_of_header, number_of}
use Rattle.pd_header.specs.declared.kind.Kind.TheVariants.{Request}
use Rattle.pd_header.specs.declared.side.Side.{Side}
use Rattle.pd_header.specs.declared.side.Side.TheVariants.{Sink}
use Rattle.pd_header.proofs.Numbers.{numbers_come_back}
use Rattle.pd_packet.specs.Contents.{Contents}
use Rattle.pd_packet.specs.declared.fate.Fate.{Fate}
use Rattle.pd_objects.specs.Supply.{SupplyData}
use Rattle.pd_objects.specs.declared.query.Answer.{Answer}
use Rattle.pd_objects.specs.declared.query.Query.{Query}
use Rattle.pd_objects.specs.declared.query.Query.TheVariants as query
use Rattle.pd_timers.proofs.FirstRow.{and-left, and-right}
use Rattle.pd_ledger.specs.Offer.{answer_of}
use Rattle.pd_source.specs.declared.kinds.Stimulus.{Stimulus}
use Rattle.pd_source.specs.Record.{SourceData, off}
use Rattle.pd_source.specs.Sound.{limit_in}
use Rattle.pd_source.proofs.Limits.{asked-stepped}
use Rattle.pd_sink.proofs.Asks.{Asks-asked_of}
use Rattle.pd_setup.specs.declared.event.EventKind.TheVariants.{Detach}
use Rattle.pd_setup.specs.declared.event.Happening.{Happening}
use Rattle.pd_setup.specs.declared.event.Happening.TheVariants.{Port, Budget}
use Rattle.pd_setup.specs.Events.{PortEventKind}
use Rattle.pd_setup.specs.Settings.{SettingsData}
use Rattle.pd_line.specs.declared.notes.Start.TheVariants.{Packet}
use Rattle.pd_line.specs.declared.port_parts.PortParts.{PortParts}
use Rattle.pd_port.specs.declared.due.Due.{Due}
use Rattle.pd_port.specs.declared.due.What.{What}
use Rattle.pd_port.specs.declared.due.What.TheVariants as what
use Rattle.pd_port.specs.Happens.{is_budget, is_detach, pulls_cable}
use Rattle.pd_port.specs.Laws.{source_after_told}
use Rattle.pd_port.specs.Port.{PortRecord, ask, asks, record_after, source_settings, whole}
use Rattle.pd_port.specs.SourceTold.{source_told, told_by_event, told_attached, told_detached}
use Rattle.pd_port.proofs.Asked.{ask_when, record_after-source, source_when}
use Rattle.pd_port.proofs.Busy.{record_after-detached}
use Rattle.pd_port.proofs.Sound.{ports_stay_sound}
use Rattle.pd_scenario.specs.Plan.{Plan, settings_of}
use Rattle.pd_run.specs.Run.{Move, Run, Standing, account_after, after, standing}
use Rattle.pd_run.proofs.Moves.{standing-same}
use Rattle.pd_why.specs.declared.question.Question.{Question}
use Rattle.pd_why.specs.Facts.{offers_in}
use Rattle.pd_why.specs.Known.{pulls_out}
use Rattle.pd_why.specs.Laws.{CapabilitiesAreOffered, DetachesAreTold, IsExplained, IsLastOffer, IsOfShare, IsSentAgain, LimitsAreKnown}
use Rattle.pd_why.specs.Laws.{RequestsAreExplained, SharesAreTold, known_of, offer_by, offer_in}
use Rattle.pd_why.specs.Looks.{share_at}
use Rattle.pd_why.specs.Wishes.{request_by}
use Rattle.pd_why.proofs.DetachSteps.{entry_pulls_is}
use Rattle.pd_why.proofs.RunSteps.{Asked, answered_currents, asked_is, goes_at, knows_at, start_fits}
use Rattle.pd_why.proofs.StartSteps.{StartFits}

-- ---- requests and offers

is_request : (packet : Contents) → kind_of_header packet.header ≡ Request → type_of packet.header ≡ number_of Request
is_request packet k = sym (numbers_come_back (type_of packet.header) (count_of packet.header)) ∙ ap number_of k

-- the source of a port after a move of it
abbrev source_after_move : Plan → Move → SourceData
source_after_move plan m = record { settings = source_settings (settings_of plan m.port); «record» = (after plan m).source }

pub requests_explained : RequestsAreExplained
requests_explained plan moves run past rest m e packet fate s k q f =
    let here = knows_at plan q m.port moves run past (m ∷ rest) e f in
    let split : moves ≡ (past ++ m ∷ []) ++ rest = e ∙ sym (append_assoc past (m ∷ []) rest) in
    let next = knows_at plan q m.port moves run (past ++ m ∷ []) rest split f in
    let goes = goes_at plan moves run past rest m e in
    let wish = request_by (known_of plan q (past ++ m ∷ [])).wish in
    let again : Side → Contents → Type 0 = λ by p. IsSentAgain by m.due.what m.before p in
    elim (subst (StartFits wish (source_after_move plan m) again) s (start_fits plan q past m goes.0 f here)) [
      | inl once_more ↦ inl once_more
      | inr objects ↦ inr (record {
        objects_are = objects (is_request packet k);
        by_rule = λ w is. Asks-asked_of w.sink w.offer;
        of_record = next.wish;
      })
    ]

pub capabilities_offered : CapabilitiesAreOffered
capabilities_offered plan moves run past rest m e packet fate s k =
    let q : Question = record { port = m.port + 1; to = None } in
    let here = knows_at plan q m.port moves run past (m ∷ rest) e refl in
    let split : moves ≡ (past ++ m ∷ []) ++ rest = e ∙ sym (append_assoc past (m ∷ []) rest) in
    let next = knows_at plan q m.port moves run (past ++ m ∷ []) rest split refl in
    let goes = goes_at plan moves run past rest m e in
    let new : (standing plan (past ++ m ∷ []) m.port).state ≡ after plan m =
    ap (λ (z : Standing). z.state) (standing-same plan past m m.port refl) in
    let offer : offers_in (after plan m).source.state ≡ true → IsLastOffer plan (past ++ m ∷ []) m.port (after plan m).source.draft_offer =
    subst (λ (r : PortRecord). offers_in r.source.state ≡ true →
    IsLastOffer plan (past ++ m ∷ []) m.port r.source.draft_offer) new next.draft in
    let wish = request_by (known_of plan q (past ++ m ∷ [])).wish in
    let again : Side → Contents → Type 0 = λ by p. IsSentAgain by m.due.what m.before p in
    elim (subst (StartFits wish (source_after_move plan m) again) s (start_fits plan q past m goes.0 refl here)) [
      | inl once_more ↦ inl once_more
      | inr of ↦ let h = of k in
          inr (record { currents = (after plan m).source.draft_offer; last = offer h.0; objects_are = h.1 })
    ]

-- ---- shares

-- a port that is pulled out asks for no offer
untold : (b : Bool) (k : PortEventKind) (r : PortParts) → pulls_cable (Port 0 k) ≡ true →
    (if b then told_attached k r else told_detached k) ≡ None
untold true Detach r h = refl
untold false Detach r h = refl
untold b k r h = absurd (cc)

event_untold : (h : Happening) (r : PortParts) → pulls_cable h ≡ true → told_by_event h r ≡ None
event_untold (Port id k) r h = untold (is_some r.cable) k r h
event_untold Budget r h = absurd (cc)

detach_untold : (x : What) (r : PortParts) → is_detach x ≡ true → source_told x r ≡ None
detach_untold (what.Event e) r h = event_untold e.happening r h
detach_untold what.Line r h = absurd (cc)
detach_untold (what.Timer side timer) r h = absurd (cc)

module _ (s : SettingsData) (r : PortRecord) (d : Due) (a : Option Answer) (supplies : ArrayVec SupplyData) (limit : ℕ) where
  limit_told : (o : Option Stimulus) → asks (whole s r) o ≡ Some (query.Offer supplies limit) →
      limit_in (source_after_told (source_settings s) d.time o a r.source) ≡ limit
  limit_told None h = absurd (cc)
  limit_told (Some y) h = asked-stepped (source_settings s) d.time y a r.source supplies limit h

  limit_detach : (b : Bool) → is_detach d.what && is_some r.cable ≡ b →
      asks (whole s r) (source_told d.what (whole s r)) ≡ Some (query.Offer supplies limit) →
      limit_in (if b then off (source_settings s) else
      source_after_told (source_settings s) d.time (source_told d.what (whole s r)) a r.source) ≡ limit
  limit_detach true e h =
      let none : source_told d.what (whole s r) ≡ None =
      detach_untold d.what (whole s r) (and-left (is_detach d.what) (is_some r.cable) e) in
      absurd (let f : None ≡ Some (query.Offer supplies limit) = ap (asks (whole s r)) (sym none) ∙ h in cc)
  limit_detach false e h = limit_told (source_told d.what (whole s r)) h

  limit_budget : (b : Bool) → ask_when b s r d ≡ Some (query.Offer supplies limit) → limit_in (source_when b s r d a) ≡ limit
  limit_budget true h = absurd (cc)
  limit_budget false h = limit_detach (is_detach d.what && is_some r.cable) refl h

  limit_asked : ask s r d ≡ Some (query.Offer supplies limit) → limit_in (record_after s r d a).source ≡ limit
  unfolding ask
  limit_asked h = ap limit_in (record_after-source s r d a) ∙ limit_budget (is_budget d.what) h

taken_currents : (b : Bool) (made currents : List ℕ) → (if b then Some made else None) ≡ Some currents → currents ≡ made
taken_currents true made currents h = sym (same_Some made currents h)
taken_currents false made currents h = absurd (cc)

share_by : (plan : Plan) (past : List Move) (m : Move) (q : Option Query) → ask (settings_of plan m.port) m.before m.due ≡ q →
    Asked plan past m q → (currents : List ℕ) → offer_in plan m ≡ Some currents → IsOfShare plan past m currents
unfolding share_at
share_by plan past m (Some (query.Offer supplies limit)) e k currents h =
    let s = settings_of plan m.port in
    let t = (after plan m).source.state in
    let made : (if offers_in t then Some (answered_currents plan past m supplies.items limit) else None) ≡ Some currents =
    sym (ap (λ q. offer_by q m.answer t) k.asked ∙ ap (λ x. offer_by (Some (query.Offer supplies limit)) x t) k.answered) ∙ h in
    record {
      supplies = supplies;
      limit = limit;
      asked = k.asked;
      supplies_are = ports_stay_sound.on_supplies s m.before m.due supplies limit e;
      limit_is = sym (limit_asked s m.before m.due m.answer supplies limit e);
      currents_are = taken_currents (offers_in t) (answered_currents plan past m supplies.items limit) currents made;
    }
share_by plan past m None e k currents h =
    absurd (let f : None ≡ Some currents = sym (ap (λ q. offer_by q m.answer (after plan m).source.state) k.asked) ∙ h in cc)
share_by plan past m (Some (query.Fits power)) e k currents h =
    absurd (let f : None ≡ Some currents = sym (ap (λ q. offer_by q m.answer (after plan m).source.state) k.asked) ∙ h in cc)
share_by plan past m (Some (query.Keep power)) e k currents h =
    absurd (let f : None ≡ Some currents = sym (ap (λ q. offer_by q m.answer (after plan m).source.state) k.asked) ∙ h in cc)

pub shares_told : SharesAreTold
unfolding share_at
shares_told = record {
  offers = λ plan moves run past rest m e currents h.
      let g = goes_at plan moves run past rest m e in
      share_by plan past m (ask (settings_of plan m.port) m.before m.due) refl (asked_is plan past m g.0 g.1) currents h;
  fits = λ plan moves run past rest m e power h.
      let g = goes_at plan moves run past rest m e in
      let k = asked_is plan past m g.0 g.1 in
      k.answered ∙ ap (option_map (answer_of (account_after plan past m.due.time) m.port)) (sym k.asked ∙ h);
}

-- ---- limits, and cables that are pulled out

pub limits_known : LimitsAreKnown
limits_known plan moves run done rest e p q f = (knows_at plan q p moves run done rest e f).limit

both : (b c : Bool) → b ≡ true → c ≡ true → b && c ≡ true
both true c h k = k
both false c h k = absurd (cc)

pub detaches_told : DetachesAreTold
detaches_told plan moves run past rest m e =
    let g = goes_at plan moves run past rest m e in
    let s = settings_of plan m.port in
    let is : pulls_out m.entry ≡ is_detach m.due.what && is_some m.before.cable =
    ap pulls_out g.0.entry_is ∙ entry_pulls_is s m.before m.due m.answer in
    let due = is_detach m.due.what in
    let plugged = is_some m.before.cable in
    record {
      told = (λ h. (and-left due plugged (sym is ∙ h), and-right due plugged (sym is ∙ h)), λ h. is ∙ both due plugged h.0 h.1);
      detaches = λ h. record_after-detached s m.before m.due m.answer (and-left due plugged (sym is
          ∙ h)) (and-right due plugged (sym is ∙ h));
    }
