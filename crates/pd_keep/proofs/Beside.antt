-- A run beside an older one.
use Rattle.std.proofs.Common.{◌≡◌, ⊎_elim, inl, inr, ℕ, zero, suc, ◌+◌, ◌-◌, ◌<◌, ◌≤◌, List, [], ◌∷◌, ◌++◌}
use Rattle.std.proofs.lemmas.Option.{slice_get_within, slice_get-get_or}
use Rattle.std.proofs.lemmas.Bool.{cases_lt}
use Rattle.std.proofs.Common.{Bool, length, map, take, get_or, All, Contains, Some, None, slice_get, refl, ap, sym, ◌∙◌, subst, arith}
use Rattle.std.proofs.lemmas.List.{same_lists, get_or_default, length-map}
use Rattle.std.proofs.Math.ListN as list_map
use Rattle.std.proofs.lemmas.List.Elements.{Contains-append_left, Contains-append_right}
use Rattle.pd_setup.specs.Settings.{SettingsData}
use Rattle.pd_port.specs.Port.{PortData}
use Rattle.pd_scenario.specs.Plan.{Plan, IsPlan, count, settings_of, no_settings}
use Rattle.pd_run.specs.Live.{LiveData, StandsAfter, port_after}
use Rattle.pd_run.specs.declared.beside.Agreement.TheVariants as agreement
use Rattle.pd_run.specs.Order.{EachAfter}
use Rattle.pd_run.specs.Run.{Move, IsAnswered}
use Rattle.pd_run.specs.UpTo.{before, AgreeIn, AgreeInScripts, AgreeAs, AreAlike, AreAfter, StandsBeside}
use Rattle.pd_run.proofs.Alike.{chained_alike, go_alike, answered_alike, between}
use Rattle.pd_run.proofs.Cut.{All-nil, IsEarlier, starts_up_to, timely_all}
use Rattle.pd_keep.specs.declared.rerun.Common.{Common}
use Rattle.pd_keep.specs.declared.rerun.Standing.{Standing}
use Rattle.pd_keep.specs.declared.rerun.Standing.TheVariants as standing
use Rattle.pd_keep.specs.Fresh.{IsRepeated, AreFresh}
use Rattle.pd_keep.specs.Kept.{KeptData, move_of, IsOwn}
use Rattle.pd_keep.specs.Kept.{RunData}
use Rattle.pd_keep.specs.Spans.{kept_of_spans, moves_of, end_of, begins_at, BeginsAfter, IsKept}
use Rattle.pd_keep.specs.Rerun.{Stands, Costs, ComesTo, BeginsWith, HaveInCommon, IsShared, GoesOnWith}
use Rattle.pd_keep.specs.Rerun.{AreKnown, AreStanding, BeginsWithMarked, IsOld, IsSoFar, AreOver, AreThose, IsDone}
use Rattle.pd_keep.specs.Kept.{left_by}
use Rattle.pd_keep.specs.Places.{StandAs}
use Rattle.pd_keep.proofs.Parted.{in_span, moves_push}
use Rattle.pd_keep.proofs.Places.{left_after}

-- What moves cost.

pub fresh-append : (old_plan : Plan) (old : List Move) (plan : Plan) (xs ys : List Move) (n k : ℕ) → AreFresh old_plan old plan xs n
    → AreFresh old_plan old plan ys k → AreFresh old_plan old plan (xs ++ ys) (n + k)
fresh-append old_plan old plan [] ys n k h f = subst (λ i. AreFresh old_plan old plan ys i) (omega arith) f
fresh-append old_plan old plan (x ∷ xs) ys n k h f =
    ⊎_elim
    (λ (w : IsRepeated old_plan old plan x × AreFresh old_plan old plan xs n). inl
    (w.0, fresh-append old_plan old plan xs ys n k w.1 f))
    (λ (w : (IsRepeated old_plan old plan x → ⊥) × ((i : ℕ) × (n ≡ i + 1) × AreFresh old_plan old plan xs i)). inr (
      w.0,
      (w.1.0 + k, (let e = w.1.1 in omega arith), fresh-append old_plan old plan xs ys w.1.0 k w.1.2 f),
    ))
    h

pub none_fresh : (old_plan : Plan) (old : List Move) (plan : Plan) (moves : List Move)
    → ((m : Move) → Contains moves m → IsRepeated old_plan old plan m) → AreFresh old_plan old plan moves 0
none_fresh old_plan old plan [] h = refl
none_fresh old_plan old plan (m ∷ ms) h =
    inl (h m (zero, (omega arith), refl), none_fresh old_plan old plan ms (λ x c. h x (suc c.0, (let e = c.1 in omega arith), c.2)))

pub costs-append : (old_plan : Plan) (old : List Move) (plan : Plan) (xs ys : List Move) (a b c : ℕ) → Costs old_plan old plan xs a b
    → Costs old_plan old plan ys b c → Costs old_plan old plan (xs ++ ys) a c
costs-append old_plan old plan xs ys a b c h k =
    (h.0 + k.0, fresh-append old_plan old plan xs ys h.0 k.0 h.1 k.1, (let e = h.2 in let f = k.2 in omega arith))

-- Where ports stand.

same_settings : (a b : Plan) → count a ≡ count b → ((p : ℕ) → p < count a → settings_of a p ≡ settings_of b p) → a.settings ≡ b.settings
same_settings a b n h =
    same_lists a.settings b.settings n
    (λ k d lt. get_or_default a.settings k d no_settings lt ∙ h k lt ∙ sym (get_or_default b.settings k d no_settings (omega (arith, n))))

-- ports that stand where a span of the old run begins stand alike
alike_from : (n : ℕ) (a : Plan) (moves : List Move) (b : Plan) (others : List Move) (s : RunData) (live : LiveData) → IsPlan n a
    → IsPlan n b → BeginsAfter n a moves s → BeginsWith n s live → StandsAfter b others live → AreAlike a moves b others
alike_from n a moves b others s live is_a is_b begun begins stands =
    let counts : count a ≡ count b = is_a.settings_count ∙ sym is_b.settings_count in
    let at : (p : ℕ) → p < count a → port_after a moves p ≡ port_after b others p =
    λ p lt. sym (begun.ports p (omega (arith, is_a.settings_count))) ∙ (begins p (omega (arith, is_a.settings_count))).1
    ∙ stands.ports_are p (omega arith) in
    record {
      settings = same_settings a b counts (λ p lt. ap (λ (x : PortData). x.settings) (at p lt));
      records = λ p lt. ap (λ (x : PortData). x.port_record) (at p lt);
    }

-- and where they stand alike a span begins with the ports of both
pub begins_both : (n : ℕ) (a : Plan) (moves : List Move) (b : Plan) (others : List Move) (s : RunData) → IsPlan n a
    → AreAlike a moves b others → BeginsAfter n a moves s → BeginsAfter n b others s
begins_both n a moves b others s is alike begun = record {
  count = begun.count;
  ports = λ p lt.
      let k : p < count a = omega (arith, is.settings_count) in
      let set = ap (λ (l : List SettingsData). get_or l p no_settings) alike.settings in
      let rec = alike.records p k in
      begun.ports p lt ∙ (λ i. record { settings = set i; port_record = rec i });
}

-- the ports of a run that comes to a span of the old run's stand alike, where it is seen that they do
pub comes_alike : (n : ℕ) (old : Plan) (old_spans : List RunData) (span : RunData) (plan : Plan) (spans : List RunData) (at : ℕ)
    (common : Common) (st : Standing n) → (c : ComesTo n old old_spans span plan spans at common st) → AreStanding n st span
    → AreAlike old (before at (moves_of old_spans)) plan (moves_of spans)
comes_alike n old old_spans span plan spans at common standing.Alike c h = c.stands.alike
comes_alike n old old_spans span plan spans at common (standing.Apart live alike) c h =
    let w = in_span n old old_spans c.place span c.kept c.there in
    let begun : BeginsAfter n old (before at (moves_of old_spans)) span =
    subst (λ t. BeginsAfter n old (before t (moves_of old_spans)) span) (sym c.at_is) w.begun in
    alike_from n old (before at (moves_of old_spans)) plan (moves_of spans) span live c.kept.is_plan c.far.is_plan begun h c.stands.stands

own_too : (a b : Plan) (k : KeptData) → a.settings ≡ b.settings → IsOwn a k → IsOwn b k
own_too a b k set h = record {
  made = h.made;
  from_one = h.from_one;
  settings = h.settings ∙ ap (λ (l : List SettingsData). get_or l (k.port - 1) no_settings) set;
}

-- a span at whose beginning the ports stand alike, and in which both plans have the same scripts, stands beside the run
stands_beside : (n : ℕ) (old : Plan) (old_spans : List RunData) (span : RunData) (plan : Plan) (spans : List RunData) (at : ℕ)
    (common : Common) (st : Standing n) → ComesTo n old old_spans span plan spans at common st → AreStanding n st span
    → AgreeInScripts old plan at span.to
    → StandsBeside old plan (moves_of old_spans) (moves_of spans) (map move_of span.moves) at span.to
stands_beside n old old_spans span plan spans at common st c standing scripts =
    let to = span.to in
    let all : List Move = moves_of old_spans in
    let mid : List Move = map move_of span.moves in
    let w = in_span n old old_spans c.place span c.kept c.there in
    let needed = c.kept.reach.needed c.place (slice_get_within old_spans c.place span c.there) in
    let e = c.at_is in
    let r = w.rising in
    record {
      run = c.kept.safe.run;
      up = c.far.up;
      alike = comes_alike n old old_spans span plan spans at common st c standing;
      scripts = scripts;
      rising = omega (arith, e, r);
      soon = omega (arith, e, needed);
      soon_too = c.soon;
      is_between = subst (λ t. before to all ≡ before t all ++ mid) (sym c.at_is) w.is_next;
    }

-- the run goes on with its moves
goes_with : (n : ℕ) (old : Plan) (old_spans : List RunData) (span : RunData) (plan : Plan) (spans : List RunData) (at : ℕ)
    (common : Common) (st : Standing n) → ComesTo n old old_spans span plan spans at common st
    → StandsBeside old plan (moves_of old_spans) (moves_of spans) (map move_of span.moves) at span.to
    → GoesOnWith n plan (moves_of spans) span
goes_with n old old_spans span plan spans at common st c s =
    let all : List Move = moves_of old_spans in
    let w = in_span n old old_spans c.place span c.kept c.there in
    let begun : BeginsAfter n old (before at all) span =
    subst (λ t. BeginsAfter n old (before t all) span) (sym c.at_is) w.begun in
    record {
      begun = begins_both n old (before at all) plan (moves_of spans) span c.kept.is_plan s.alike begun;
      own = λ k d lt. own_too old plan _ s.alike.settings (w.own k d lt);
      chained = chained_alike old plan all (moves_of spans) (map move_of span.moves) at span.to s;
    }

-- and shares it where its moves have the answers that the plan's budget gives
shares : (n : ℕ) (old : Plan) (old_spans : List RunData) (span : RunData) (plan : Plan) (spans : List RunData) (at : ℕ)
    (common : Common) (st : Standing n) → ComesTo n old old_spans span plan spans at common st
    → StandsBeside old plan (moves_of old_spans) (moves_of spans) (map move_of span.moves) at span.to
    → EachAfter (IsAnswered plan) (moves_of spans) (map move_of span.moves)
    → IsShared n old old_spans span plan (moves_of spans) at
shares n old old_spans span plan spans at common st c s answered =
    let to = span.to in
    let moves : List Move = moves_of spans in
    let all : List Move = moves_of old_spans in
    let mid : List Move = map move_of span.moves in
    let with = goes_with n old old_spans span plan spans at common st c s in
    let parts = between old all mid at to s.run s.is_between in
    let on = go_alike old plan all moves mid at to s answered in
    let e = c.at_is in
    let r = (in_span n old old_spans c.place span c.kept c.there).rising in
    record {
      next = record {
        rising = omega (arith, e, r);
        begun = with.begun;
        own = with.own;
        later = λ k d lt. (parts.inside k d lt).0;
        up = on.0;
      };
      stands = record {
        kept = c.kept;
        alike = on.1;
        ends = ⊎_elim (λ (e : old.end ≡ plan.end). inl e) (λ (e : (to ≤ old.end) × (to ≤ plan.end)). inr e.0) s.scripts.ends;
      };
      fresh = none_fresh old all plan mid
          (λ m h. (
            m,
            subst (λ (l : List Move). Contains l m) (sym parts.whole)
                (Contains-append_left (before at all ++ mid) parts.rest m (Contains-append_right (before at all) mid m h)),
            record {
              port = refl;
              before = refl;
              settings = ap (λ (l : List SettingsData). get_or l m.port no_settings) s.alike.settings;
              due = refl;
              answer = refl;
            },
          ));
    }

-- where both plans ask the same, they have them
pub shares_both : (n : ℕ) (old : Plan) (old_spans : List RunData) (span : RunData) (plan : Plan) (spans : List RunData) (at : ℕ)
    (common : Common) (st : Standing n) → common.agree ≡ agreement.Both → ComesTo n old old_spans span plan spans at common st
    → AreStanding n st span
    → IsShared n old old_spans span plan (moves_of spans) at
shares_both n old old_spans span plan spans at common st is c standing =
    let both : AgreeIn old plan at span.to = subst (λ g. AgreeAs g old plan at span.to) is c.in_common.agrees in
    let s = stands_beside n old old_spans span plan spans at common st c standing both.scripts in
    shares n old old_spans span plan spans at common st c s
    (answered_alike old plan (moves_of old_spans) (moves_of spans) (map move_of span.moves) at span.to s both)

-- where they have the same scripts, the run goes on with the moves, and shares the span if these are answered
pub goes_on_with : (n : ℕ) (old : Plan) (old_spans : List RunData) (span : RunData) (plan : Plan) (spans : List RunData) (at : ℕ)
    (common : Common) (st : Standing n) → common.agree ≡ agreement.Scripts → ComesTo n old old_spans span plan spans at common st
    → AreStanding n st span
    → GoesOnWith n plan (moves_of spans) span
goes_on_with n old old_spans span plan spans at common st is c standing =
    goes_with n old old_spans span plan spans at common st c
    (stands_beside n old old_spans span plan spans at common st c standing
    (subst (λ g. AgreeAs g old plan at span.to) is c.in_common.agrees).0)

pub shares_answered : (n : ℕ) (old : Plan) (old_spans : List RunData) (span : RunData) (plan : Plan) (spans : List RunData) (at : ℕ)
    (common : Common) (st : Standing n) → common.agree ≡ agreement.Scripts → ComesTo n old old_spans span plan spans at common st
    → AreStanding n st span
    → ((past : List Move) → GoesOnWith n plan past span → EachAfter (IsAnswered plan) past (map move_of span.moves))
    → IsShared n old old_spans span plan (moves_of spans) at
shares_answered n old old_spans span plan spans at common st is c standing answered =
    let s = stands_beside n old old_spans span plan spans at common st c standing
    (subst (λ g. AgreeAs g old plan at span.to) is c.in_common.agrees).0 in
    shares n old old_spans span plan spans at common st c s
    (answered (moves_of spans) (goes_with n old old_spans span plan spans at common st c s))

-- the ports at the beginning of a span are where the run stands, where they stand alike
pub resumes : (n : ℕ) (old : Plan) (old_spans : List RunData) (span : RunData) (plan : Plan) (spans : List RunData) (at : ℕ)
    (common : Common) → ComesTo n old old_spans span plan spans at common standing.Alike
    → (length span.first ≡ n) × AreAfter plan (moves_of spans) span.first
resumes n old old_spans span plan spans at common c =
    let w = in_span n old old_spans c.place span c.kept c.there in
    let begun : BeginsAfter n old (before at (moves_of old_spans)) span =
    subst (λ t. BeginsAfter n old (before t (moves_of old_spans)) span) (sym c.at_is) w.begun in
    let both = begins_both n old (before at (moves_of old_spans)) plan (moves_of spans) span c.kept.is_plan c.stands.alike begun in
    (both.count, λ p lt. both.ports p (omega (arith, c.far.is_plan.settings_count)))

-- What is known of ports that stand for themselves.

-- the span of the old run begins with those that are marked
pub known_at : (n : ℕ) (old : Plan) (old_spans : List RunData) (span : RunData) (plan : Plan) (spans : List RunData) (at : ℕ)
    (common : Common) (st : Standing n) → ComesTo n old old_spans span plan spans at common st → AreKnown n st span
known_at n old old_spans span plan spans at common standing.Alike c = tt
known_at n old old_spans span plan spans at common (standing.Apart live alike) c = λ p lt yes.
    let w = in_span n old old_spans c.place span c.kept c.there in
    let begun : BeginsAfter n old (before at (moves_of old_spans)) span =
    subst (λ t. BeginsAfter n old (before t (moves_of old_spans)) span) (sym c.at_is) w.begun in
    let many = begun.count in
    (omega (arith, many, lt), begun.ports p lt ∙ sym (c.stands.known p lt yes))

-- it begins with all where they are taken up from it
pub known_all : (n : ℕ) (old : Plan) (old_spans : List RunData) (span : RunData) (plan : Plan) (spans : List RunData) (at : ℕ)
    (common : Common) (live : LiveData) (alike : List Bool) → ComesTo n old old_spans span plan spans at common standing.Alike
    → StandsAfter plan (moves_of spans) live → BeginsWithMarked n span live alike
known_all n old old_spans span plan spans at common live alike c stands = λ p lt yes.
    let r = resumes n old old_spans span plan spans at common c in
    let many = r.0 in
    let known : p < count plan = omega (arith, c.far.is_plan.settings_count) in
    (omega (arith, many, lt), r.1 p known ∙ sym (stands.ports_are p known))

-- ports that stand as the span leaves them stand as the old run's at its end
pub known_then : (n : ℕ) (old : Plan) (old_spans : List RunData) (span : RunData) (plan : Plan) (spans : List RunData) (at : ℕ)
    (common : Common) (st : Standing n) (live : LiveData) (alike : List Bool) → ComesTo n old old_spans span plan spans at common st
    → StandAs n alike live (left_by span.first span.moves)
    → StandAs n alike live (port_after old (before span.to (moves_of old_spans)))
known_then n old old_spans span plan spans at common st live alike c h = λ p lt yes.
    let w = in_span n old old_spans c.place span c.kept c.there in
    let past : List Move = before (begins_at old_spans c.place) (moves_of old_spans) in
    h p lt yes ∙ left_after n old past span p w.begun w.own lt ∙ ap (λ (l : List Move). port_after old l p) (sym w.is_next)

-- Where the old run has ended.

pub over_from : (n : ℕ) (old : Plan) (old_spans : List RunData) (at : ℕ) → IsOld n old old_spans → end_of 0 old_spans ≤ at
    → AreOver old_spans at
over_from n old old_spans at (inl none) le =
    subst (λ (l : List RunData). AreOver l at) (sym none) (All-nil (IsEarlier at))
over_from n old old_spans at (inr kept) le =
    let past = kept.reach.beyond in
    timely_all old [] (moves_of old_spans) at kept.safe.run.timely (omega arith)

pub own_old : (n : ℕ) (old : Plan) (old_spans : List RunData) → IsOld n old old_spans → All (IsOwn old) (kept_of_spans old_spans)
own_old n old old_spans (inl none) = subst (λ (l : List RunData). All (IsOwn old) (kept_of_spans l)) (sym none) (All-nil (IsOwn old))
own_old n old old_spans (inr kept) = kept.own

pub over_those : (spans : List RunData) (at to : ℕ) → AreOver spans at → AreThose (kept_of_spans spans) at to []
over_those spans at to over = λ k ge lt. (
  λ h.
      let kept : List KeptData = kept_of_spans spans in
      let is : get_or (map move_of kept) h.0 (move_of k) ≡ move_of k = list_map.get_or-map move_of kept h.0 k ∙ ap move_of h.2 in
      let time : (get_or (map move_of kept) h.0 (move_of k)).due.time < at =
      over h.0 (move_of k) (omega (arith, length-map kept move_of, h.1)) in
      let same = ap (λ (m : Move). m.due.time) is in
      absurd (omega arith),
  λ h. absurd (let e = h.1 in omega arith),
)

-- where the old run has no span any more, ports that stand as its own are at the end
pub done_alike : (n : ℕ) (old : Plan) (old_spans : List RunData) (plan : Plan) (moves : List Move) (at : ℕ) (st : Standing n)
    → Stands n old old_spans plan moves at st → end_of 0 old_spans ≤ at → IsDone n plan at st
done_alike n old old_spans plan moves at standing.Alike s le =
    let past = s.kept.reach.beyond in
    ⊎_elim (λ (e : old.end ≡ plan.end). omega arith) (λ (e : at ≤ old.end). absurd (omega arith)) s.ends
done_alike n old old_spans plan moves at (standing.Apart live alike) s le = tt

-- the cost with one more span
pub next_costs : (old : Plan) (old_moves : List Move) (plan : Plan) (spans : List RunData) (s : RunData) (first a b : ℕ)
    → Costs old old_moves plan (moves_of spans) first a → Costs old old_moves plan (map move_of s.moves) a b
    → Costs old old_moves plan (moves_of (spans ++ s ∷ [])) first b
next_costs old old_moves plan spans s first a b h k =
    subst (λ (l : List Move). Costs old old_moves plan l first b) (sym (moves_push spans s))
    (costs-append old old_moves plan (moves_of spans) (map move_of s.moves) first a b h k)

-- a run that begins
pub so_far_none : (n : ℕ) (plan : Plan) → IsPlan n plan → IsSoFar n plan [] 0
so_far_none n plan is = record {
  is_plan = is;
  up = starts_up_to plan 0 refl;
  own = All-nil (IsOwn plan);
  spanned = record {
    parted = λ k le. none k;
    begun = λ k s e. absurd (let h : None ≡ Some s = e in cc);
    rising = λ k s e. absurd (let h : None ≡ Some s = e in cc);
  };
  at_is = refl;
  within = λ k le. begins k;
  needed = λ k lt. absurd (omega arith);
} where
  none : (k : ℕ) → before (begins_at [] k) (moves_of []) ≡ moves_of (take k [])
  none zero = refl
  none (suc k) = refl

  begins : (k : ℕ) → begins_at [] k ≤ 0
  begins zero = omega arith
  begins (suc k) = omega arith

-- Spans of the old run.

pub is_kept_of : (n : ℕ) (old : Plan) (old_spans : List RunData) (k : ℕ) (s : RunData) → IsOld n old old_spans
    → slice_get old_spans k ≡ Some s → IsKept n old old_spans
is_kept_of n old old_spans k s (inl none) e =
    absurd (let h : None ≡ Some s = sym (ap (λ (l : List RunData). slice_get l k) none) ∙ e in cc)
is_kept_of n old old_spans k s (inr kept) e = kept

pub past_all : (spans : List RunData) (k : ℕ) → slice_get spans k ≡ None → length spans ≤ k
past_all spans k e =
    ⊎_elim
    (λ (inside : k < length spans).
    let there = slice_get-get_or spans k (record { to = 0; first = []; moves = [] }) inside in
    absurd (let h : None ≡ Some _ = sym e ∙ there in cc))
    (λ (past : length spans ≤ k). past) (cases_lt k (length spans))

-- a run that comes to the beginning of an old run's span
pub comes_to : (n : ℕ) (old : Plan) (old_spans spans : List RunData) (s : RunData) (plan : Plan) (k at from : ℕ) (common : Common)
    (st : Standing n) → IsOld n old old_spans → IsSoFar n plan spans at → Stands n old old_spans plan (moves_of spans) at st
    → at ≡ begins_at old_spans k → slice_get old_spans k ≡ Some s → at ≤ plan.end → from ≡ at
    → HaveInCommon common old plan from s.to → ComesTo n old old_spans s plan spans at common st
comes_to n old old_spans spans s plan k at from common st is_old far stands at_is there soon now in_common = record {
  place = k;
  kept = is_kept_of n old old_spans k s is_old there;
  there = there;
  at_is = at_is;
  far = far;
  soon = soon;
  stands = stands;
  in_common = subst (λ t. HaveInCommon common old plan t s.to) now in_common;
}

-- all of a list from a time on are so from a later time on
pub those_later : (all some : List KeptData) (from at to : ℕ) → from ≤ at → AreThose all from to some → AreThose all at to some
those_later all some from at to le those = λ k ge lt. those k (omega arith) lt
