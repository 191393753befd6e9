-- A contract is made where a step leads from Transition_Supply to Ready, and nowhere else.
use Rattle.std.proofs.Common.{◌≡◌, ◌≢◌, ◌⊎◌, ℕ, Bool, true, false, not, ◌&&◌, ◌||◌, if◌then◌else◌, List, [], ◌∷◌, Option, None, option_map}
use Rattle.std.proofs.Common.{refl, sym, ap, ◌∙◌, inl, inr}
use Rattle.std.specs.List.{list_all}
use Rattle.std.proofs.lemmas.Bool.{not-true}
use Rattle.pd_objects.specs.declared.contract.Contract.{Contract}
use Rattle.pd_objects.specs.declared.query.Answer.{Answer}
use Rattle.pd_source.specs.declared.kinds.State.{State}
use Rattle.pd_source.specs.declared.kinds.State.TheVariants as state
use Rattle.pd_source.specs.declared.kinds.Heard.{Heard}
use Rattle.pd_source.specs.declared.kinds.Stimulus.{Stimulus}
use Rattle.pd_source.specs.declared.kinds.Stimulus.TheVariants as stimulus
use Rattle.pd_source.specs.declared.kinds.Deed.{Deed}
use Rattle.pd_source.specs.declared.kinds.Deed.TheVariants as deed
use Rattle.pd_source.specs.Record.{SourceSettings, SourceRecord, off}
use Rattle.pd_source.specs.Request.{contract_of}
use Rattle.pd_source.specs.Table.{Row, holds, heard_of, among, match_one, table, anything_else}
use Rattle.pd_source.specs.Acts.{after, all_after}
use Rattle.pd_source.specs.Step.{before_row, row_at, deeds_at, stepped}
use Rattle.pd_source.specs.Sound.{is_transition}
use Rattle.pd_source.specs.Commits.{MakesNoContract, MakesOrNot, ContractsAreMadeAtReady}
use Rattle.pd_source.proofs.Walk.{and-left, and-right, none_of}
use Rattle.pd_source.proofs.SoundRows.{row_of-fit}
use Rattle.pd_source.proofs.Accepting.{IsLeft, is_take, left-all}
use Rattle.pd_source.proofs.Agreed.{with_guard, chosen}

abbrev is_in_ready : State → Bool
is_in_ready t = among t (state.Ready ∷ [])

pub not_ready : (t : State) → is_in_ready t ≡ false → t ≢ state.Ready
not_ready t h = λ e. let k : is_in_ready t ≡ true = ap is_in_ready e in let both : true ≡ false = sym k ∙ h in absurd (cc)

-- ---- acts

abbrev is_commit : Deed → Bool
is_commit deed.Commit = true
is_commit _ = false

abbrev enters_ready : Deed → Bool
enters_ready (deed.Enter t) = is_in_ready t
enters_ready _ = false

-- the acts of the row that makes a contract
abbrev is_making : List Deed → Bool
is_making (deed.Enter t ∷ deed.Commit ∷ deed.HardResetCounterZero ∷ deed.Start timer ∷ []) = is_in_ready t
is_making _ = false

-- the contract stays or falls
abbrev StaysOrFalls : Option Contract → Option Contract → Type 0
StaysOrFalls old new = (new ≡ old) ⊎ (new ≡ None)

contract-after : (s : SourceSettings) (d : Deed) (now : ℕ) (x : Stimulus) (a : Option Answer) (r : SourceRecord) (old : Option Contract) →
    not (is_commit d) ≡ true → StaysOrFalls old r.contract → StaysOrFalls old (after s d now x a r).contract
contract-after s deed.Commit now x a r old n h = absurd (cc)
contract-after s deed.Void now x a r old n h = inr refl
contract-after s _ now x a r old n h = h

contract-all : (s : SourceSettings) (ds : List Deed) (now : ℕ) (x : Stimulus) (a : Option Answer) (r : SourceRecord)
    (old : Option Contract) → none_of is_commit ds ≡ true → StaysOrFalls old r.contract →
    StaysOrFalls old (all_after s ds now x a r).contract
contract-all s [] now x a r old n h = h
contract-all s (d ∷ ds) now x a r old n h =
    contract-all s ds now x a (after s d now x a r) old (and-right (not (is_commit d)) (none_of is_commit ds) n)
    (contract-after s d now x a r old (and-left (not (is_commit d)) (none_of is_commit ds) n) h)

state-after : (s : SourceSettings) (d : Deed) (now : ℕ) (x : Stimulus) (a : Option Answer) (r : SourceRecord) →
    not (enters_ready d) ≡ true → is_in_ready r.state ≡ false → is_in_ready (after s d now x a r).state ≡ false
state-after s (deed.Enter t) now x a r n h = not-true (is_in_ready t) n
state-after s _ now x a r n h = h

state-all : (s : SourceSettings) (ds : List Deed) (now : ℕ) (x : Stimulus) (a : Option Answer) (r : SourceRecord) →
    none_of enters_ready ds ≡ true → is_in_ready r.state ≡ false → is_in_ready (all_after s ds now x a r).state ≡ false
state-all s [] now x a r n h = h
state-all s (d ∷ ds) now x a r n h =
    state-all s ds now x a (after s d now x a r) (and-right (not (enters_ready d)) (none_of enters_ready ds) n)
    (state-after s d now x a r (and-left (not (enters_ready d)) (none_of enters_ready ds) n) h)

is_ready : (t : State) → is_in_ready t ≡ true → t ≡ state.Ready
is_ready state.Ready h = refl
is_ready _ h = absurd (cc)

-- what those acts do
record Made (s : SourceSettings) (old new : SourceRecord) : Type 0 where
  to_ready : new.state ≡ state.Ready
  contract : new.contract ≡ option_map (contract_of s.supplies old.delivered_offer) old.accepted_request
  used : new.accepted_request ≡ None

made-all : (s : SourceSettings) (ds : List Deed) (now : ℕ) (x : Stimulus) (a : Option Answer) (r : SourceRecord) → is_making ds ≡ true →
    Made s r (all_after s ds now x a r)
made-all s (deed.Enter t ∷ deed.Commit ∷ deed.HardResetCounterZero ∷ deed.Start timer ∷ []) now x a r h =
    record { to_ready = is_ready t h; contract = refl; used = refl }
made-all s _ now x a r h = absurd (cc)

-- ---- rows

-- acts without a contract accept nothing and don't lead to Ready, from Transition_Supply; acts with one are from there
abbrev fair : Bool → Bool → Bool → Bool → Bool → Bool
fair transition no_commit making no_take no_ready = if no_commit then not transition || (no_take && no_ready) else transition && making

abbrev are_fair : State → List Deed → Bool
are_fair t ds = fair (is_transition t) (none_of is_commit ds) (is_making ds) (none_of is_take ds) (none_of enters_ready ds)

abbrev is_fair : State → Row → Bool
is_fair t r = with_guard (are_fair t) r

table-fair : (t : State) (h : Heard) → list_all (λ r. is_fair t r || not (among t r.states && match_one h r.cues)) table ≡ true
table-fair state.Off h = refl
table-fair _ h = refl

else-fair : (t : State) → is_fair t anything_else ≡ true
else-fair state.Off = refl
else-fair _ = refl

not-both : (b : Bool) → b ≡ false → b ≡ true → ⊥
not-both b h k = let e : false ≡ true = sym h ∙ k in cc

by_fair : (s : SourceSettings) (r new : SourceRecord) (transition no_commit making no_take no_ready : Bool) →
    is_transition r.state ≡ transition → fair transition no_commit making no_take no_ready ≡ true
    → (no_commit ≡ true → StaysOrFalls r.contract new.contract) → (making ≡ true → Made s r new) →
    (no_take ≡ true → IsLeft r.accepted_request new.accepted_request) →
    (no_ready ≡ true → is_transition r.state ≡ true → new.state ≢ state.Ready)
    → MakesOrNot s r new
unfolding IsLeft
by_fair s r new true false making no_take no_ready from h stays made left away =
    let m = made h in
    inl (record { from_transition = from; to_ready = m.to_ready; contract = m.contract; used = m.used })
by_fair s r new false false making no_take no_ready from h stays made left away = absurd (cc)
by_fair s r new false true making no_take no_ready from h stays made left away = inr (record {
  contract = stays refl;
  not_ready = λ e. absurd (not-both (is_transition r.state) from e);
  none_anew = λ e. absurd (not-both (is_transition r.state) from e);
})
by_fair s r new true true making no_take no_ready from h stays made left away = inr (record {
  contract = stays refl;
  not_ready = away (and-right no_take no_ready h);
  none_anew = λ e. left (and-left no_take no_ready h);
})

away : (t : State) → is_transition t ≡ true → is_in_ready t ≡ false
away state.Ready e = absurd (cc)
away _ e = refl

-- without a step no contract is made, nor where the source is switched off
pub still : (r : SourceRecord) → MakesNoContract r r
still r = record { contract = inl refl; not_ready = λ e. not_ready r.state (away r.state e); none_anew = λ e. inl refl }

pub switched_off : (s : SourceSettings) (r : SourceRecord) → MakesNoContract r (off s)
switched_off s r = record { contract = inr refl; not_ready = λ e. not_ready state.Off refl; none_anew = λ e. inr refl }

-- what comes before the row changes nothing of this
before : (s : SourceSettings) (x : Stimulus) (r new : SourceRecord) → MakesOrNot s (before_row x r) new → MakesOrNot s r new
before s (stimulus.Sent m) r new (inl h) =
    inl (record { from_transition = h.from_transition; to_ready = h.to_ready; contract = h.contract; used = h.used })
before s (stimulus.Sent m) r new (inr h) = inr (record { contract = h.contract; not_ready = h.not_ready; none_anew = h.none_anew })
before s (stimulus.Ended t) r new (inl h) =
    inl (record { from_transition = h.from_transition; to_ready = h.to_ready; contract = h.contract; used = h.used })
before s (stimulus.Ended t) r new (inr h) = inr (record { contract = h.contract; not_ready = h.not_ready; none_anew = h.none_anew })
before s _ r new h = h

pub commits-stepped : ContractsAreMadeAtReady
unfolding stepped IsLeft
commits-stepped s now x a r =
    let z = before_row x r in
    let w = row_at s x a z in
    let ds = deeds_at s x a z in
    let k = chosen (are_fair z.state) (holds s a z) w
    (row_of-fit (is_fair z.state) (holds s a z) z.state (heard_of x) (else-fair z.state) (table-fair z.state (heard_of x))) in
    before s x r (all_after s ds now x a z)
    (by_fair s z (all_after s ds now x a z) (is_transition z.state) (none_of is_commit ds) (is_making ds) (none_of is_take ds)
    (none_of enters_ready ds) refl k
    (λ n. contract-all s ds now x a z z.contract n (inl refl))
    (λ n. made-all s ds now x a z n)
    (λ n. left-all s ds now x a z z.accepted_request n (inl refl))
    (λ n e. not_ready (all_after s ds now x a z).state (state-all s ds now x a z n (away z.state e))))
