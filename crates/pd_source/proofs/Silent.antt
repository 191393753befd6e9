-- A source that sheds holds nothing, to the end of that instant.
use Rattle.std.proofs.Common.{◌≡◌, ℕ, ◌<◌, inl, inr, Bool, true, false, not, ◌&&◌, ◌||◌, if◌then◌else◌, List, [], ◌∷◌, Option, Some, None}
use Rattle.std.proofs.Common.{refl, sym, ap, ◌∙◌, subst, arith}
use Rattle.std.specs.List.{list_all}
use Rattle.pd_timers.specs.declared.Timer.{Timer}
use Rattle.pd_timers.specs.Deadlines.{deadline, started, stopped, idle}
use Rattle.pd_timers.proofs.LaterLemmas.{deadline-idle, SetsLater-started, SetsLater-stopped}
use Rattle.pd_objects.specs.declared.query.Answer.{Answer}
use Rattle.pd_identity.specs.declared.identity.Reply.{Reply}
use Rattle.pd_identity.specs.declared.identity.Reply.TheVariants as reply
use Rattle.pd_identity.specs.Identity.{reply_of}
use Rattle.pd_source.specs.declared.kinds.State.{State}
use Rattle.pd_source.specs.declared.kinds.State.TheVariants as state
use Rattle.pd_source.specs.declared.kinds.Stimulus.{Stimulus}
use Rattle.pd_source.specs.declared.kinds.Stimulus.TheVariants as stimulus
use Rattle.pd_source.specs.declared.kinds.Heard.{Heard}
use Rattle.pd_source.specs.declared.kinds.Heard.TheVariants as heard
use Rattle.pd_source.specs.declared.kinds.Deed.{Deed}
use Rattle.pd_source.specs.declared.kinds.Deed.TheVariants as deed
use Rattle.pd_source.specs.Record.{SourceSettings, SourceRecord, off}
use Rattle.pd_source.specs.Table.{Guard, HardResetsLeft, among, match_one, table, row_of, hr, deeds_of_row, holds, heard_of, heard_reply}
use Rattle.pd_source.specs.Acts.{after, all_after}
use Rattle.pd_source.specs.Step.{before_row, deeds_at, stepped}
use Rattle.pd_source.specs.Rest.{IsEmptyAtRest}
use Rattle.pd_source.specs.Silent.{is_silent, AllLater, IsSilentAt, EndsNow}
use Rattle.pd_source.proofs.Walk.{and-left, and-right, none_of, none_of_row, none_of-deeds}
use Rattle.pd_source.proofs.Answered.{state-before}
use Rattle.pd_source.proofs.SoundRows.{row_of-fit}
use Rattle.pd_source.proofs.Rests.{shed-deeds, off-rests}

no : {A : Type 0} → false ≡ true → A
no h = absurd (cc)

later-idle : (now : ℕ) → AllLater now idle
later-idle now u at h = let n = deadline-idle u in cc

later-started : (now : ℕ) (d : List (Option ℕ)) (t : Timer) → AllLater now d → AllLater now (started d now t)
later-started now d t h u at e = elim (SetsLater-started now d t u at e) [ inl g ↦ h u at g | inr l ↦ l ]

later-stopped : (now : ℕ) (d : List (Option ℕ)) (t : Timer) → AllLater now d → AllLater now (stopped d t)
later-stopped now d t h u at e = elim (SetsLater-stopped now d t u at e) [ inl g ↦ h u at g | inr l ↦ l ]

-- whether an act ends the silence, or offers, accepts or agrees on anything
abbrev speaks : Deed → Bool
speaks (deed.Enter t) = not (is_silent t)
speaks deed.Draft = true
speaks deed.Take = true
speaks deed.Commit = true
speaks _ = false

twice : (b : Bool) → not (not b) ≡ true → b ≡ true
twice true h = refl
twice false h = no h

silent-after : (s : SourceSettings) (d : Deed) (now : ℕ) (x : Stimulus) (a : Option Answer) (r : SourceRecord) → not (speaks d) ≡ true →
    IsSilentAt now r → IsSilentAt now (after s d now x a r)
silent-after s (deed.Enter t) now x a r k h = record {
  silent = twice (is_silent t) k;
  empty = record { draft = h.empty.draft; accepted = h.empty.accepted; contract = h.empty.contract };
  waits = λ e. later-idle now;
}
silent-after s deed.EnterAgain now x a r k h = record {
  silent = h.silent;
  empty = record { draft = h.empty.draft; accepted = h.empty.accepted; contract = h.empty.contract };
  waits = λ e. later-idle now;
}
silent-after s (deed.Start t) now x a r k h = record {
  silent = h.silent;
  empty = record { draft = h.empty.draft; accepted = h.empty.accepted; contract = h.empty.contract };
  waits = λ e. later-started now r.deadlines t (h.waits e);
}
silent-after s deed.Draft now x a r k h = no k
silent-after s deed.Take now x a r k h = no k
silent-after s deed.Commit now x a r k h = no k
silent-after s deed.Close now x a r k h = record {
  silent = h.silent;
  empty = record { draft = refl; accepted = refl; contract = h.empty.contract };
  waits = h.waits;
}
silent-after s deed.Void now x a r k h = record {
  silent = h.silent;
  empty = record { draft = refl; accepted = refl; contract = refl };
  waits = h.waits;
}
silent-after s _ now x a r k h = record {
  silent = h.silent;
  empty = record { draft = h.empty.draft; accepted = h.empty.accepted; contract = h.empty.contract };
  waits = h.waits;
}

silent-all : (s : SourceSettings) (ds : List Deed) (now : ℕ) (x : Stimulus) (a : Option Answer) (r : SourceRecord) →
    none_of speaks ds ≡ true → IsSilentAt now r → IsSilentAt now (all_after s ds now x a r)
silent-all s [] now x a r k h = h
silent-all s (d ∷ ds) now x a r k h =
    silent-all s ds now x a (after s d now x a r) (and-right (not (speaks d)) (none_of speaks ds) k)
    (silent-after s d now x a r (and-left (not (speaks d)) (none_of speaks ds) k) h)

-- whether a timer ends while the source waits for its power to be turned on: from the other silent states no row leads out
abbrev is_timer : Heard → Bool
is_timer (heard.Ended u) = true
is_timer h = false

abbrev turns_on : State → Heard → Bool
turns_on t h = is_timer h && among t (state.Startup ∷ [])

table-silent : (t : State) (h : Heard) → is_silent t ≡ true → turns_on t h ≡ false →
    list_all (λ r. none_of_row speaks r || not (among t r.states && match_one h r.cues)) table ≡ true
table-silent state.Startup (heard.Ended u) k e = no (sym e)
table-silent state.Startup h k e = refl
table-silent state.Off h k e = refl
table-silent state.HardReset h k e = refl
table-silent state.HardResetReceived h k e = refl
table-silent state.TransitionToDefault h k e = refl
table-silent state.Disabled h k e = refl
table-silent _ h k e = no k

row-silent : (g : Guard → Bool) (t : State) (h : Heard) → is_silent t ≡ true → turns_on t h ≡ false →
    none_of speaks (deeds_of_row g (row_of g t h)) ≡ true
row-silent g t h k e = none_of-deeds speaks g (row_of g t h) (row_of-fit (none_of_row speaks) g t h refl (table-silent t h k e))

replies : (r : Reply) → is_timer (heard_reply r) ≡ false
replies reply.Ack = refl
replies reply.Nak = refl
replies reply.Busy = refl

-- no timer ends at this time while the source waits for its power
not-ended : (now : ℕ) (u : Timer) (r : SourceRecord) → deadline r.deadlines u ≡ Some now → IsSilentAt now r →
    among r.state (state.Startup ∷ []) ≡ false
not-ended now u r due h = by_state r.state refl where
  by_state : (t : State) → r.state ≡ t → among t (state.Startup ∷ []) ≡ false
  by_state state.Startup e = let l : now < now = h.waits e u now due in absurd (omega arith)
  by_state _ e = refl

not-turning : (now : ℕ) (x : Stimulus) (r : SourceRecord) → EndsNow now x r → IsSilentAt now r → turns_on r.state (heard_of x) ≡ false
not-turning now (stimulus.Ended u) r due h = not-ended now u r due h
not-turning now (stimulus.Identity objects) r due h =
    ap (λ (b : Bool). b && among r.state (state.Startup ∷ [])) (replies (reply_of objects.items))
not-turning now x r due h = refl

silent-before : (now : ℕ) (x : Stimulus) (r : SourceRecord) → IsSilentAt now r → IsSilentAt now (before_row x r)
silent-before now (stimulus.Sent m) r h = record {
  silent = h.silent;
  empty = record { draft = h.empty.draft; accepted = h.empty.accepted; contract = h.empty.contract };
  waits = h.waits;
}
silent-before now (stimulus.Ended t) r h = record {
  silent = h.silent;
  empty = record { draft = h.empty.draft; accepted = h.empty.accepted; contract = h.empty.contract };
  waits = λ e. later-stopped now r.deadlines t (h.waits e);
}
silent-before now _ r h = h

-- a silent source stays silent at its time
pub silent-stepped : (s : SourceSettings) (now : ℕ) (x : Stimulus) (a : Option Answer) (r : SourceRecord) → EndsNow now x r →
    IsSilentAt now r → IsSilentAt now (stepped s now x a r)
unfolding stepped
silent-stepped s now x a r due h =
    let z = before_row x r in
    let i = silent-before now x r h in
    let e : turns_on z.state (heard_of x) ≡ false = ap (λ (t : State). turns_on t (heard_of x)) (state-before x r)
    ∙ not-turning now x r due h in
    silent-all s (deeds_at s x a z) now x a z (row-silent (holds s a z) z.state (heard_of x) i.silent e) i

pub silent-off : (s : SourceSettings) (now : ℕ) → IsSilentAt now (off s)
silent-off s now = record { silent = refl; empty = record { draft = refl; accepted = refl; contract = refl }; waits = λ e. later-idle now }

off-silent : (t : State) → among t (state.Off ∷ state.Disabled ∷ []) ≡ true → is_silent t ≡ true
off-silent state.Off e = refl
off-silent state.Disabled e = refl
off-silent _ e = no e

-- a source that is off or disabled is silent
silent-resting : (now : ℕ) (r : SourceRecord) → IsEmptyAtRest r → among r.state (state.Off ∷ state.Disabled ∷ []) ≡ true → IsSilentAt now r
silent-resting now r h k = record {
  silent = off-silent r.state k;
  empty = h (off-rests r.state k);
  waits = λ e. no (ap (λ (t : State). among t (state.Off ∷ state.Disabled ∷ [])) (sym e) ∙ k);
}

shed-silent : (s : SourceSettings) (now : ℕ) (r : SourceRecord) (b c : Bool) → (b ≡ true → IsSilentAt now r) →
    IsSilentAt now (all_after s (if b then [] else hr c) now stimulus.Shed None r)
shed-silent s now r true c h = h refl
shed-silent s now r false true h =
    record { silent = refl; empty = record { draft = refl; accepted = refl; contract = refl }; waits = λ e. later-idle now }
shed-silent s now r false false h =
    record { silent = refl; empty = record { draft = refl; accepted = refl; contract = refl }; waits = λ e. later-idle now }

-- a source that sheds is silent
pub silent-shed : (s : SourceSettings) (now : ℕ) (r : SourceRecord) → IsEmptyAtRest r → IsSilentAt now (stepped s now stimulus.Shed None r)
unfolding stepped
silent-shed s now r h =
    subst (λ (ds : List Deed). IsSilentAt now (all_after s ds now stimulus.Shed None r)) (sym (shed-deeds s r r.state))
    (shed-silent s now r (among r.state (state.Off ∷ state.Disabled ∷ [])) (holds s None r HardResetsLeft) (λ e. silent-resting now r h e))
