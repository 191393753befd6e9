-- The lines of the edits that stand lead from the first scenario to the one that stands.
use Rattle.std.proofs.Common.{◌≡◌, ◌≢◌, ◌≤◌, ℕ, zero, suc, Bool, true, false, List, [], ◌∷◌, ◌++◌, length, map, Option, Some, None}
use Rattle.std.proofs.Common.{Result, Ok, Err, inl, inr, refl, sym, ap, ◌∙◌, arith}
use Rattle.std.specs.Prelude.{nat_lt}
use Rattle.std.specs.Str.Lines.{lines}
use Rattle.std.proofs.lemmas.Bool.{ltb-true}
use Rattle.std.proofs.lemmas.List.{length-append}
use Rattle.pd_scenario.specs.Scenarios.{ScenarioData}
use Rattle.pd_edit.specs.Refusals.{edited}
use Rattle.pd_edit_lines.specs.Grammar.{line_of}
use Rattle.pd_edit_lines.specs.declared.line.Line.{Line}
use Rattle.pd_edit_lines.specs.declared.line.Line.TheVariants as lines_read
use Rattle.pd_edit_lines.specs.declared.fault.EditFault.{EditFault}
use Rattle.pd_bench.specs.declared.tally.Outcome.{Outcome}
use Rattle.pd_bench.specs.declared.tally.Outcome.TheVariants.{Skipped, Accepted, Refused, Shown}
use Rattle.pd_bench.specs.Session.{Reply, EditReply, ShowReply, can_show, ok_text}
use Rattle.pd_desk.specs.declared.colon.Colon.{Colon}
use Rattle.pd_desk.specs.declared.colon.Colon.TheVariants as colon
use Rattle.pd_desk.specs.declared.colon.Saved.TheVariants as saved
use Rattle.pd_desk.specs.declared.colon.Saved.{Saved}
use Rattle.pd_desk.specs.declared.own.OwnFault.{OwnFault}
use Rattle.pd_desk.specs.Commands.{is_colon, colon_of}
use Rattle.pd_desk.specs.Desk.{Back, Becomes, Declines, DeskReplies, Fails, Loads, RefusesLines, ReplyBy, Saves, Standing, StepsBack}
use Rattle.pd_desk.specs.Desk.{StepsForward, TakesAll, TakesIn, Tells, WithShelf, as_saved, at_first, file_in, step_of}
use Rattle.pd_desk.specs.History.{Lead, Makes, past_with, StepData}
use Rattle.pd_desk.specs.Laws.{EditsLead}
use Rattle.pd_desk.specs.Shelf.{Shelved}

-- 1. Lines that lead somewhere

Lead-snoc : (n : ℕ) (a : ScenarioData) (ls : List (List ℕ)) (b : ScenarioData) (line : List ℕ) (c : ScenarioData) → Lead n a ls b →
    Makes n b line c → Lead n a (ls ++ line ∷ []) c
Lead-snoc n a [] b line c same makes = (c, rw same at makes, refl)
Lead-snoc n a (first ∷ more) b line c (next, one, others) makes = (next, one, Lead-snoc n next more b line c others makes)

-- edits that were made one after the other, each with the scenario before it
abbrev Path : ℕ → ScenarioData → List StepData → ScenarioData → Type 0
Path n a [] b = b ≡ a
Path n a (step ∷ more) b = (step.scenario ≡ a) × (next : ScenarioData) × Makes n a step.line next × Path n next more b

Path-snoc : (n : ℕ) (a : ScenarioData) (steps : List StepData) (b : ScenarioData) (step : StepData) (c : ScenarioData) → step.scenario ≡ b →
    Path n a steps b → Makes n b step.line c → Path n a (steps ++ step ∷ []) c
Path-snoc n a [] b step c is same makes = (is ∙ same, c, rw same at makes, refl)
Path-snoc n a (first ∷ more) b step c is (first_is, next, one, others) makes =
    (first_is, next, one, Path-snoc n next more b step c is others makes)

-- without the last
record LastStep (n : ℕ) (a : ScenarioData) (front : List StepData) (step : StepData) (b : ScenarioData) : Type 0 where
  pub path : Path n a front step.scenario
  pub makes : Makes n step.scenario step.line b

Path-pop : (n : ℕ) (a : ScenarioData) (front : List StepData) (step : StepData) (b : ScenarioData) → Path n a (front ++ step ∷ []) b →
    LastStep n a front step b
Path-pop n a [] step b (is, next, makes, same) = record { path = is; makes = rw (is, same) makes }
Path-pop n a (first ∷ more) step b (first_is, next, one, others) =
    let last = Path-pop n next more step b others in record { path = (first_is, next, one, last.path); makes = last.makes }

Lead-path : (n : ℕ) (a : ScenarioData) (ls : List (List ℕ)) (b : ScenarioData) (steps : List StepData) (c : ScenarioData) → Lead n a ls b →
    Path n b steps c → Lead n a (ls ++ map (λ (step : StepData). step.line) steps) c
Lead-path n a [] b steps c same path = along n a steps c (rw same at path)
  where
    along : (n : ℕ) (a : ScenarioData) (steps : List StepData) (c : ScenarioData) → Path n a steps c →
        Lead n a (map (λ (step : StepData). step.line) steps) c
    along n a [] c same = same
    along n a (step ∷ more) c (is, next, makes, others) = (next, makes, along n next more c others)
Lead-path n a (first ∷ more) b steps c (next, one, others) path = (next, one, Lead-path n next more b steps c others path)

-- edits that were taken back, each with the scenario after it; the first one made again is the last
abbrev Onward : ℕ → ScenarioData → List StepData → Type 0
Onward n b [] = Unit {0}
Onward n b (step ∷ []) = Makes n b step.line step.scenario
Onward n b (step ∷ (next ∷ more)) = Makes n next.scenario step.line step.scenario × Onward n b (next ∷ more)

Onward-snoc : (n : ℕ) (b : ScenarioData) (later : List StepData) (a : ScenarioData) (step : StepData) → Onward n b later →
    step.scenario ≡ b → Makes n a step.line b → Onward n a (later ++ step ∷ [])
Onward-snoc n b [] a step onward is makes = rw is makes
Onward-snoc n b (x ∷ []) a step onward is makes = (rw is onward, rw is makes)
Onward-snoc n b (x ∷ (y ∷ more)) a step (one, others) is makes = (one, Onward-snoc n b (y ∷ more) a step others is makes)

record NextStep (n : ℕ) (b : ScenarioData) (front : List StepData) (next : StepData) : Type 0 where
  pub makes : Makes n b next.line next.scenario
  pub onward : Onward n next.scenario front

Onward-pop : (n : ℕ) (b : ScenarioData) (front : List StepData) (next : StepData) → Onward n b (front ++ next ∷ []) →
    NextStep n b front next
Onward-pop n b [] next onward = record { makes = onward; onward = tt }
Onward-pop n b (x ∷ []) next (one, onward) = record { makes = onward; onward = one }
Onward-pop n b (x ∷ (y ∷ more)) next (one, others) =
    let rest = Onward-pop n b (y ∷ more) next others in record { makes = rest.makes; onward = (one, rest.onward) }

-- 2. What is noted

record Noted (n : ℕ) (a : ScenarioData) (older : List (List ℕ)) (earlier : List StepData) (b : ScenarioData) : Type 0 where
  pub mid : ScenarioData
  pub leads : Lead n a older mid
  pub path : Path n mid earlier b
  pub few : length earlier ≤ 100

one_more : (n : ℕ) (a : ScenarioData) (t : Bool) (older : List (List ℕ)) (earlier : List StepData) (step : StepData) (b c : ScenarioData)
    → nat_lt (length earlier) 100 ≡ t → Noted n a older earlier b → step.scenario ≡ b → Makes n b step.line c →
    Noted n a (past_with t older earlier step).0 (past_with t older earlier step).1 c
one_more n a true older earlier step b c room before is makes = record {
  mid = before.mid;
  leads = before.leads;
  path = Path-snoc n before.mid earlier b step c is before.path makes;
  few = omega (arith, length-append earlier (step ∷ []), below (length earlier) room);
}
  where
    below : (k : ℕ) → nat_lt k 100 ≡ true → k ≤ 99
    below k room = omega (arith, ltb-true k 100 room)
one_more n a false older [] step b c room before is makes = let full : true ≡ false = room in absurd (cc)
one_more n a false older (oldest ∷ steps) step b c room before is makes = record {
  mid = before.path.1;
  leads = Lead-snoc n a older before.mid oldest.line before.path.1 before.leads before.path.2;
  path = Path-snoc n before.path.1 steps b step c is before.path.3 makes;
  few = omega (arith, length-append steps (step ∷ []), before.few);
}

-- ---- what stands

record StandsSo (n : ℕ) (s : ScenarioData) (d : Standing) : Type 0 where
  pub first_is : d.first ≡ s
  pub noted : Noted n s d.notes.older d.notes.earlier d.scenario
  pub onward : Onward n d.scenario d.notes.later

at_once : (n : ℕ) (s : ScenarioData) (shelf : Shelved) → StandsSo n s (at_first s shelf).desk
at_once n s shelf = record {
  first_is = refl;
  noted = record { mid = s; leads = refl; path = refl; few = omega arith };
  onward = tt;
}

-- an edit is taken back
stepped_back : (n : ℕ) (s : ScenarioData) (d d' : Standing) → StandsSo n s d → StepsBack d d' → StandsSo n s d'
stepped_back n s d d' stands back =
    let last = Path-pop n stands.noted.mid back.front back.back d.scenario (rw back.earlier_are at stands.noted.path) in
    rw back.after_is
    (record {
      first_is = stands.first_is;
      noted = record {
        mid = stands.noted.mid;
        leads = stands.noted.leads;
        path = last.path;
        few = omega (arith, stands.noted.few, ap length back.earlier_are, length-append back.front (back.back ∷ []));
      };
      onward = Onward-snoc n d.scenario d.notes.later back.back.scenario (step_of d back.back.line) stands.onward refl last.makes;
    })

all_back : (n : ℕ) (s : ScenarioData) (count : ℕ) (d d' : Standing) → StandsSo n s d → Back count d d' → StandsSo n s d'
all_back n s zero d d' stands same = rw same stands
all_back n s (suc count) d d' stands (mid, before, last) = stepped_back n s mid d' (all_back n s count d mid stands before) last

-- an edit is made again
stepped_forward : (n : ℕ) (s : ScenarioData) (d d' : Standing) → StandsSo n s d → StepsForward d d' → StandsSo n s d'
stepped_forward n s d d' stands forward =
    let next = Onward-pop n d.scenario forward.front forward.next (rw forward.later_are at stands.onward) in
    rw forward.after_is
    (record {
      first_is = stands.first_is;
      noted = one_more n s (nat_lt (length d.notes.earlier) 100) d.notes.older d.notes.earlier (step_of d forward.next.line) d.scenario
          forward.next.scenario refl stands.noted refl next.makes;
      onward = next.onward;
    })

-- 3. What lines do

-- an accepted edit is what the line makes
edit_makes : (n : ℕ) (s : ScenarioData) (line : List ℕ) (r : Result Line EditFault) (reply : List ℕ) (s' : ScenarioData)
    → line_of line ≡ r → Reply n s r reply s' Accepted → Makes n s line s'
edit_makes n s line (Ok lines_read.Skip) reply s' is h = let other = h.2 in absurd (cc)
edit_makes n s line (Ok (lines_read.Edit edit)) reply s' is h = by_edited (edited n s edit) refl h
  where
    by_edited : (r : Result ScenarioData EditFault) → edited n s edit ≡ r → EditReply s r reply s' Accepted → Makes n s line s'
    by_edited (Err fault) e h = let other = h.2 in absurd (cc)
    by_edited (Ok after) e (inl h) = (edit, is, e ∙ ap Ok (sym h.1))
    by_edited (Ok after) e (inr h) = let other = h.2 in absurd (cc)
edit_makes n s line (Ok (lines_read.Show show)) reply s' is h = by_can (can_show n show) h
  where
    by_can : (can : Bool) → ShowReply can show s reply s' Accepted → Makes n s line s'
    by_can true h = let other = h.4 in absurd (cc)
    by_can false h = let other = h.2 in absurd (cc)
edit_makes n s line (Err fault) reply s' is h = let other = h.2 in absurd (cc)

-- any other line leaves the scenario as it is
same_otherwise : (n : ℕ) (s : ScenarioData) (r : Result Line EditFault) (reply : List ℕ) (s' : ScenarioData) (outcome : Outcome) →
    outcome ≢ Accepted → Reply n s r reply s' outcome → s' ≡ s
same_otherwise n s (Ok lines_read.Skip) reply s' outcome other h = h.1
same_otherwise n s (Ok (lines_read.Edit edit)) reply s' outcome other h = by_edited (edited n s edit) h
  where
    by_edited : (r : Result ScenarioData EditFault) → EditReply s r reply s' outcome → s' ≡ s
    by_edited (Err fault) h = h.1
    by_edited (Ok after) (inl h) = absurd (other h.2)
    by_edited (Ok after) (inr h) = h.1
same_otherwise n s (Ok (lines_read.Show show)) reply s' outcome other h = by_can (can_show n show) h
  where
    by_can : (can : Bool) → ShowReply can show s reply s' outcome → s' ≡ s
    by_can true h = h.3
    by_can false h = h.1
same_otherwise n s (Err fault) reply s' outcome other h = h.1

kept : (n : ℕ) (s : ScenarioData) (d d' : Standing) → StandsSo n s d → d'.scenario ≡ d.scenario → d'.first ≡ d.first → d'.notes ≡ d.notes →
    StandsSo n s d'
kept n s d d' stands scenario first notes = record {
  first_is = first ∙ stands.first_is;
  noted = rw (scenario, notes) stands.noted;
  onward = rw (scenario, notes) stands.onward;
}

becomes : (n : ℕ) (s : ScenarioData) (d : Standing) (line reply : List ℕ) (outcome : Outcome) (d' : Standing) → StandsSo n s d →
    Becomes n d line (line_of line) outcome reply d' → StandsSo n s d'
becomes n s d line reply Accepted d' stands (is, tally, (first, number, saved, notes)) =
    let makes = edit_makes n d.scenario line (line_of line) reply d'.scenario refl is in
    record {
      first_is = first ∙ stands.first_is;
      noted = rw notes
          (one_more n s (nat_lt (length d.notes.earlier) 100) d.notes.older d.notes.earlier (step_of d line) d.scenario d'.scenario refl
          stands.noted refl makes);
      onward = rw notes tt;
    }
becomes n s d line reply Skipped d' stands (is, tally, (first, number, saved, notes)) =
    kept n s d d' stands (same_otherwise n d.scenario (line_of line) reply d'.scenario Skipped (λ e. absurd (cc)) is) first notes
becomes n s d line reply Refused d' stands (is, tally, (first, number, saved, notes)) =
    kept n s d d' stands (same_otherwise n d.scenario (line_of line) reply d'.scenario Refused (λ e. absurd (cc)) is) first notes
becomes n s d line reply Shown d' stands (is, tally, (first, number, saved, notes)) =
    kept n s d d' stands (same_otherwise n d.scenario (line_of line) reply d'.scenario Shown (λ e. absurd (cc)) is) first notes

unchanged : (n : ℕ) (s : ScenarioData) (d d' : Standing) → StandsSo n s d → d' ≡ d → StandsSo n s d'
unchanged n s d d' stands same = rw same stands

-- what is noted stays
when_saved : (n : ℕ) (s : ScenarioData) (what : Saved) (d : Standing) → StandsSo n s d → StandsSo n s (as_saved what d)
when_saved n s saved.Scenario d stands = record { first_is = stands.first_is; noted = stands.noted; onward = stands.onward }
when_saved n s saved.Edits d stands = record { first_is = stands.first_is; noted = stands.noted; onward = stands.onward }
when_saved n s saved.Picture d stands = stands

saves : (n : ℕ) (s : ScenarioData) (d : WithShelf) (what : Saved) (is_over : Bool) (file : Option (List ℕ)) (text : List ℕ)
    (d' : WithShelf) → StandsSo n s d.desk → Saves n d what is_over file text d' → StandsSo n s d'.desk
saves n s d what is_over None text d' stands h = absurd h
saves n s d what is_over (Some file) text d' stands h =
    rw h.6 (when_saved n s what d.desk stands)

-- a line that is loaded is one that is typed, or changes nothing
takes_in : (n : ℕ) (s : ScenarioData) (d : Standing) (line : List ℕ) (r : Result Line EditFault) (d' : Standing) → StandsSo n s d →
    line_of line ≡ r → TakesIn n d line r d' → StandsSo n s d'
takes_in n s d line (Ok lines_read.Skip) d' stands is h = unchanged n s d d' stands h
takes_in n s d line (Ok (lines_read.Edit edit)) d' stands is h = becomes n s d line ok_text Accepted d' stands (rw is h)
takes_in n s d line (Ok (lines_read.Show show)) d' stands is h = unchanged n s d d' stands h
takes_in n s d line (Err fault) d' stands is h = absurd h

takes_all : (n : ℕ) (s : ScenarioData) (d : Standing) (ls : List (List ℕ)) (d' : Standing) → StandsSo n s d → TakesAll n d ls d' →
    StandsSo n s d'
takes_all n s d [] d' stands same = unchanged n s d d' stands same
takes_all n s d (line ∷ more) d' stands (next, one, others) =
    takes_all n s next more d' (takes_in n s d line (line_of line) next stands refl one) others

loads : (n : ℕ) (s : ScenarioData) (d : WithShelf) (file : Option (List ℕ)) (text : List ℕ) (d' : WithShelf) → StandsSo n s d.desk →
    Loads n d file text d' → StandsSo n s d'.desk
loads n s d None text d' stands h = absurd h
loads n s d (Some file) text d' stands h = takes_all n s d.desk (lines h.0) d'.desk stands h.3

tells : (n : ℕ) (s : ScenarioData) (d : WithShelf) (own : Option Colon) (line : List ℕ) (text : List ℕ) (d' : WithShelf) →
    StandsSo n s d.desk → Tells n d own line text d' → StandsSo n s d'.desk
tells n s d None line text d' stands h = absurd h
tells n s d (Some colon.Help) line text d' stands h = unchanged n s d.desk d'.desk stands h.1.0
tells n s d (Some colon.Listing) line text d' stands h = unchanged n s d.desk d'.desk stands h.1.0
tells n s d (Some (colon.Undo before)) line text d' stands h = all_back n s (suc before) d.desk d'.desk stands h.0
tells n s d (Some colon.Redo) line text d' stands h = stepped_forward n s d.desk d'.desk stands h.0
tells n s d (Some colon.Diff) line text d' stands h = unchanged n s d.desk d'.desk stands h.1.0
tells n s d (Some colon.DiffAll) line text d' stands h = unchanged n s d.desk d'.desk stands h.1.0
tells n s d (Some (colon.Save what is_over)) line text d' stands h = saves n s d what is_over (file_in line) text d' stands h
tells n s d (Some (colon.Why port to)) line text d' stands h = unchanged n s d.desk d'.desk stands h.1.0
tells n s d (Some colon.Load) line text d' stands h = loads n s d (file_in line) text d' stands h
tells n s d (Some colon.Quit) line text d' stands h = unchanged n s d.desk d'.desk stands h.1.0
tells n s d (Some (colon.Show port)) line text d' stands h = unchanged n s d.desk d'.desk stands h.1.0
tells n s d (Some colon.Warn) line text d' stands h = unchanged n s d.desk d'.desk stands h.1.0
tells n s d (Some colon.Guarantee) line text d' stands h = unchanged n s d.desk d'.desk stands h.1.0
tells n s d (Some (colon.Sweep losses)) line text d' stands h = unchanged n s d.desk d'.desk stands h.1.0
tells n s d (Some colon.Vary) line text d' stands h = unchanged n s d.desk d'.desk stands h.1.0
tells n s d (Some colon.Test) line text d' stands h = unchanged n s d.desk d'.desk stands h.1.0

fails : (n : ℕ) (s : ScenarioData) (d : WithShelf) (own : Option Colon) (line : List ℕ) (fault : OwnFault) (d' : WithShelf) →
    StandsSo n s d.desk → Fails n d own line fault d' → StandsSo n s d'.desk
fails n s d None line fault d' stands h = unchanged n s d.desk d'.desk stands h.1.0
fails n s d (Some colon.Help) line fault d' stands h = unchanged n s d.desk d'.desk stands h.1.0
fails n s d (Some colon.Listing) line fault d' stands h = unchanged n s d.desk d'.desk stands h.1.0
fails n s d (Some (colon.Undo before)) line fault d' stands h = unchanged n s d.desk d'.desk stands h.1.0
fails n s d (Some colon.Redo) line fault d' stands h = unchanged n s d.desk d'.desk stands h.1.0
fails n s d (Some colon.Diff) line fault d' stands h = unchanged n s d.desk d'.desk stands h.1.0
fails n s d (Some colon.DiffAll) line fault d' stands h = unchanged n s d.desk d'.desk stands h.1.0
fails n s d (Some (colon.Save what is_over)) line fault d' stands h = unchanged n s d.desk d'.desk stands h.1
fails n s d (Some (colon.Why port to)) line fault d' stands h = unchanged n s d.desk d'.desk stands h.1.0
fails n s d (Some (colon.Show port)) line fault d' stands h = unchanged n s d.desk d'.desk stands h.1.0
fails n s d (Some colon.Warn) line fault d' stands h = unchanged n s d.desk d'.desk stands h.1.0
fails n s d (Some colon.Guarantee) line fault d' stands h = unchanged n s d.desk d'.desk stands h.1.0
fails n s d (Some (colon.Sweep losses)) line fault d' stands h = unchanged n s d.desk d'.desk stands h.1.0
fails n s d (Some colon.Vary) line fault d' stands h = unchanged n s d.desk d'.desk stands h.1.0
fails n s d (Some colon.Test) line fault d' stands h = unchanged n s d.desk d'.desk stands h.1.0
fails n s d (Some colon.Load) line fault d' stands h = unchanged n s d.desk d'.desk stands h.1.0
fails n s d (Some colon.Quit) line fault d' stands h = absurd h

refuses : (n : ℕ) (s : ScenarioData) (d : WithShelf) (own : Option Colon) (line : List ℕ) (told : List ℕ) (d' : WithShelf) →
    StandsSo n s d.desk → RefusesLines n d own line told d' → StandsSo n s d'.desk
refuses n s d (Some colon.Load) line told d' stands h = unchanged n s d.desk d'.desk stands h.1.0
refuses n s d (Some colon.Vary) line told d' stands h = unchanged n s d.desk d'.desk stands h.1.0
refuses n s d _ line told d' stands h = absurd h

declines : (n : ℕ) (s : ScenarioData) (d : WithShelf) (own : Option Colon) (line : List ℕ) (told : List ℕ) (d' : WithShelf) →
    StandsSo n s d.desk → Declines n d own line told d' → StandsSo n s d'.desk
declines n s d own line told d' stands (inl (fault, h, is)) = fails n s d own line fault d' stands h
declines n s d own line told d' stands (inr h) = refuses n s d own line told d' stands h

replied : (t : Bool) (n : ℕ) (s : ScenarioData) (d : WithShelf) (line reply told : List ℕ) (d' : WithShelf) → StandsSo n s d.desk →
    ReplyBy t n d line reply told d' → StandsSo n s d'.desk
replied true n s d line reply told d' stands (inl h) = tells n s d (colon_of line) line reply d' stands h.0
replied true n s d line reply told d' stands (inr h) = declines n s d (colon_of line) line told d' stands h.1
replied false n s d line reply told d' stands ((outcome, is, tells), shelf) = becomes n s d.desk line reply outcome d'.desk stands is

all_replied : (n : ℕ) (s : ScenarioData) (d : WithShelf) (ls : List (List ℕ)) (text : List ℕ) (tolds : List (List ℕ)) (d' : WithShelf) →
    StandsSo n s d.desk → DeskReplies n d ls text tolds d' → StandsSo n s d'.desk
all_replied n s d [] text tolds d' stands (text_is, tolds_are, same) = rw same stands
all_replied n s d (line ∷ more) text tolds d' stands (reply, told, rest, others, next, is, text_is, tolds_are, replies) =
    all_replied n s next more rest others d' (replied (is_colon line) n s d line reply told next stands is) replies

pub edits_lead : EditsLead
edits_lead n s shelf ls text tolds d' replies =
    let stands = all_replied n s (at_first s shelf) ls text tolds d' (at_once n s shelf) replies in
    record {
      first_is = stands.first_is;
      leads = Lead-path n s d'.desk.notes.older stands.noted.mid d'.desk.notes.earlier d'.desk.scenario stands.noted.leads
          stands.noted.path;
      few = stands.noted.few;
    }
