-- What is told of the tables of a list, a table at a time.
use Rattle.std.proofs.Common.{◌≡◌, ℕ, ◌+◌, List, [], ◌∷◌, ◌++◌, refl, sym, ap, ◌∙◌, append_assoc, ◌<◌, length, drop, get_or}
use Rattle.std.proofs.lemmas.List.{append-nil, at_drop_more}
use Rattle.pd_misfits.specs.Spots.{SpotData}
use Rattle.toml.specs.Data.{Members}
use Rattle.pd_scenario_tables.specs.declared.schema.Version.{Version}
use Rattle.pd_scenario_tables.specs.declared.schema.TableKind.{TableKind}
use Rattle.pd_scenario_tables.specs.declared.schema.TableKind.TheVariants.{Event}
use Rattle.pd_scenario_tables.specs.declared.fault.ScenarioFault.{ScenarioFault}
use Rattle.pd_scenario_tables.specs.Tables.{event_at}
use Rattle.pd_misfits.specs.Lines.{table_spot, event_spot, table_text, list_text, events_text}

list_first : (spot : SpotData) (word : List ℕ) (refusal : ScenarioFault) (version : Version) (ports : ℕ) (kind : TableKind)
    (number : ℕ) (t : Members)
    (ts : List Members)
    → list_text spot word refusal version ports kind number (t ∷ ts)
    ≡ table_text (table_spot spot word number) refusal version ports kind t
    ++ list_text spot word refusal version ports kind (number + 1) ts
unfolding list_text
list_first spot word refusal version ports kind number t ts = refl

list_none : (spot : SpotData) (word : List ℕ) (refusal : ScenarioFault) (version : Version) (ports : ℕ) (kind : TableKind) (number : ℕ)
    → list_text spot word refusal version ports kind number [] ≡ []
unfolding list_text
list_none spot word refusal version ports kind number = refl

events_first : (spot : SpotData) (refusal : ScenarioFault) (version : Version) (ports number : ℕ) (t : Members) (ts : List Members)
    → events_text spot refusal version ports number (t ∷ ts)
    ≡ table_text (event_spot spot version number t) refusal version ports (Event (event_at version t)) t
    ++ events_text spot refusal version ports (number + 1) ts
unfolding events_text
events_first spot refusal version ports number t ts = refl

events_none : (spot : SpotData) (refusal : ScenarioFault) (version : Version) (ports number : ℕ)
    → events_text spot refusal version ports number [] ≡ []
unfolding events_text
events_none spot refusal version ports number = refl

-- a part is written, and the others are left
written : (whole text text' part rest : List ℕ) → whole ≡ text ++ (part ++ rest) → text' ≡ text ++ part → whole ≡ text' ++ rest
written whole text text' part rest so_far said = so_far ∙ sym (append_assoc text part rest) ∙ ap (λ t. t ++ rest) (sym said)

-- one more table of a list
pub more_listed : (whole text text' : List ℕ) (spot own : SpotData) (word : List ℕ) (refusal : ScenarioFault)
    (version : Version) (ports : ℕ) (kind : TableKind)
    (number : ℕ) (t : Members) (ts : List Members)
    → whole ≡ text ++ list_text spot word refusal version ports kind number (t ∷ ts) → own ≡ table_spot spot word number
    → text' ≡ text ++ table_text own refusal version ports kind t
    → whole ≡ text' ++ list_text spot word refusal version ports kind (number + 1) ts
more_listed whole text text' spot own word refusal version ports kind number t ts so_far place said =
    written whole text text' (table_text (table_spot spot word number) refusal version ports kind t)
    (list_text spot word refusal version ports kind (number + 1) ts)
    (so_far ∙ ap (λ s. text ++ s) (list_first spot word refusal version ports kind number t ts))
    (said ∙ ap (λ a. text ++ table_text a refusal version ports kind t) place)

-- no table any more
pub all_listed : (whole text : List ℕ) (spot : SpotData) (word : List ℕ) (refusal : ScenarioFault) (version : Version)
    (ports : ℕ) (kind : TableKind) (number : ℕ)
    → whole ≡ text ++ list_text spot word refusal version ports kind number [] → text ≡ whole
all_listed whole text spot word refusal version ports kind number so_far =
    sym (so_far ∙ ap (λ s. text ++ s) (list_none spot word refusal version ports kind number) ∙ append-nil text)

-- one more event
pub more_events : (whole text text' : List ℕ) (spot own : SpotData) (refusal : ScenarioFault) (version : Version)
    (ports number : ℕ) (t : Members)
    (ts : List Members)
    → whole ≡ text ++ events_text spot refusal version ports number (t ∷ ts) → own ≡ event_spot spot version number t
    → text' ≡ text ++ table_text own refusal version ports (Event (event_at version t)) t
    → whole ≡ text' ++ events_text spot refusal version ports (number + 1) ts
more_events whole text text' spot own refusal version ports number t ts so_far place said =
    written whole text text' (table_text (event_spot spot version number t) refusal version ports (Event (event_at version t)) t)
    (events_text spot refusal version ports (number + 1) ts)
    (so_far ∙ ap (λ s. text ++ s) (events_first spot refusal version ports number t ts))
    (said ∙ ap (λ a. text ++ table_text a refusal version ports (Event (event_at version t)) t) place)

-- no event any more
pub all_events : (whole text : List ℕ) (spot : SpotData) (refusal : ScenarioFault) (version : Version) (ports number : ℕ)
    → whole ≡ text ++ events_text spot refusal version ports number [] → text ≡ whole
all_events whole text spot refusal version ports number so_far =
    sym (so_far ∙ ap (λ s. text ++ s) (events_none spot refusal version ports number) ∙ append-nil text)

-- the next of the tables that are left
pub next_left : {X Y : Type 0} (of : List X → Y) (xs : List X) (i : ℕ) (x : X) → i < length xs → x ≡ get_or xs i x
    → of (drop i xs) ≡ of (x ∷ drop (i + 1) xs)
next_left of xs i x within is = at_drop_more of xs i x within ∙ ap (λ y. of (y ∷ drop (i + 1) xs)) (sym is)
