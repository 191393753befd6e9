-- The table of rows, beginning by beginning, is the grammar of lines.
use Rattle.std.proofs.Common.{◌≡◌, ℕ, zero, suc, Bool, true, false, not, ◌&&◌, ◌||◌, nat_le, nat_lt, if◌then◌else◌, List, [], ◌∷◌}
use Rattle.std.proofs.Common.{◌++◌, length}
use Rattle.std.proofs.Common.{codes, Option, None, Some, option_map, is_some, unwrap_or, Result, Ok, Err, refl, sym, ap, ◌∙◌, arith}
use Rattle.std.specs.Prelude.{bytes_eq, find, ok_or}
use Rattle.std.specs.Option.{option_and_then}
use Rattle.std.specs.Result.{is_ok}
use Rattle.std.proofs.lemmas.Bool.Decides.{nat_tests}
use Rattle.std.proofs.lemmas.Slice.Eq.{bytes_eq-Decides}
use Rattle.pd_setup.specs.Events.{KindWord}
use Rattle.pd_setup.specs.declared.event.EventKind.TheVariants.{Attach, Detach, Demand, Lose, Damage, GetSource, GetSink}
use Rattle.pd_scenario.specs.Names.{is_name}
use Rattle.pd_scenario.specs.Words.{kind_of, mode_of, plug_of}
use Rattle.pd_edit_lines.specs.Kinds.{EditKind}
use Rattle.pd_edit_lines.specs.Keywords.{command_word, revision_word, show_word}
use Rattle.pd_edit_lines.specs.Words.{name, number, words}
use Rattle.pd_edit_lines.specs.Grammar.{Words, alone, are_spaces, attach_of, cable_from, cable_of, caps_of, change_of, command_from}
use Rattle.pd_edit_lines.specs.Grammar.{command_of}
use Rattle.pd_edit_lines.specs.Grammar.{damage_of, few_supplies, happening_of, insert_of, is_comment, kind_at, kind_from, line_of}
use Rattle.pd_edit_lines.specs.Grammar.{on_port_of}
use Rattle.pd_edit_lines.specs.Grammar.{one_number, revision_of, show_from, show_of, sink_from, sink_of, supplies_of, two_numbers}
use Rattle.pd_edit_lines.specs.Grammar.{with_supplies}
use Rattle.pd_edit_lines.specs.declared.fault.EditFault.{EditFault}
use Rattle.pd_edit_lines.specs.declared.fault.EditFault.TheVariants.{Syntax}
use Rattle.pd_edit_lines.specs.declared.edit.WrittenSupply.{WrittenSupply}
use Rattle.pd_edit_lines.specs.declared.edit.EditHappening.TheVariants as happens
use Rattle.pd_edit_lines.specs.declared.edit.Edit.{Edit}
use Rattle.pd_edit_lines.specs.declared.edit.Edit.TheVariants as edits
use Rattle.pd_edit_lines.specs.declared.line.Show.{Show}
use Rattle.pd_edit_lines.specs.declared.line.Show.TheVariants as shows
use Rattle.pd_edit_lines.specs.declared.line.Line.{Line}
use Rattle.pd_edit_lines.specs.declared.line.Line.TheVariants as lines
use Rattle.pd_edit_lines.specs.declared.rows.Front.{Front}
use Rattle.pd_edit_lines.specs.declared.rows.Front.TheVariants as front
use Rattle.pd_edit_lines.specs.declared.rows.Row.{Row}
use Rattle.pd_edit_lines.specs.declared.slot.Slot.{Slot}
use Rattle.pd_edit_lines.specs.declared.slot.Slot.TheVariants as slot
use Rattle.pd_edit_lines.specs.Laws.{TableIsGrammar, ends_well, is_of_table}
use Rattle.pd_edit_lines.specs.Slots.{fits}
use Rattle.pd_edit_lines.specs.Stops.{next_front, stop_from}
use Rattle.pd_edit_lines.specs.Table.{may_end, rows, ◌⇒◌}

-- ---- tests

and_true : (b : Bool) → b && true ≡ b
and_true true = refl
and_true false = refl

and_false : (b : Bool) → b && false ≡ false
and_false true = refl
and_false false = refl

as_and : (a b : Bool) → (if a then b else false) ≡ a && b
as_and true b = refl
as_and false b = refl

bind : {A B : Type 0} (o : Option A) (f : A → Option B) (b : Bool) → ((x : A) → is_some (f x) ≡ b) →
    is_some (option_and_then f o) ≡ is_some o && b
bind None f b h = refl
bind (Some x) f b h = h x

-- a last step always succeeds
done : {A B : Type 0} (o : Option A) (f : A → B) → is_some (option_and_then (λ x. Some (f x)) o) ≡ is_some o
done None f = refl
done (Some x) f = refl

mapped : {A B : Type 0} (f : A → B) (o : Option A) → is_some (option_map f o) ≡ is_some o
mapped f None = refl
mapped f (Some x) = refl

-- whether a word is a number
abbrev num : List ℕ → Bool
num w = is_some (number w)

if_some : {A : Type 0} (b : Bool) (x : A) → is_some (if b then Some x else None) ≡ b
if_some true x = refl
if_some false x = refl

named : (w : List ℕ) → is_some (name w) ≡ is_name w
named w = if_some (is_name w) w

-- ---- one word of the table

-- a line goes on from a beginning to its end by the table
accepts : Front → Words → Bool
accepts f ws = ends_well (stop_from f ws)

go : Option Front → Words → Bool
go None ws = false
go (Some to) ws = accepts to ws

at_end : (f : Front) → accepts f [] ≡ may_end f
unfolding accepts
at_end f = refl

moves : (f : Front) (w : List ℕ) (ws : Words) → accepts f (w ∷ ws) ≡ go (next_front f w) ws
unfolding accepts go
moves f w ws = by_front (next_front f w) where
  by_front : (o : Option Front) → ends_well (unwrap_or (option_map (λ to. stop_from to ws) o) (f, w ∷ ws)) ≡ go o ws
  by_front None = refl
  by_front (Some to) = refl

-- the front that some rows lead to
abbrev led : List Row → List ℕ → Option Front
led rs w = option_map (λ (row : Row). row.to) (find (λ (row : Row). fits row.slot w) rs)

by_fit : (b : Bool) (s : Slot) (t : Front) (rest : Option Row) (ws : Words)
    → go (option_map (λ (row : Row). row.to) (if b then Some (s ⇒ t) else rest)) ws
    ≡ (if b then accepts t ws else go (option_map (λ (row : Row). row.to) rest) ws)
unfolding go
by_fit true s t rest ws = refl
by_fit false s t rest ws = refl

last_fit : (b : Bool) (s : Slot) (t : Front) (ws : Words)
    → go (option_map (λ (row : Row). row.to) (if b then Some (s ⇒ t) else None)) ws ≡ b && accepts t ws
unfolding go
last_fit true s t ws = refl
last_fit false s t ws = refl

-- a beginning behind which one row stands
one : (f : Front) (s : Slot) (t : Front) (w : List ℕ) (ws : Words) → rows f ≡ (s ⇒ t) ∷ [] → accepts f (w ∷ ws) ≡ fits s w && accepts t ws
one f s t w ws e = moves f w ws ∙ ap (λ (rs : List Row). go (led rs w) ws) e ∙ last_fit (fits s w) s t ws

-- and two
two : (f : Front) (s : Slot) (t : Front) (s' : Slot) (t' : Front) (w : List ℕ) (ws : Words) → rows f ≡ (s ⇒ t) ∷ (s' ⇒ t') ∷ []
    → accepts f (w ∷ ws) ≡ (if fits s w then accepts t ws else (fits s' w && accepts t' ws))
two f s t s' t' w ws e =
    moves f w ws ∙ ap (λ (rs : List Row). go (led rs w) ws) e ∙ by_fit (fits s w) s t _ ws
    ∙ ap (λ b. if fits s w then accepts t ws else b) (last_fit (fits s' w) s' t' ws)

-- ---- no word more, one number, two numbers

abbrev no_word : Words → Bool
no_word [] = true
no_word (w ∷ ws) = false

abbrev one_num : Words → Bool
one_num (w ∷ []) = num w
one_num _ = false

abbrev two_num : Words → Bool
two_num [] = false
two_num (v ∷ ws) = num v && one_num ws

whole : (ws : Words) → accepts front.Whole ws ≡ no_word ws
unfolding accepts
whole [] = refl
whole (w ∷ ws) = refl

alone_is : {A : Type 0} (a : A) (ws : Words) → is_some (alone a ws) ≡ no_word ws
alone_is a [] = refl
alone_is a (w ∷ ws) = refl

one_is : {A : Type 0} (f : ℕ → A) (ws : Words) → is_some (one_number f ws) ≡ one_num ws
one_is f [] = refl
one_is f (w ∷ []) = mapped f (number w)
one_is f (v ∷ w ∷ ws) = refl

two_is : {A : Type 0} (f : ℕ → ℕ → A) (ws : Words) → is_some (two_numbers f ws) ≡ two_num ws
two_is f [] = refl
two_is f (v ∷ []) = sym (and_false (num v))
two_is f (v ∷ w ∷ []) = bind (number v) _ (num w) (λ m. done (number w) (f m))
two_is f (v ∷ w ∷ x ∷ ws) = sym (and_false (num v))

-- a beginning behind which one number stands, and nothing more
last : (f : Front) (s : Slot) → rows f ≡ (s ⇒ front.Whole) ∷ [] → may_end f ≡ false → ((w : List ℕ) → fits s w ≡ num w) → (ws : Words)
    → accepts f ws ≡ one_num ws
last f s e open_ended n [] = at_end f ∙ open_ended
last f s e open_ended n (w ∷ []) = one f s front.Whole w [] e ∙ ap (λ b. b && accepts front.Whole []) (n w)
    ∙ ap (λ b. num w && b) (whole []) ∙ and_true (num w)
last f s e open_ended n (v ∷ w ∷ ws) =
    one f s front.Whole v (w ∷ ws) e ∙ ap (λ b. fits s v && b) (whole (w ∷ ws)) ∙ and_false (fits s v)

last_id : (ws : Words) → accepts front.LastId ws ≡ one_num ws
last_id ws = last front.LastId slot.Id refl refl (λ w. refl) ws

last_at : (ws : Words) → accepts front.LastAt ws ≡ one_num ws
last_at ws = last front.LastAt slot.At refl refl (λ w. refl) ws

last_mw : (ws : Words) → accepts front.LastMw ws ≡ one_num ws
last_mw ws = last front.LastMw slot.Mw refl refl (λ w. refl) ws

last_port : (ws : Words) → accepts front.LastPort ws ≡ one_num ws
last_port ws = last front.LastPort slot.Port refl refl (λ w. refl) ws

damage_mask : (ws : Words) → accepts front.DamageMask ws ≡ one_num ws
damage_mask ws = last front.DamageMask slot.Mask refl refl (λ w. refl) ws

cable_rating : (ws : Words) → accepts front.CableRating ws ≡ one_num ws
cable_rating ws = last front.CableRating slot.Rating refl refl (λ w. refl) ws

-- one number, and another that is the last
first_of : (f : Front) (s : Slot) (t : Front) → rows f ≡ (s ⇒ t) ∷ [] → may_end f ≡ false → ((w : List ℕ) → fits s w ≡ num w)
    → ((ws : Words) → accepts t ws ≡ one_num ws) → (ws : Words) → accepts f ws ≡ two_num ws
first_of f s t e open_ended n more [] = at_end f ∙ open_ended
first_of f s t e open_ended n more (v ∷ ws) = one f s t v ws e ∙ ap (λ b. b && accepts t ws) (n v) ∙ ap (λ b. num v && b) (more ws)

move_id : (ws : Words) → accepts front.MoveId ws ≡ two_num ws
move_id ws = first_of front.MoveId slot.Id front.LastAt refl refl (λ w. refl) last_at ws

floor_port : (ws : Words) → accepts front.FloorPort ws ≡ two_num ws
floor_port ws = first_of front.FloorPort slot.Port front.LastMw refl refl (λ w. refl) last_mw ws

damage_place : (ws : Words) → accepts front.DamagePlace ws ≡ two_num ws
damage_place ws = first_of front.DamagePlace slot.Place front.DamageMask refl refl (λ w. refl) damage_mask ws

-- ---- KIND

attach : (ws : Words) → accepts front.AttachCable ws ≡ is_some (attach_of ws)
attach [] = at_end front.AttachCable
attach (cable ∷ []) =
    one front.AttachCable slot.CableName front.AttachSink cable [] refl ∙ ap (λ b. is_name cable && b) (at_end front.AttachSink)
    ∙ and_false (is_name cable)
attach (cable ∷ sink ∷ []) =
    one front.AttachCable slot.CableName front.AttachSink cable (sink ∷ []) refl
    ∙ ap (λ b. is_name cable && b) (one front.AttachSink slot.SinkName front.Whole sink [] refl ∙ ap (λ b. is_name sink && b) (whole [])
    ∙ and_true (is_name sink))
    ∙ sym (bind (name cable) _ (is_name sink) (λ c. done (name sink) (λ s. Attach c s) ∙ named sink)
    ∙ ap (λ b. b && is_name sink) (named cable))
attach (cable ∷ sink ∷ w ∷ ws) =
    one front.AttachCable slot.CableName front.AttachSink cable (sink ∷ w ∷ ws) refl
    ∙ ap (λ b. is_name cable && b) (one front.AttachSink slot.SinkName front.Whole sink (w ∷ ws) refl
    ∙ ap (λ b. is_name sink && b) (whole (w ∷ ws)) ∙ and_false (is_name sink))
    ∙ and_false (is_name cable)

plain : {A : Type 0} (a : A) (ws : Words) → accepts front.Whole ws ≡ is_some (alone a ws)
plain a ws = whole ws ∙ sym (alone_is a ws)

-- by the word of a choice
pick : {A B : Type 0} (b : Bool) (s : Slot) (t : Front) (rest : Option Row) (a : A) (others : Option A) (k : A → Option B) (ws : Words)
    → accepts t ws ≡ is_some (k a) → go (option_map (λ (row : Row). row.to) rest) ws ≡ is_some (option_and_then k others)
    → go (option_map (λ (row : Row). row.to) (if b then Some (s ⇒ t) else rest)) ws
    ≡ is_some (option_and_then k (if b then Some a else others))
unfolding go
pick true s t rest a others k ws h more = h
pick false s t rest a others k ws h more = more

none_left : (ws : Words) → go None ws ≡ false
unfolding go
none_left ws = refl

kind : (ws : Words) → accepts front.Kind ws ≡ is_some (kind_at ws)
kind [] = at_end front.Kind
kind (word ∷ ws) =
    let k : KindWord → Option EditKind = λ x. kind_from x ws in
    moves front.Kind word ws
    ∙ pick (bytes_eq word (codes "attach")) slot.Attach front.AttachCable _ (Attach tt tt) _ k ws (attach ws)
    (pick (bytes_eq word (codes "detach")) slot.Detach front.Whole _ Detach _ k ws (plain Detach ws)
    (pick (bytes_eq word (codes "demand")) slot.Demand front.LastMw _ (Demand tt) _ k ws (last_mw ws ∙ sym (one_is Demand ws))
    (pick (bytes_eq word (codes "lose")) slot.Lose front.Whole _ Lose _ k ws (plain Lose ws)
    (pick (bytes_eq word (codes "damage")) slot.Damage front.DamagePlace _ (Damage tt) _ k ws
    (damage_place ws ∙ sym (two_is (λ place mask. Damage (record { place = place; mask = mask })) ws))
    (pick (bytes_eq word (codes "get_source")) slot.GetSource front.Whole _ GetSource _ k ws (plain GetSource ws)
    (pick (bytes_eq word (codes "get_sink")) slot.GetSink front.Whole None GetSink None k ws (plain GetSink ws) (none_left ws)))))))

-- ---- insert and change

is_word : (word text : List ℕ) (p : List ℕ → Bool) → p text ≡ false → bytes_eq word text ≡ true → p word ≡ false
is_word word text p open_ended same = ap p ((bytes_eq-Decides word text).0 same) ∙ open_ended

insert_port : (ws : Words) → accepts front.InsertPort ws ≡ is_some (happening_of ws)
insert_port [] = at_end front.InsertPort
insert_port (word ∷ ws) =
    two front.InsertPort slot.Port front.Kind slot.Budget front.LastMw word ws refl
    ∙ by_word (bytes_eq word (codes "budget")) refl where
      by_word : (b : Bool) → bytes_eq word (codes "budget") ≡ b
          → (if num word then accepts front.Kind ws else (b && accepts front.LastMw ws))
          ≡ is_some (if b then one_number happens.Budget ws else on_port_of word ws)
      by_word true same =
          ap (λ b. if b then accepts front.Kind ws else accepts front.LastMw ws) (is_word word (codes "budget") num refl same)
          ∙ last_mw ws ∙ sym (one_is happens.Budget ws)
      by_word false other =
          as_and (num word) (accepts front.Kind ws) ∙ ap (λ b. num word && b) (kind ws)
          ∙ sym (bind (number word) _ (is_some (kind_at ws)) (λ p. done (kind_at ws) (happens.OnPort p)))

insert : (ws : Words) → accepts front.InsertId ws ≡ is_some (insert_of ws)
insert [] = at_end front.InsertId
insert (id ∷ []) =
    one front.InsertId slot.Id front.InsertAt id [] refl ∙ ap (λ b. num id && b) (at_end front.InsertAt) ∙ and_false (num id)
insert (id ∷ at ∷ ws) =
    one front.InsertId slot.Id front.InsertAt id (at ∷ ws) refl
    ∙ ap (λ b. num id && b) (one front.InsertAt slot.At front.InsertPort at ws refl ∙ ap (λ b. num at && b) (insert_port ws))
    ∙ sym (bind (number id) _ (num at && is_some (happening_of ws))
    (λ i. bind (number at) _ (is_some (happening_of ws)) (λ t. done (happening_of ws) (edits.Insert i t))))

change : (ws : Words) → accepts front.ChangeId ws ≡ is_some (change_of ws)
change [] = at_end front.ChangeId
change (id ∷ ws) =
    one front.ChangeId slot.Id front.Kind id ws refl ∙ ap (λ b. num id && b) (kind ws)
    ∙ sym (bind (number id) _ (is_some (kind_at ws)) (λ i. done (kind_at ws) (edits.Change i)))

-- ---- cable

rated : (cable plug : List ℕ) (ws : Words) → is_some (cable_from cable plug ws) ≡ is_some (plug_of plug) && one_num ws
rated cable plug [] = sym (and_false (is_some (plug_of plug)))
rated cable plug (rating ∷ []) = bind (plug_of plug) _ (num rating) (λ p. done (number rating) (edits.Cable cable p))
rated cable plug (v ∷ w ∷ ws) = sym (and_false (is_some (plug_of plug)))

plugged : (cable : List ℕ) (word : List ℕ) (ws : Words) → accepts front.CablePlug (word ∷ ws)
    ≡ is_some (if bytes_eq word (codes "drop") then alone (edits.DropCable cable) ws else cable_from cable word ws)
plugged cable word ws =
    two front.CablePlug slot.Plug front.CableRating slot.Drop front.Whole word ws refl
    ∙ by_word (bytes_eq word (codes "drop")) refl where
      by_word : (b : Bool) → bytes_eq word (codes "drop") ≡ b
          → (if is_some (plug_of word) then accepts front.CableRating ws else (b && accepts front.Whole ws))
          ≡ is_some (if b then alone (edits.DropCable cable) ws else cable_from cable word ws)
      by_word true same =
          ap (λ b. if b then accepts front.CableRating ws else accepts front.Whole ws)
          (is_word word (codes "drop") (λ w. is_some (plug_of w)) refl same)
          ∙ plain (edits.DropCable cable) ws
      by_word false other =
          as_and (is_some (plug_of word)) (accepts front.CableRating ws) ∙ ap (λ b. is_some (plug_of word) && b) (cable_rating ws)
          ∙ sym (rated cable word ws)

cable : (ws : Words) → accepts front.CableName ws ≡ is_some (cable_of ws)
cable [] = at_end front.CableName
cable (n ∷ []) =
    one front.CableName slot.Name front.CablePlug n [] refl ∙ ap (λ b. is_name n && b) (at_end front.CablePlug) ∙ and_false (is_name n)
cable (n ∷ word ∷ ws) =
    one front.CableName slot.Name front.CablePlug n (word ∷ ws) refl
    ∙ sym (bind (name n) _ (accepts front.CablePlug (word ∷ ws)) (λ c. sym (plugged c word ws))
    ∙ ap (λ b. b && accepts front.CablePlug (word ∷ ws)) (named n))

-- ---- sink

revised : (ws : Words) → accepts front.SinkRevision ws ≡ is_some (revision_of ws)
revised [] = at_end front.SinkRevision
revised (word ∷ ws) =
    two front.SinkRevision slot.Rev2 front.Whole slot.Rev3 front.Whole word ws refl
    ∙ ap (λ b. if bytes_eq word (codes "rev2") then b else (bytes_eq word (codes "rev3") && b)) (whole ws)
    ∙ by_words (bytes_eq word (codes "rev2")) (bytes_eq word (codes "rev3")) refl refl ws where
      by_words : (a b : Bool) → bytes_eq word (codes "rev2") ≡ a → bytes_eq word (codes "rev3") ≡ b → (ws : Words)
          → (if a then no_word ws else (b && no_word ws)) ≡ is_some (revision_of (word ∷ ws))
      by_words true b first second [] = rw first refl
      by_words false true first second [] = rw (first, second) refl
      by_words false false first second [] = rw (first, second) refl
      by_words true b first second (w ∷ ws) = refl
      by_words false b first second (w ∷ ws) = and_false b

sunk : (sink max : List ℕ) (ws : Words) → is_some (sink_from sink max ws) ≡ num max && accepts front.SinkDemand ws
sunk sink max [] = sym (ap (λ b. num max && b) (at_end front.SinkDemand) ∙ and_false (num max))
sunk sink max (demand ∷ []) =
    sym (ap (λ b. num max && b) (one front.SinkDemand slot.Wanted front.SinkMode demand [] refl
    ∙ ap (λ b. num demand && b) (at_end front.SinkMode) ∙ and_false (num demand)) ∙ and_false (num max))
sunk sink max (demand ∷ mode ∷ ws) =
    bind (number max) _ (num demand && (is_some (mode_of mode) && is_some (revision_of ws)))
    (λ x. bind (number demand) _ (is_some (mode_of mode) && is_some (revision_of ws))
    (λ d. bind (mode_of mode) _ (is_some (revision_of ws)) (λ m. done (revision_of ws) (edits.Sink sink x d m))))
    ∙ sym (ap (λ b. num max && b) (one front.SinkDemand slot.Wanted front.SinkMode demand (mode ∷ ws) refl
    ∙ ap (λ b. num demand && b) (one front.SinkMode slot.Mode front.SinkRevision mode ws refl
    ∙ ap (λ b. is_some (mode_of mode) && b) (revised ws))))

dropped : (sink word : List ℕ) (ws : Words) → accepts front.SinkMax (word ∷ ws)
    ≡ is_some (if bytes_eq word (codes "drop") then alone (edits.DropSink sink) ws else sink_from sink word ws)
dropped sink word ws =
    two front.SinkMax slot.Max front.SinkDemand slot.Drop front.Whole word ws refl
    ∙ by_word (bytes_eq word (codes "drop")) refl where
      by_word : (b : Bool) → bytes_eq word (codes "drop") ≡ b
          → (if num word then accepts front.SinkDemand ws else (b && accepts front.Whole ws))
          ≡ is_some (if b then alone (edits.DropSink sink) ws else sink_from sink word ws)
      by_word true same =
          ap (λ b. if b then accepts front.SinkDemand ws else accepts front.Whole ws) (is_word word (codes "drop") num refl same)
          ∙ plain (edits.DropSink sink) ws
      by_word false other = as_and (num word) (accepts front.SinkDemand ws) ∙ sym (sunk sink word ws)

sink : (ws : Words) → accepts front.SinkName ws ≡ is_some (sink_of ws)
sink [] = at_end front.SinkName
sink (n ∷ []) =
    one front.SinkName slot.Name front.SinkMax n [] refl ∙ ap (λ b. is_name n && b) (at_end front.SinkMax) ∙ and_false (is_name n)
sink (n ∷ word ∷ ws) =
    one front.SinkName slot.Name front.SinkMax n (word ∷ ws) refl
    ∙ sym (bind (name n) _ (accepts front.SinkMax (word ∷ ws)) (λ s. sym (dropped s word ws))
    ∙ ap (λ b. b && accepts front.SinkMax (word ∷ ws)) (named n))

-- ---- caps

-- pairs of numbers, at most so many
abbrev few : ℕ → Words → Bool
few k [] = true
few zero (w ∷ ws) = false
few (suc k) (w ∷ []) = false
few (suc k) (v ∷ w ∷ ws) = num v && (num w && few k ws)

none_more : (ws : Words) → accepts front.Whole ws ≡ few zero ws
none_more [] = whole []
none_more (w ∷ ws) = whole (w ∷ ws)

pair_more : (f g t : Front) → rows f ≡ (slot.Mv ⇒ g) ∷ [] → rows g ≡ (slot.Ma ⇒ t) ∷ [] → may_end f ≡ true → may_end g ≡ false → (k : ℕ)
    → ((ws : Words) → accepts t ws ≡ few k ws) → (ws : Words) → accepts f ws ≡ few (suc k) ws
pair_more f g t mv ma ends open_ended k more [] = at_end f ∙ ends
pair_more f g t mv ma ends open_ended k more (v ∷ []) =
    one f slot.Mv g v [] mv ∙ ap (λ b. num v && b) (at_end g ∙ open_ended) ∙ and_false (num v)
pair_more f g t mv ma ends open_ended k more (v ∷ w ∷ ws) =
    one f slot.Mv g v (w ∷ ws) mv ∙ ap (λ b. num v && b) (one g slot.Ma t w ws ma ∙ ap (λ b. num w && b) (more ws))

behind_six : (ws : Words) → accepts front.SeventhMv ws ≡ few 1 ws
behind_six ws = pair_more front.SeventhMv front.SeventhMa front.Whole refl refl refl refl 0 none_more ws

behind_five : (ws : Words) → accepts front.SixthMv ws ≡ few 2 ws
behind_five ws = pair_more front.SixthMv front.SixthMa front.SeventhMv refl refl refl refl 1 behind_six ws

behind_four : (ws : Words) → accepts front.FifthMv ws ≡ few 3 ws
behind_four ws = pair_more front.FifthMv front.FifthMa front.SixthMv refl refl refl refl 2 behind_five ws

behind_three : (ws : Words) → accepts front.FourthMv ws ≡ few 4 ws
behind_three ws = pair_more front.FourthMv front.FourthMa front.FifthMv refl refl refl refl 3 behind_four ws

behind_two : (ws : Words) → accepts front.ThirdMv ws ≡ few 5 ws
behind_two ws = pair_more front.ThirdMv front.ThirdMa front.FourthMv refl refl refl refl 4 behind_three ws

behind_one : (ws : Words) → accepts front.SecondMv ws ≡ few 6 ws
behind_one ws = pair_more front.SecondMv front.SecondMa front.ThirdMv refl refl refl refl 5 behind_two ws

-- one pair at least
abbrev some_pairs : Words → Bool
some_pairs [] = false
some_pairs (w ∷ ws) = few 7 (w ∷ ws)

first_pair : (ws : Words) → accepts front.FirstMv ws ≡ some_pairs ws
first_pair [] = at_end front.FirstMv
first_pair (v ∷ []) =
    one front.FirstMv slot.Mv front.FirstMa v [] refl ∙ ap (λ b. num v && b) (at_end front.FirstMa) ∙ and_false (num v)
first_pair (v ∷ w ∷ ws) =
    one front.FirstMv slot.Mv front.FirstMa v (w ∷ ws) refl
    ∙ ap (λ b. num v && b) (one front.FirstMa slot.Ma front.SecondMv w ws refl ∙ ap (λ b. num w && b) (behind_one ws))

-- at most so many supplies were read, and one at least
abbrev counts : ℕ → Option (List WrittenSupply) → Bool
counts k None = false
counts k (Some supplies) = nat_le (length supplies) k

abbrev more_counts : ℕ → Option (List WrittenSupply) → Bool
more_counts k None = false
more_counts k (Some supplies) = nat_le (suc (length supplies)) k

abbrev some_count : Option (List WrittenSupply) → Bool
some_count None = false
some_count (Some supplies) = nat_le 1 (length supplies) && nat_le (length supplies) 7

abbrev pair : Option ℕ → Option ℕ → Option (List WrittenSupply) → Option (List WrittenSupply)
pair mv ma rest =
    option_and_then (λ v. option_and_then (λ a. option_and_then (λ supplies. Some (record { mv = v; ma = a } ∷ supplies)) rest) ma) mv

counts_pair : (k : ℕ) (mv ma : Option ℕ) (rest : Option (List WrittenSupply))
    → counts k (pair mv ma rest) ≡ is_some mv && (is_some ma && more_counts k rest)
counts_pair k None ma rest = refl
counts_pair k (Some v) None rest = refl
counts_pair k (Some v) (Some a) None = refl
counts_pair k (Some v) (Some a) (Some supplies) = refl

some_pair : (mv ma : Option ℕ) (rest : Option (List WrittenSupply)) → some_count (pair mv ma rest) ≡ counts 7 (pair mv ma rest)
some_pair None ma rest = refl
some_pair (Some v) None rest = refl
some_pair (Some v) (Some a) None = refl
some_pair (Some v) (Some a) (Some supplies) = ap (λ b. b && nat_le (suc (length supplies)) 7) (one_at_least (length supplies)) where
  one_at_least : (n : ℕ) → nat_le 1 (suc n) ≡ true
  one_at_least n = grind (arith, nat_tests)

none_at_least : (n : ℕ) → nat_le 0 n ≡ true
none_at_least n = grind (arith, nat_tests)

no_more : (rest : Option (List WrittenSupply)) → more_counts zero rest ≡ false
no_more None = refl
no_more (Some supplies) = above (length supplies) where
  above : (n : ℕ) → nat_le (suc n) 0 ≡ false
  above n = grind (arith, nat_tests)

one_less : (k : ℕ) (rest : Option (List WrittenSupply)) → more_counts (suc k) rest ≡ counts k rest
one_less k None = refl
one_less k (Some supplies) = same (length supplies) k where
  same : (n k : ℕ) → nat_le (suc n) (suc k) ≡ nat_le n k
  same n k = grind (arith, nat_tests)

supplied : (k : ℕ) (ws : Words) → counts k (supplies_of ws) ≡ few k ws
supplied k [] = none_at_least k
supplied zero (w ∷ []) = refl
supplied (suc k) (w ∷ []) = refl
supplied zero (v ∷ w ∷ ws) =
    counts_pair zero (number v) (number w) (supplies_of ws)
    ∙ ap (λ b. num v && (num w && b)) (no_more (supplies_of ws)) ∙ ap (λ b. num v && b) (and_false (num w)) ∙ and_false (num v)
supplied (suc k) (v ∷ w ∷ ws) =
    counts_pair (suc k) (number v) (number w) (supplies_of ws)
    ∙ ap (λ b. num v && (num w && b)) (one_less k (supplies_of ws) ∙ supplied k ws)

counted : (o : Option (List WrittenSupply)) → is_some (option_and_then few_supplies o) ≡ some_count o
counted None = refl
counted (Some supplies) = if_some (nat_le 1 (length supplies) && nat_le (length supplies) 7) _

with_pairs : (ws : Words) → is_some (with_supplies [] ws) ≡ some_pairs ws
with_pairs [] = refl
with_pairs (w ∷ []) = refl
with_pairs (v ∷ w ∷ ws) =
    counted (supplies_of (v ∷ w ∷ ws)) ∙ some_pair (number v) (number w) (supplies_of ws) ∙ supplied 7 (v ∷ w ∷ ws)

caps : (ws : Words) → accepts front.CapsPort ws ≡ is_some (caps_of ws)
caps [] = at_end front.CapsPort
caps (port ∷ ws) =
    one front.CapsPort slot.Port front.FirstMv port ws refl ∙ ap (λ b. num port && b) (first_pair ws)
    ∙ sym (bind (number port) _ (some_pairs ws) (λ p. done (with_supplies [] ws) (edits.Caps p) ∙ with_pairs ws))

-- ---- show, and a whole line

show : (ws : Words) → accepts front.Shown ws ≡ is_some (show_of ws)
show [] = at_end front.Shown
show (word ∷ ws) =
    moves front.Shown word ws
    ∙ pick (bytes_eq word (codes "transcript")) slot.Transcript front.LastPort _ _ _ _ ws
    (last_port ws ∙ sym (one_is shows.Transcript ws))
    (pick (bytes_eq word (codes "contracts")) slot.Contracts front.Whole _ _ _ _ ws (plain shows.Contracts ws)
    (pick (bytes_eq word (codes "faults")) slot.Faults front.Whole _ _ _ _ ws (plain shows.Faults ws)
    (pick (bytes_eq word (codes "margins")) slot.Margins front.Whole None _ None _ ws (plain shows.Margins ws)
    (none_left ws))))

edited : (f : Front) (ws : Words) (o : Option Edit) → accepts f ws ≡ is_some o → accepts f ws ≡ is_some (option_map lines.Edit o)
edited f ws o h = h ∙ sym (mapped lines.Edit o)

start : (ws : Words) → accepts front.Start ws ≡ is_some (command_of ws)
start [] = at_end front.Start
start (word ∷ ws) =
    moves front.Start word ws
    ∙ pick (bytes_eq word (codes "insert")) slot.Insert front.InsertId _ _ _ _ ws (edited _ ws _ (insert ws))
    (pick (bytes_eq word (codes "remove")) slot.Remove front.LastId _ _ _ _ ws
    (edited _ ws _ (last_id ws ∙ sym (one_is edits.Remove ws)))
    (pick (bytes_eq word (codes "move")) slot.Move front.MoveId _ _ _ _ ws
    (edited _ ws _ (move_id ws ∙ sym (two_is edits.Move ws)))
    (pick (bytes_eq word (codes "change")) slot.Change front.ChangeId _ _ _ _ ws (edited _ ws _ (change ws))
    (pick (bytes_eq word (codes "cable")) slot.Cable front.CableName _ _ _ _ ws (edited _ ws _ (cable ws))
    (pick (bytes_eq word (codes "sink")) slot.Sink front.SinkName _ _ _ _ ws (edited _ ws _ (sink ws))
    (pick (bytes_eq word (codes "caps")) slot.Caps front.CapsPort _ _ _ _ ws (edited _ ws _ (caps ws))
    (pick (bytes_eq word (codes "floor")) slot.Floor front.FloorPort _ _ _ _ ws
    (edited _ ws _ (floor_port ws ∙ sym (two_is edits.Floor ws)))
    (pick (bytes_eq word (codes "budget")) slot.Budget front.LastMw _ _ _ _ ws
    (edited _ ws _ (last_mw ws ∙ sym (one_is edits.Budget ws)))
    (pick (bytes_eq word (codes "end")) slot.End front.LastAt _ _ _ _ ws
    (edited _ ws _ (last_at ws ∙ sym (one_is edits.End ws)))
    (pick (bytes_eq word (codes "show")) slot.Show front.Shown None _ None _ ws
    (show ws ∙ sym (mapped lines.Show (show_of ws)))
    (none_left ws)))))))))))

is_table : (line : List ℕ) → accepts front.Start (words line) ≡ is_of_table line
unfolding accepts
is_table line = refl

pub table_is_grammar : TableIsGrammar
table_is_grammar line =
    by_tests (is_comment line || are_spaces line) (nat_lt 256 (length line)) refl
    ∙ ap (λ b. (is_comment line || are_spaces line) || (nat_le (length line) 256 && b)) whole_line where
      whole_line : is_some (command_of (words line)) ≡ is_of_table line
      whole_line = sym (start (words line)) ∙ is_table line

      read : (o : Option Line) → is_ok (ok_or o Syntax) ≡ is_some o
      read None = refl
      read (Some x) = refl

      short : (n : ℕ) (b : Bool) → nat_lt 256 n ≡ b → nat_le n 256 ≡ not b
      short n true e = grind (arith, nat_tests)
      short n false e = grind (arith, nat_tests)

      by_tests : (a b : Bool) → nat_lt 256 (length line) ≡ b
          → is_ok (if a then Ok lines.Skip else if b then Err Syntax else ok_or (command_of (words line)) Syntax)
          ≡ (a || (nat_le (length line) 256 && is_some (command_of (words line))))
      by_tests true b e = refl
      by_tests false true e = sym (ap (λ c. c && is_some (command_of (words line))) (short (length line) true e))
      by_tests false false e =
          read (command_of (words line)) ∙ sym (ap (λ c. c && is_some (command_of (words line))) (short (length line) false e))
