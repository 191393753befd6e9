-- What is told of a text begins with the number that it is answered by.
use Rattle.std.proofs.Common.{◌≡◌, ◌⊎◌, ℕ, ◌+◌, ◌-◌, ◌<◌, ◌≤◌, ◌^◌, ◌/◌, ◌%◌, Bool, true, false, ◌==◌, List, [], ◌∷◌, ◌++◌, codes}
use Rattle.std.proofs.Common.{decimal, length}
use Rattle.std.proofs.Common.{nat_lt, take, drop, refl, sym, ap, ◌∙◌, subst, arith, inl, inr, Ok, Err, Some, None, append_assoc}
use Rattle.std.specs.Prelude.{Result, Option, filter, if◌then◌else◌}
use Rattle.std.specs.List.{flat_map}
use Rattle.std.specs.Str.{is_utf8}
use Rattle.std.proofs.lemmas.Bool.{cases_Bool, cases_lt}
use Rattle.std.proofs.lemmas.Bool.Decides.{nat_tests}
use Rattle.std.proofs.lemmas.List.{take-append-drop, take-append-le, length-append}
use Rattle.std.proofs.lemmas.List.Elements.{filter-append}
use Rattle.std.proofs.lemmas.Fmt.{decimal_by_steps}
use Rattle.std.proofs.Math.Seq.{take-append-add}
use Rattle.pd_text.specs.declared.piece.Form.{Form}
use Rattle.pd_text.specs.declared.piece.Form.TheVariants.{Words, Json}
use Rattle.pd_text.specs.Strings.{ascii_byte, escaped_byte, hex_digit, shown, string_text}
use Rattle.pd_text.specs.Texts.{key_text, line_end, text_of_all}
use Rattle.pd_text.specs.Fronts.{FrontData, line_with, refusal_pieces, said}
use Rattle.toml.specs.Data.{Members}
use Rattle.toml.specs.Errors.{span_start}
use Rattle.pd_scenario_tables.specs.declared.fault.ScenarioFault.{ScenarioFault}
use Rattle.pd_scenario_tables.specs.declared.fault.ScenarioFault.TheVariants.{Toml, UnknownKey, WrongType, MissingKey, Range, Name}
use Rattle.pd_scenario_tables.specs.declared.fault.ScenarioFault.TheVariants.{Duplicate, Supplies, Floors, UnknownName, Limit, Memory}
use Rattle.pd_scenario_tables.specs.Numbers.{number_of}
use Rattle.pd_scenario_tables.specs.Ports.{counted}
use Rattle.pd_scenario_text.specs.Reading.{reading, IsTextOf}
use Rattle.pd_misfits.specs.Marks.{AreMarks, LinesData, line_of}
use Rattle.pd_misfits.specs.Spots.{line_pieces, refused_front}
use Rattle.pd_misfits.proofs.Found.{lines_are_right}
use Rattle.pd_misfits.specs.Texts.{ends_line, line_at, syntax_front, TellsSyntax}
use Rattle.pd_places.specs.FirstLines.{line_count, most_places}
use Rattle.pd_places.specs.Places.{IsCut, IsShort, more_text, one_line_byte, one_line, file_of, places_text, TellsPlaces}
use Rattle.pd_places.specs.Places.{file_with, TellsTables}
use Rattle.pd_places.specs.First.{BeginsWith, IsRefusedFor, IsAnswered, TellsFirst}
use Rattle.pd_places.proofs.LeastFirst.{least_first}

-- ---- no line ends in what stands before a sentence

nothing_first : (xs ys : List ℕ) → xs ++ ys ≡ [] → xs ≡ []
nothing_first [] ys h = refl
nothing_first (x ∷ xs) ys h = absurd (cc)

none_in_part : (n : ℕ) (xs : List ℕ) → filter ends_line xs ≡ [] → filter ends_line (take n xs) ≡ []
none_in_part n xs none =
    nothing_first (filter ends_line (take n xs)) (filter ends_line (drop n xs))
    (sym (filter-append ends_line (take n xs) (drop n xs)) ∙ ap (filter ends_line) (take-append-drop n xs) ∙ none)

none_in_both : (xs ys : List ℕ) → filter ends_line xs ≡ [] → filter ends_line ys ≡ [] → filter ends_line (xs ++ ys) ≡ []
none_in_both xs ys one other = filter-append ends_line xs ys ∙ ap (λ v. v ++ filter ends_line ys) one ∙ other

no_end : (byte : ℕ) → ends_line (one_line_byte byte) ≡ false
no_end byte = elim (cases_Bool (byte == 10)) [ inl end ↦ rw end refl | inr other ↦ rw other other ]

none_in_name : (name : List ℕ) → filter ends_line (one_line name) ≡ []
none_in_name [] = refl
none_in_name (byte ∷ name) = rw (no_end byte) (none_in_name name)

digit_ends : (n : ℕ) → ends_line (48 + n) ≡ false
digit_ends n = grind (arith, nat_tests)

no_digit : (n : ℕ) → filter ends_line ((48 + n) ∷ []) ≡ []
no_digit n = rw (digit_ends n) refl

none_in_number : (n : ℕ) → n < 2 ^ 64 → filter ends_line (decimal n) ≡ []
none_in_number n small =
    decimal_by_steps (λ k ds. filter ends_line ds ≡ []) (λ k less. no_digit k)
    (λ k ds least h. none_in_both ds ((48 + k % 10) ∷ []) h (no_digit (k % 10))) n small

small_number : (k : ScenarioFault) → number_of k < 2 ^ 64
small_number Toml = omega arith
small_number UnknownKey = omega arith
small_number WrongType = omega arith
small_number MissingKey = omega arith
small_number Range = omega arith
small_number Name = omega arith
small_number Duplicate = omega arith
small_number Supplies = omega arith
small_number Floors = omega arith
small_number UnknownName = omega arith
small_number Limit = omega arith
small_number Memory = omega arith

-- ---- nor in a name that is escaped

no_hex : (n : ℕ) → filter ends_line (hex_digit n ∷ []) ≡ []
no_hex n = elim (cases_Bool (nat_lt n 10)) [ inl small ↦ rw small (no_digit n) | inr large ↦ rw (large, letter_ends n) refl ]
  where
    letter_ends : (m : ℕ) → ends_line (87 + m) ≡ false
    letter_ends m = grind (arith, nat_tests)

none_in_control : (byte : ℕ) → filter ends_line (codes "\\u00" ++ (hex_digit (byte / 16) ∷ hex_digit (byte % 16) ∷ [])) ≡ []
none_in_control byte =
    none_in_both (codes "\\u00") (hex_digit (byte / 16) ∷ hex_digit (byte % 16) ∷ []) refl
    (none_in_both (hex_digit (byte / 16) ∷ []) (hex_digit (byte % 16) ∷ []) (no_hex (byte / 16)) (no_hex (byte % 16)))

printed_ends : (byte : ℕ) → nat_lt byte 32 ≡ false → ends_line byte ≡ false
printed_ends byte h = grind (arith, nat_tests)

none_in_escape : (byte : ℕ) → filter ends_line (escaped_byte byte) ≡ []
none_in_escape byte =
    elim (cases_Bool (byte == 34)) [
      | inl quote ↦ rw quote refl
      | inr other ↦
          elim (cases_Bool (byte == 92)) [
            | inl slash ↦ rw (other, slash) refl
            | inr more ↦
                elim (cases_Bool (nat_lt byte 32)) [
                  | inl control ↦ rw (other, more, control) (none_in_control byte)
                  | inr printed ↦ rw (other, more, printed, printed_ends byte printed) refl
                ]
          ]
    ]

none_in_ascii : (byte : ℕ) → filter ends_line (ascii_byte byte) ≡ []
none_in_ascii byte =
    elim (cases_Bool (nat_lt byte 128)) [ inl ascii ↦ rw ascii (none_in_escape byte) | inr beyond ↦ rw beyond refl ]

none_in_each : (shown : ℕ → List ℕ) → ((byte : ℕ) → filter ends_line (shown byte) ≡ []) → (bytes : List ℕ)
    → filter ends_line (flat_map shown bytes) ≡ []
none_in_each shown none [] = refl
none_in_each shown none (byte ∷ bytes) = none_in_both (shown byte) (flat_map shown bytes) (none byte) (none_in_each shown none bytes)

none_in_string : (name : List ℕ) → filter ends_line (string_text name) ≡ []
unfolding string_text
none_in_string name = none_in_both (34 ∷ []) (shown name ++ 34 ∷ []) refl (none_in_both (shown name) (34 ∷ []) (by (is_utf8 name)) refl)
  where
    by : (b : Bool) → filter ends_line (if b then flat_map escaped_byte name else flat_map ascii_byte name) ≡ []
    by true = none_in_each escaped_byte none_in_escape name
    by false = none_in_each ascii_byte none_in_ascii name

-- ---- nor in the front of a refusal

none_in_file : (form : Form) (name : List ℕ) → filter ends_line (file_of form name).text ≡ []
unfolding text_of_all
none_in_file Words name = none_in_both (one_line name) [] (none_in_name name) refl
none_in_file Json name =
    none_in_both (codes "{\"file\":") (string_text name ++ []) refl (none_in_both (string_text name) [] (none_in_string name) refl)

none_in_number_of : (k : ScenarioFault) → filter ends_line (decimal (number_of k)) ≡ []
none_in_number_of k = none_in_number (number_of k) (small_number k)

none_in_refusal : (form : Form) (k : ScenarioFault) → filter ends_line (text_of_all form (refusal_pieces (number_of k))) ≡ []
unfolding text_of_all key_text
none_in_refusal Words k =
    none_in_both (codes ": refused " ++ decimal (number_of k)) (codes ": ")
    (none_in_both (codes ": refused ") (decimal (number_of k)) refl (none_in_number_of k)) refl
none_in_refusal Json k =
    none_in_both (codes ",\"refusal\":" ++ decimal (number_of k)) []
    (none_in_both (codes ",\"refusal\":") (decimal (number_of k)) refl (none_in_number_of k)) refl

-- a number that a line has, where one is found
abbrev Fits : Option ℕ → Type 0
Fits line = (n : ℕ) → line ≡ Some n → n < 2 ^ 64

none_in_line : (form : Form) (line : Option ℕ) → Fits line → filter ends_line (text_of_all form (line_pieces line)) ≡ []
unfolding text_of_all key_text
none_in_line Words None fits = refl
none_in_line Json None fits = refl
none_in_line Words (Some n) fits =
    none_in_both (codes ":" ++ decimal n) [] (none_in_both (codes ":") (decimal n) refl (none_in_number n (fits n refl))) refl
none_in_line Json (Some n) fits =
    none_in_both (codes ",\"line\":" ++ decimal n) []
    (none_in_both (codes ",\"line\":") (decimal n) refl (none_in_number n (fits n refl))) refl

none_in_words : (name : List ℕ) (line : Option ℕ) (k : ScenarioFault) → Fits line
    → filter ends_line (refused_front (file_of Words name) line k).text ≡ []
none_in_words name line k fits =
    none_in_both ((file_of Words name).text ++ text_of_all Words (line_pieces line)) (text_of_all Words (refusal_pieces (number_of k)))
    (none_in_both (file_of Words name).text (text_of_all Words (line_pieces line)) (none_in_file Words name) (none_in_line Words line fits))
    (none_in_refusal Words k)

none_in_object : (name : List ℕ) (line : Option ℕ) (k : ScenarioFault) → Fits line
    → filter ends_line (refused_front (file_of Json name) line k).text ≡ []
none_in_object name line k fits =
    none_in_both ((file_of Json name).text ++ text_of_all Json (line_pieces line)) (text_of_all Json (refusal_pieces (number_of k)))
    (none_in_both (file_of Json name).text (text_of_all Json (line_pieces line)) (none_in_file Json name) (none_in_line Json line fits))
    (none_in_refusal Json k)

none_in_front : (form : Form) (name : List ℕ) (line : Option ℕ) (k : ScenarioFault) → Fits line
    → filter ends_line (refused_front (file_of form name) line k).text ≡ []
none_in_front Words name line k fits = none_in_words name line k fits
none_in_front Json name line k fits = none_in_object name line k fits

-- the line that is found has such a number
line_fits : (text : List ℕ) (lines : LinesData) (table : List ℕ) (number : ℕ) (key : List ℕ) → AreMarks text lines
    → Fits (line_of lines table number key)
line_fits text lines table number key right n is =
    let (m, mark, same, named) = lines_are_right text lines table number key n right is in
    subst (λ x. x < 2 ^ 64) same mark.fits

-- ---- the first lines of a text begin with it

cut_past : (front rest : List ℕ) (cut : ℕ) → filter ends_line front ≡ [] → IsCut most_places (front ++ rest) cut → length front ≤ cut
cut_past front rest cut none is =
    elim (cases_lt cut (length front)) [
      | inl less ↦
          let long = length-append front rest in
          let within : cut < length (front ++ rest) = omega (arith, less, long) in
          let full : line_count (take cut (front ++ rest)) ≡ 20 = (is.full within).0 in
          let few : cut ≤ length front = omega (arith, less) in
          let empty : line_count (take cut (front ++ rest)) ≡ 0 =
          ap line_count (take-append-le cut front rest few) ∙ ap length (none_in_part cut front none) in
          absurd (omega (arith, full, empty))
      | inr past ↦ past
    ]

cut_begins : (front rest : List ℕ) (cut : ℕ) → length front ≤ cut → BeginsWith front (take cut (front ++ rest))
cut_begins front rest cut past =
    let left = cut - length front in
    let whole : cut ≡ length front + left = omega (arith, past) in
    (take left rest, ap (λ n. take n (front ++ rest)) whole ∙ take-append-add front rest left)

short_begins : (front file : FrontData) (text said : List ℕ) → filter ends_line front.text ≡ [] → BeginsWith front.text text
    → IsShort most_places file text said → BeginsWith front.text said
short_begins front file text said none (rest, is) (cut, is_cut, says) =
    let past = cut_past front.text rest cut none (subst (λ v. IsCut most_places v cut) is is_cut) in
    let (some, part) = cut_begins front.text rest cut past in
    let more = more_text file (nat_lt cut (length text)) in (
      some ++ more,
      says ∙ ap (λ v. take cut v ++ more) is ∙ ap (λ v. v ++ more) part ∙ append_assoc front.text some more,
    )

-- ---- the tables that a text is

one_table : (text : List ℕ) (s t : Members) → IsTextOf text s → IsTextOf text t → s ≡ t
one_table text s t a b =
    let p = a.parsed in
    let q = b.parsed in
    cc

abbrev CountedAs : List ℕ → Result ℕ ScenarioFault → Type 0
CountedAs text answer = (t : Members) × IsTextOf text t × (counted t ≡ answer)

abbrev RefusedFor : ScenarioFault → List ℕ → Type 0
RefusedFor k text =
    CountedAs text (Err k)
    ⊎ ((ports : ℕ) × CountedAs text (Ok ports) × ((t : Members) × IsTextOf text t × (reading ports t ≡ Err k)))

refused_table : (k : ScenarioFault) (text : List ℕ) (t : Members) → IsTextOf text t → RefusedFor k text → IsRefusedFor k t
refused_table k text t is (inl (s, of, uncounted)) = inl (subst (λ u. counted u ≡ Err k) (one_table text s t of is) uncounted)
refused_table k text t is (inr (ports, (s, of, counts), (u, too, reads))) =
    inr (
      ports,
      subst (λ v. counted v ≡ Ok ports) (one_table text s t of is) counts,
      subst (λ v. reading ports v ≡ Err k) (one_table text u t too is) reads,
    )

some_table : (k : ScenarioFault) (text : List ℕ) → RefusedFor k text → ((t : Members) → IsTextOf text t → ⊥) → ⊥
some_table k text (inl (s, of, uncounted)) none = none s of
some_table k text (inr (ports, (s, of, counts), more)) none = none s of

-- what is told of tables begins with the number of their refusal, behind some line
told_first : (form : Form) (name text said : List ℕ) (k : ScenarioFault) (t : Members) → IsRefusedFor k t
    → TellsTables (file_of form name) text t said
    → (line : Option ℕ) × BeginsWith (refused_front (file_of form name) line k).text said
told_first form name text said k t refused (lines, right, short) =
    let file = file_of form name in
    let (table, number, key, begins) = least_first (file_with file lines) k t refused in
    let line = line_of lines table number key in
    let none = none_in_front form name line k (line_fits text lines table number key right) in (
      line,
      short_begins (refused_front file line k) file (places_text (file_with file lines) t) said none begins short,
    )

tables_first : (form : Form) (name text said : List ℕ) (k : ScenarioFault) → RefusedFor k text → TellsPlaces (file_of form name) text said
    → (line : Option ℕ) × BeginsWith (refused_front (file_of form name) line k).text said
tables_first form name text said k refused (inl (t, is, told)) =
    told_first form name text said k t (refused_table k text t is refused) told
tables_first form name text said k refused (inr told) = absurd (some_table k text refused told.0)

-- ---- no TOML

no_table : (text : List ℕ) → IsAnswered Toml text → (t : Members) → IsTextOf text t → ⊥
no_table text (inl none) t is = none t is
no_table text (inr (ports, counts, none)) t is = none t is

syntax_begins : (file : FrontData) (text told : List ℕ) → TellsSyntax file text told → TellsFirst file Toml told
unfolding line_with
syntax_begins file text told (none, e, some, within, is) =
    let number = line_at text (span_start e) in
    let front = syntax_front file number in
    (number, (text_of_all front.form (said [] is.message is.hint) ++ line_end front.form, is.said_is))

syntax_first : (file : FrontData) (text told : List ℕ) → IsAnswered Toml text → TellsPlaces file text told → TellsFirst file Toml told
syntax_first file text told answered (inl (t, is, tables)) = absurd (no_table text answered t is)
syntax_first file text told answered (inr syntax) = syntax_begins file text told syntax

pub answer_first : (form : Form) (name text said : List ℕ) (k : ScenarioFault) → IsAnswered k text
    → TellsPlaces (file_of form name) text said → TellsFirst (file_of form name) k said
answer_first form name text said Memory answered told = tt
answer_first form name text said Toml answered told = syntax_first (file_of form name) text said answered told
answer_first form name text said k answered told = tables_first form name text said k answered told
