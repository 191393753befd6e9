-- What the trials of each kind of message come to, as text: a line, an object or a row for each kind.
use Rattle.std.specs.Prelude.{ℕ, ◌-◌, ◌==◌, ◌&&◌, ◌||◌, nat_lt, not, Bool, if◌then◌else◌, List, [], ◌∷◌, ◌++◌, codes, decimal, length, take}
use Rattle.std.specs.Prelude.{Option, Some, None}
use Rattle.std.specs.List.{flat_map}
use Rattle.pd_header.specs.Kinds.{name_of}
use Rattle.pd_header.specs.declared.kind.Kind.{Kind}
use Rattle.pd_tell.specs.Members.{text_member}
use Rattle.pd_sweep.specs.Columns.{tally_members}
use Rattle.pd_sweep.specs.Tallies.{tally_words}
use Rattle.pd_sweep.specs.declared.form.Form.{Form}
use Rattle.pd_sweep.specs.declared.form.Form.TheVariants.{Words, Json, Csv}
use Rattle.pd_sweep.specs.declared.form.Look.{Look}
use Rattle.pd_sweep.specs.declared.tally.Lowest.{Lowest}
use Rattle.pd_sweep.specs.declared.tally.Tally.{Tally}
use Rattle.pd_sweep.specs.declared.tally.Worst.{Worst}
use Rattle.pd_sweep.specs.declared.tally.WorstOn.{WorstOn}

-- ---- words: the kind's summary in one line

-- a line's end becomes a semicolon
abbrev pub spaced : ℕ → List ℕ
spaced byte = if byte == 10 then codes "; " else byte ∷ []

-- some lines as one
abbrev pub in_one_line : List ℕ → List ℕ
in_one_line lines = flat_map spaced (take (length lines - 1) lines) ++ codes "\n"

abbrev pub kind_words : Option ℕ → Kind → Tally → List ℕ
kind_words reserve kind tally = name_of kind ++ (codes ": " ++ in_one_line (tally_words reserve tally))

-- ---- an object: the members of the summary

abbrev pub kind_member : Kind → List ℕ
kind_member kind = text_member (codes "message") (name_of kind)

abbrev pub kind_object : Option ℕ → Kind → Tally → List ℕ
kind_object reserve kind tally =
    codes "{\"kind\":\"message\"" ++ (kind_member kind ++ (tally_members reserve tally ++ codes "}\n"))

-- ---- a row: the numbers of the summary, without its packets

abbrev pub number_value : ℕ → List ℕ
number_value number = codes "," ++ decimal number

abbrev pub worst_value : Option Worst → List ℕ
worst_value None = codes ","
worst_value (Some w) = number_value w.by

abbrev pub worst_on_value : Option WorstOn → List ℕ
worst_on_value None = codes ","
worst_on_value (Some w) = number_value w.by

abbrev pub lowest_value : Option Lowest → List ℕ
lowest_value None = codes ","
lowest_value (Some l) = number_value l.margin.left

abbrev pub short_value : Option ℕ → ℕ → List ℕ
short_value None short = codes ","
short_value (Some mw) short = number_value short

abbrev pub count_values : Tally → List ℕ
count_values tally = number_value tally.tried ++ (number_value tally.different ++ number_value tally.changed)

abbrev pub worst_values : Tally → List ℕ
worst_values tally =
    worst_on_value tally.less ++ (worst_on_value tally.until ++ (worst_value tally.faults ++ worst_value tally.hard_resets))

abbrev pub kind_row : Option ℕ → Kind → Tally → List ℕ
kind_row reserve kind tally =
    name_of kind ++ (count_values tally ++ (worst_values tally ++ (lowest_value tally.margin ++ (short_value reserve tally.short
    ++ codes "\n"))))

abbrev pub kind_names : List ℕ
kind_names =
    codes "message,packets,different,other_contracts,less_power_us,differs_until_us,faults,hard_resets,least_margin_uw,left_less\n"

-- ---- all kinds

abbrev pub kind_text : Form → Option ℕ → Kind → Tally → List ℕ
kind_text Words reserve kind tally = kind_words reserve kind tally
kind_text Json reserve kind tally = kind_object reserve kind tally
kind_text Csv reserve kind tally = kind_row reserve kind tally

-- a kind is told of if some packet of it was tried; where only what differs is shown, if a loss of one made a difference
abbrev pub is_told : Look → Tally → Bool
is_told look tally = nat_lt 0 tally.tried && (not look.changed || nat_lt 0 tally.different)

abbrev pub kind_line : Look → Option ℕ → Kind → Tally → List ℕ
kind_line look reserve kind tally = if is_told look tally then kind_text look.form reserve kind tally else []

abbrev pub kind_lines : Look → Option ℕ → List Kind → List Tally → List ℕ
kind_lines look reserve [] tallies = []
kind_lines look reserve (kind ∷ others) [] = []
kind_lines look reserve (kind ∷ others) (tally ∷ tallies) = kind_line look reserve kind tally ++ kind_lines look reserve others tallies
