-- What is asked, by its words: `least power 1, less power 2, margin`.
use Rattle.std.specs.Prelude.{ℕ, ◌==◌, ◌&&◌, nat_le, Bool, true, false, List, [], ◌∷◌, if◌then◌else◌, Option, None, Some, length}
use Rattle.std.specs.Prelude.{option_and_then, take, drop, bytes_eq}
use Rattle.pd_edit_lines.specs.Words.{number}
use Rattle.pd_vary.specs.Sets.{parts}
use Rattle.pd_vary.specs.Tellings.{name_of}
use Rattle.pd_vary.specs.declared.ask.Ask.{Ask}
use Rattle.pd_vary.specs.declared.ask.What.{What}
use Rattle.pd_vary.specs.declared.ask.What.TheVariants as what

-- it is of a port, or of the charger
abbrev pub is_of_port : What → Bool
is_of_port what.Margin = false
is_of_port what.LowestAt = false
is_of_port what.Faults = false
is_of_port what.HardResets = false
is_of_port other = true

abbrev pub whats : List What
whats = what.Voltage ∷ what.Current ∷ what.Power ∷ what.LeastPower ∷ what.GreatestPower ∷ what.LessPower ∷ what.MorePower
    ∷ what.DiffersUntil ∷ what.Margin ∷ what.LowestAt ∷ what.Faults ∷ what.HardResets ∷ []

-- a port is 1 to 8
abbrev pub of_port : What → Option ℕ → Option Ask
of_port what None = None
of_port what (Some port) = if nat_le 1 port && nat_le port 8 then Some (record { what = what; port = port }) else None

-- what stands behind the name: a blank and a port, or nothing
abbrev pub ask_by : What → Bool → List ℕ → Option Ask
ask_by what true (c ∷ digits) = if c == 32 then of_port what (number digits) else None
ask_by what true [] = None
ask_by what false [] = Some (record { what = what; port = 0 })
ask_by what false (c ∷ cs) = None

-- what stands behind these bytes, where the text begins with them
abbrev pub behind : List ℕ → List ℕ → Option (List ℕ)
behind name text = if bytes_eq (take (length name) text) name then Some (drop (length name) text) else None

abbrev pub ask_with : List ℕ → What → Option Ask
ask_with text what = option_and_then (ask_by what (is_of_port what)) (behind (name_of what) text)

abbrev pub or_else : Option Ask → Option Ask → Option Ask
or_else None other = other
or_else (Some ask) other = Some ask

-- the first of them that the words name
unfoldable pub ask_among : List What → List ℕ → Option Ask
ask_among [] text = None
ask_among (what ∷ more) text = or_else (ask_with text what) (ask_among more text)

-- a blank may stand before it
abbrev pub without_blank : List ℕ → List ℕ
without_blank [] = []
without_blank (c ∷ cs) = if c == 32 then cs else c ∷ cs

abbrev pub ask_of : List ℕ → Option Ask
ask_of text = ask_among whats (without_blank text)

abbrev pub with_ask : Option Ask → Option (List Ask) → Option (List Ask)
with_ask (Some ask) (Some asks) = Some (ask ∷ asks)
with_ask _ _ = None

-- all of them, with commas between them
unfoldable pub all_asks : List (List ℕ) → Option (List Ask)
all_asks [] = Some []
all_asks (text ∷ texts) = with_ask (ask_of text) (all_asks texts)

abbrev pub asks_of : List ℕ → Option (List Ask)
asks_of text = all_asks (parts text)
