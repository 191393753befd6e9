-- The text of a scenario to begin with: a charger of so many ports, each key explained where it is first met. Its lines are those of
-- every written file (Lines.antt), with comments between.
use Rattle.std.specs.Prelude.{ℕ, ◌+◌, ◌*◌, ◌%◌, ◌==◌, List, [], ◌∷◌, ◌++◌, take, codes, decimal, if◌then◌else◌}
use Rattle.std.specs.List.{flat_map}
use Rattle.pd_scenario_tables.specs.declared.schema.Key.TheVariants as key
use Rattle.pd_scenario_tables.specs.Schema.{text_of}
use Rattle.pd_save.specs.Lines.{table_head, number_line, word_line}

unfoldable pub new_head : List ℕ
new_head =
    codes "# A charger to begin with. Change what you like, and look at it:\n"
    ++ (codes "#   pdlab explain FILE    where it breaks a rule, and what is surely not meant\n"
    ++ (codes "#   pdlab show FILE       its run\n#   pdlab draw FILE       a picture of its run\n\n"
    ++ codes "# The format of this file: 2 is the newest.\n"))

-- the top: 60 W for each port
unfoldable pub new_top : ℕ → List ℕ
new_top ports =
    new_head ++ (number_line key.Version 2
    ++ (codes "# When the run ends, in microseconds: here 4 s.\n" ++ (number_line key.End 4000000
    ++ (codes "# The power that the ports share, in mW: here 60 W for each.\n" ++ number_line key.Budget (60000 * ports)))))

-- ---- ports

unfoldable pub usual_supplies : List ℕ
usual_supplies = text_of key.Supplies ++ codes " = [[5000, 3000], [9000, 3000], [15000, 3000], [20000, 5000]]\n"

unfoldable pub constrained : List ℕ
constrained = text_of key.Unconstrained ++ codes " = false\n"

unfoldable pub first_options : List ℕ
first_options =
    codes "# How often the cable is asked who it is. One that is never asked carries 3,000 mA.\n" ++ (number_line key.IdentityTries 3
    ++ (codes "# Whether the port's offer says that its power is unconstrained.\n" ++ constrained))

unfoldable pub first_port : List ℕ
first_port =
    table_head key.Port
    ++ (codes "# Port 1. Ports are numbered from 1 in the order of this file; there may be 8.\n"
    ++ (codes "# The power that the port always holds, in mW. All floors add to at most the budget.\n" ++ (number_line key.Floor 7500
    ++ (codes "# What it offers: pairs of a voltage in mV and a current in mA. The first has 5,000 mV, and voltages rise.\n"
    ++ (usual_supplies ++ first_options)))))

-- what is left out is as in the first port: 3 tries, and not unconstrained
unfoldable pub other_port : ℕ → List ℕ
other_port number =
    table_head key.Port ++ (codes "# Port " ++ (decimal number ++ (codes ".\n" ++ (number_line key.Floor 7500 ++ usual_supplies))))

abbrev pub new_port : ℕ → List ℕ
new_port number = if number == 1 then first_port else other_port number

-- ---- cables and sinks

unfoldable pub thin_cable : List ℕ
thin_cable =
    table_head key.Cable ++ (codes "# A cable for 3 A. Events attach it by its name.\n" ++ (word_line key.Name (codes "thin")
    ++ (codes "# What its plug answers: \"none\" (no e-marker), \"ack\", \"nak\", \"busy\" or \"silent\".\n"
    ++ (word_line key.Plug (codes "none") ++ (codes "# The current that it is built for, in mA: 3000 or 5000.\n"
    ++ number_line key.Rating 3000)))))

unfoldable pub thick_cable : List ℕ
thick_cable =
    table_head key.Cable ++ (codes "# A cable for 5 A, whose e-marker says so.\n" ++ (word_line key.Name (codes "thick")
    ++ (word_line key.Plug (codes "ack") ++ number_line key.Rating 5000)))

unfoldable pub laptop_options : List ℕ
laptop_options =
    codes "# \"pd\"; \"plain\", without USB Power Delivery; \"greedy\", asks for what it needs whatever it is offered.\n"
    ++ (word_line key.Mode (codes "pd") ++ (codes "# Its revision of USB Power Delivery: 2 or 3.\n" ++ number_line key.Revision 3))

unfoldable pub laptop : List ℕ
laptop =
    table_head key.Sink ++ (codes "# A laptop.\n" ++ (word_line key.Name (codes "laptop")
    ++ (codes "# The greatest voltage that it accepts, in mV.\n" ++ (number_line key.Max 20000
    ++ (codes "# The power that it wants, in mW.\n" ++ (number_line key.Demand 60000 ++ laptop_options))))))

-- what is left out is as in the laptop: it speaks USB Power Delivery, of revision 3.0
unfoldable pub phone : List ℕ
phone =
    table_head key.Sink ++ (codes "# A phone.\n" ++ (word_line key.Name (codes "phone") ++ (number_line key.Max 9000
    ++ number_line key.Demand 18000)))

-- ---- events

-- the laptop comes through the cable for 5 A, the phone through that for 3 A
unfoldable pub laptop_comes : List ℕ
laptop_comes =
    word_line key.Kind (codes "attach") ++ (word_line key.Cable (codes "thick") ++ word_line key.Sink (codes "laptop"))

unfoldable pub phone_comes : List ℕ
phone_comes =
    word_line key.Kind (codes "attach") ++ (word_line key.Cable (codes "thin") ++ word_line key.Sink (codes "phone"))

-- something comes to each port: a laptop to every second one, from the first on, and a phone to the others
abbrev pub who_comes : ℕ → List ℕ
who_comes number = if number % 2 == 1 then laptop_comes else phone_comes

unfoldable pub event_lines : ℕ → ℕ → ℕ → List ℕ
event_lines id at port = number_line key.Id id ++ (number_line key.At at ++ number_line key.Port port)

unfoldable pub first_words : List ℕ
first_words =
    codes "# What happens, by a number of its own, at a time in microseconds, on a port. Its kind says which keys it has:\n"
    ++ codes "# attach, detach, demand, lose, damage, get_source, get_sink, and budget, which has no port.\n"

abbrev pub attach_words : ℕ → List ℕ
attach_words number = if number == 1 then first_words else []

unfoldable pub new_attach : ℕ → List ℕ
new_attach number =
    table_head key.Event ++ (attach_words number ++ (event_lines number 0 number ++ who_comes number))

-- the laptop of port 1 goes, and a phone comes
unfoldable pub laptop_goes : ℕ → List ℕ
laptop_goes id =
    table_head key.Event ++ (codes "# After 2 s the laptop leaves port 1 ..\n" ++ (event_lines id 2000000 1
    ++ word_line key.Kind (codes "detach")))

unfoldable pub phone_follows : ℕ → List ℕ
phone_follows id =
    table_head key.Event ++ (codes "# .. and half a second later a phone comes there.\n" ++ (event_lines id 2500000 1 ++ phone_comes))

-- ---- the whole

abbrev pub numbers : List ℕ
numbers = 1 ∷ 2 ∷ 3 ∷ 4 ∷ 5 ∷ 6 ∷ 7 ∷ 8 ∷ []

unfoldable pub new_parts : List ℕ
new_parts = thin_cable ++ (thick_cable ++ (laptop ++ phone))

unfoldable pub new_file : ℕ → List ℕ
new_file ports =
    new_top ports ++ (flat_map new_port (take ports numbers) ++ (new_parts ++ (flat_map new_attach (take ports numbers)
    ++ (laptop_goes (ports + 1) ++ phone_follows (ports + 2)))))
