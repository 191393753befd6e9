-- Why it is refused: one sentence for each number of docs/FORMATS.md.
use Rattle.std.specs.Prelude.{ℕ, List, codes, Option, Some, None, ◌==◌, if◌then◌else◌}

-- the first that is there
abbrev pub first_of : Option (List ℕ) → Option (List ℕ) → Option (List ℕ)
first_of (Some text) other = Some text
first_of None other = other

-- of a scenario file
abbrev pub scenario_reason : ℕ → Option (List ℕ)
scenario_reason number =
    if number == 1 then Some (codes "the text is no TOML")
    else if number == 2 then Some (codes "a key is none of its table, or of its kind of event")
    else if number == 3 then Some (codes "a value is of another type, or a supply isn't two whole numbers")
    else if number == 4 then Some (codes "a table lacks a key that it needs")
    else if number == 5 then Some (codes "a number is out of its range, or the version, port, plug, rating, mode or kind is none there is")
    else if number == 6 then Some (codes "a name isn't 1 to 16 ASCII letters and digits")
    else if number == 7 then Some (codes "two cables or two sinks have one name, or two events one id")
    else if number == 8 then Some (codes "supplies are 1 to 7 pairs, the first of 5000 mV, of rising voltages")
    else if number == 9 then Some (codes "the floors add to more than the least budget")
    else if number == 10 then Some (codes "no cable, or no sink, has the name that an attach gives")
    else if number == 11 then Some (codes "there are 1 to 8 ports, and at most 4096 events, 64 cables and 64 sinks")
    else if number == 12 then Some (codes "there was no memory for the file")
    else None

-- of an edit line
abbrev pub edit_reason : ℕ → Option (List ℕ)
edit_reason number =
    if number == 20 then Some (codes "a line is insert, remove, move, change, cable, sink, caps, floor, budget, end or show with its words")
    else if number == 21 then Some (codes "an event has this id already")
    else if number == 22 then Some (codes "no event has this id")
    else if number == 23 then Some (codes "no port has this number, or the event is a change of the budget, which is on no port")
    else if number == 24 then Some (codes "no cable, or no sink, has this name")
    else if number == 25 then Some (codes "an event names this cable or sink")
    else if number == 26 then Some (codes "a number is out of its range")
    else if number == 27 then Some (codes "supplies begin with 5000 mV, and their voltages rise")
    else if number == 28 then Some (codes "the floors would add to more than the least of the budget and its changes")
    else if number == 29 then Some (codes "there are 4096 events, 64 cables or 64 sinks already")
    else if number == 30 then Some (codes "there was no memory for the edit")
    else None

-- of a session that ended early
abbrev pub fault_reason : ℕ → Option (List ℕ)
fault_reason number =
    if number == 40 then Some (codes "the edits could not be read")
    else if number == 41 then Some (codes "the answers could not be written")
    else if number == 42 then Some (codes "there was no memory for the words or the first run")
    else if number == 43 then Some (codes "the edits have more than 16777216 bytes")
    else None

-- The numbers of the three are apart, so a number has one sentence at most.
abbrev pub reason_of : ℕ → Option (List ℕ)
reason_of number = first_of (scenario_reason number) (first_of (edit_reason number) (fault_reason number))
