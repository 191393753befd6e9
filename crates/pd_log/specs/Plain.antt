-- A name as it is looked up: its letters, and the strokes of a set's name, whatever their case, and what stands between or in brackets.
use Rattle.std.specs.Prelude.{ℕ, ◌+◌, ◌==◌, ◌&&◌, ◌||◌, nat_le, Bool, List, map, take, Option, Some, None, if◌then◌else◌}
use Rattle.std.specs.List.{filter, position_from}

abbrev pub is_bracket : ℕ → Bool
is_bracket c = c == 40 || c == 91

abbrev pub small : ℕ → ℕ
small c = if nat_le 65 c && nat_le c 90 then c + 32 else c

-- a letter, ' or "
abbrev pub is_of_a_name : ℕ → Bool
is_of_a_name c = (nat_le 97 (small c) && nat_le (small c) 122) || (c == 39 || c == 34)

-- what stands before the first bracket
abbrev pub unbracketed : List ℕ → List ℕ
unbracketed name = up_to name (position_from is_bracket 0 name)
  where
    up_to : List ℕ → Option ℕ → List ℕ
    up_to name (Some place) = take place name
    up_to name None = name

-- SOP_PRIME_PRIME is sopprimeprime, and Timestamp (us) is timestamp
abbrev pub plain : List ℕ → List ℕ
plain name = map small (filter is_of_a_name (unbracketed name))
