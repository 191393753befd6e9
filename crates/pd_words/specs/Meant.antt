-- Which command of `pdlab` words are about that ask for nothing.
use Rattle.std.specs.Prelude.{List, [], ◌∷◌, bytes_eq, codes, find, map, Option, if◌then◌else◌}
use Rattle.std.specs.Option.{option_or}
use Rattle.clap.specs.Words.{Shape, Text}
use Rattle.pd_hints.specs.Slips.{nearest}
use Rattle.pd_words.specs.Lab.{lab}

-- the word that is to name a command: the first behind the program's name, or the one behind `help`
abbrev pub front : List Text → Text
front [] = []
front (word ∷ words) = word

abbrev pub behind_name : List Text → Text
behind_name [] = []
behind_name (word ∷ words) = if bytes_eq word (codes "help") then front words else word

abbrev pub topic : List Text → Text
topic [] = []
topic (name ∷ words) = behind_name words

unfoldable pub names : List Text
names = map (λ (s : Shape). s.name) lab.subs

-- the command of that name, or the one of whose name it is a slip
abbrev pub meant : Text → Option Text
meant word = option_or (find (bytes_eq word) names) (nearest word names)
