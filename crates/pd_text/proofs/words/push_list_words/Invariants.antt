use Rattle.std.proofs.Common.{◌≡◌, ◌++◌, map, take}
use Rattle.std.specs.List.{flat_map}
use Rattle.pd_text.specs.Pieces.{list_name_of}
use Rattle.pd_text.specs.Texts.{list_words}
use Rattle.pd_text.proofs.words.push_list_words.Given as goal

abbrev pub invariant-loop-name : goal.invariant-loop-name
invariant-loop-name l = l.text.items ≡ l.initial.text.items ++ flat_map list_words (map list_name_of (take l.name-index l.names))
