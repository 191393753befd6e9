use Rattle.std.proofs.Common.{◌≡◌, ◌++◌, map, take}
use Rattle.std.specs.List.{flat_map}
use Rattle.pd_expect.specs.Xml.{piece_text, xml_of}
use Rattle.pd_expect.proofs.xml.push_xml.Given as goal

abbrev pub invariant-loop-piece : goal.invariant-loop-piece
invariant-loop-piece l = l.text.items ≡ l.initial.text.items ++ flat_map piece_text (map xml_of (take l.piece-index l.pieces))
