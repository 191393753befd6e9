use Rattle.std.proofs.Common.{◌≡◌, ◌++◌, map, take}
use Rattle.std.specs.List.{flat_map}
use Rattle.pd_text.specs.Pieces.{piece_of}
use Rattle.pd_text.specs.Texts.{text_of}
use Rattle.pd_text.proofs.line.push_pieces.Given as goal

abbrev pub invariant-loop-piece : goal.invariant-loop-piece
invariant-loop-piece l = l.text.items ≡ l.initial.text.items ++ flat_map (text_of l.form) (map piece_of (take l.piece-index l.pieces))
