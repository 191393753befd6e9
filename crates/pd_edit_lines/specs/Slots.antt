-- What may stand at a place of a line of an edit script: docs/FORMATS.md, "Edit script".
use Rattle.std.specs.Prelude.{ℕ, List, [], codes, Bool, is_some, bytes_eq}
use Rattle.pd_scenario.specs.Names.{is_name}
use Rattle.pd_scenario.specs.Words.{mode_of, plug_of}
use Rattle.pd_edit_lines.specs.Words.{number}
use Rattle.pd_edit_lines.specs.declared.slot.Slot.{Slot}
use Rattle.pd_edit_lines.specs.declared.slot.Slot.TheVariants as slot

-- the word that stands for itself; of another form none
abbrev pub keyword_of : Slot → List ℕ
keyword_of slot.Insert = codes "insert"
keyword_of slot.Remove = codes "remove"
keyword_of slot.Move = codes "move"
keyword_of slot.Change = codes "change"
keyword_of slot.Cable = codes "cable"
keyword_of slot.Sink = codes "sink"
keyword_of slot.Caps = codes "caps"
keyword_of slot.Floor = codes "floor"
keyword_of slot.Budget = codes "budget"
keyword_of slot.End = codes "end"
keyword_of slot.Show = codes "show"
keyword_of slot.Attach = codes "attach"
keyword_of slot.Detach = codes "detach"
keyword_of slot.Demand = codes "demand"
keyword_of slot.Lose = codes "lose"
keyword_of slot.Damage = codes "damage"
keyword_of slot.GetSource = codes "get_source"
keyword_of slot.GetSink = codes "get_sink"
keyword_of slot.Drop = codes "drop"
keyword_of slot.Rev2 = codes "rev2"
keyword_of slot.Rev3 = codes "rev3"
keyword_of slot.Transcript = codes "transcript"
keyword_of slot.Contracts = codes "contracts"
keyword_of slot.Faults = codes "faults"
keyword_of slot.Margins = codes "margins"
keyword_of _ = []

-- how it is told: the word itself, or what form it has
abbrev pub text_of : Slot → List ℕ
text_of slot.Id = codes "ID in 1 to 10 digits"
text_of slot.At = codes "AT in 1 to 10 digits"
text_of slot.Port = codes "PORT in 1 to 10 digits"
text_of slot.Mw = codes "MW in 1 to 10 digits"
text_of slot.Place = codes "PLACE in 1 to 10 digits"
text_of slot.Mask = codes "MASK in 1 to 10 digits"
text_of slot.Rating = codes "RATING in 1 to 10 digits"
text_of slot.Max = codes "MAX in 1 to 10 digits"
text_of slot.Wanted = codes "DEMAND in 1 to 10 digits"
text_of slot.Mv = codes "MV in 1 to 10 digits"
text_of slot.Ma = codes "MA in 1 to 10 digits"
text_of slot.Name = codes "NAME in 1 to 16 letters and digits"
text_of slot.CableName = codes "CABLE in 1 to 16 letters and digits"
text_of slot.SinkName = codes "SINK in 1 to 16 letters and digits"
text_of slot.Plug = codes "none, ack, nak, busy, silent"
text_of slot.Mode = codes "pd, plain, greedy"
text_of word = keyword_of word

-- the word may stand there
abbrev pub fits : Slot → List ℕ → Bool
fits slot.Id word = is_some (number word)
fits slot.At word = is_some (number word)
fits slot.Port word = is_some (number word)
fits slot.Mw word = is_some (number word)
fits slot.Place word = is_some (number word)
fits slot.Mask word = is_some (number word)
fits slot.Rating word = is_some (number word)
fits slot.Max word = is_some (number word)
fits slot.Wanted word = is_some (number word)
fits slot.Mv word = is_some (number word)
fits slot.Ma word = is_some (number word)
fits slot.Name word = is_name word
fits slot.CableName word = is_name word
fits slot.SinkName word = is_name word
fits slot.Plug word = is_some (plug_of word)
fits slot.Mode word = is_some (mode_of word)
fits keyword word = bytes_eq word (keyword_of keyword)
