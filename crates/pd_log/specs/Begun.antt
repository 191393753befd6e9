-- What the lines before a line have begun: a packet of which a log tells the set or the header first, and then each object in a line of
-- its own; or a table.
use Rattle.std.specs.Prelude.{ℕ, ◌==◌, nat_le, List, [], ◌∷◌, ◌++◌, length, Option, Some, None, option_map, is_some}
use Rattle.std.specs.Prelude.{if◌then◌else◌}
use Rattle.pd_header.specs.Header.{count_of}
use Rattle.pd_log.specs.declared.mark.Mark.TheVariants.{Whole}
use Rattle.pd_log.specs.declared.answer.Answer.{Answer}
use Rattle.pd_log.specs.declared.answer.Answer.TheVariants as answers
use Rattle.pd_log.specs.declared.answer.LogPacket.{LogPacket}
use Rattle.pd_log.specs.declared.begun.Form.{Form}
use Rattle.pd_log.specs.declared.begun.Form.TheVariants.{Digits, Words}
use Rattle.pd_log.specs.declared.begun.Stage.{Stage}
use Rattle.pd_log.specs.declared.begun.Stage.TheVariants as stages
use Rattle.pd_log.specs.declared.begun.TableLine.{TableLine}
use Rattle.pd_log.specs.declared.begun.TableLine.TheVariants as lines
use Rattle.pd_log.specs.declared.columns.Columns.{Columns}
use Rattle.pd_log.specs.declared.sets.PacketSet.{PacketSet}
use Rattle.pd_log.specs.declared.sets.PacketSet.TheVariants.{Sop}
use Rattle.pd_log.specs.declared.sniffed.Annotation.{Annotation}
use Rattle.pd_log.specs.declared.sniffed.Annotation.TheVariants as texts
use Rattle.pd_log.specs.Codes.{or_else}
use Rattle.pd_log.specs.Columns.{columns_of}
use Rattle.pd_log.specs.Messages.{packet_on}
use Rattle.pd_log.specs.Parts.{Parts}
use Rattle.pd_log.specs.Rows.{row_of, row_time}
use Rattle.pd_log.specs.Sniffed.{annotation, sniffed}
use Rattle.pd_log.specs.Supplies.{supply_of}
use Rattle.pd_log.specs.Words.{behind_index, objects_in}

-- what has begun, and the objects so far
pub record BegunData : Type 0 where
  pub stage : Stage
  pub objects : List ℕ

abbrev pub begins : Stage → BegunData
begins stage = record { stage = stage; objects = [] }

abbrev pub single : Option (List ℕ) → Option ℕ
single (Some (object ∷ [])) = Some object
single _ = None

-- the object of a line that gives one behind an index in brackets
abbrev pub numbered_in : Parts → Option ℕ
numbered_in [] = None
numbered_in (p ∷ ps) = if is_some (behind_index p) then single (objects_in (p ∷ ps)) else numbered_in ps

-- the object that a line gives alone, and how it tells it: in digits behind an index, or in a kernel's words
abbrev pub told_object : Parts → Option (Form × ℕ)
told_object ps =
    or_else (option_map (λ object. (Digits, object)) (numbered_in ps)) (option_map (λ object. (Words, object)) (supply_of ps))

-- a packet whose last object was told in this form
abbrev pub whole : Form → LogPacket → Answer
whole Digits p = answers.Packet p Whole
whole Words p = answers.Supplies p

-- What the objects come to of which this one is the last, and what has begun behind it: the packet, where its header tells of as many;
-- nothing, where it tells of more.
abbrev pub grown : Form → PacketSet → ℕ → List ℕ → Answer × Option BegunData
grown form set header objects =
    if length objects == count_of header then (whole form (packet_on set header objects), None)
    else if nat_le (length objects) (count_of header)
    then (answers.Nothing, Some (record { stage = stages.Header set header; objects = objects }))
    else (answers.Unknown, None)

-- what a line comes to that goes on with the packet that has begun, if it does
abbrev pub goes_on : Option BegunData → Parts → Option (Answer × Option BegunData)
goes_on None ps = None
goes_on (Some begun) ps = by_stage begun.stage begun.objects (told_object ps)
  where
    by_stage : Stage → List ℕ → Option (Form × ℕ) → Option (Answer × Option BegunData)
    by_stage (stages.Header set header) objects (Some told) = Some (grown told.0 set header (objects ++ told.1 ∷ []))
    by_stage _ objects told = None

-- the set that an annotation before has named
abbrev pub set_begun : Option BegunData → PacketSet
set_begun None = Sop
set_begun (Some begun) = of_stage begun.stage
  where
    of_stage : Stage → PacketSet
    of_stage (stages.Set set) = set
    of_stage _ = Sop

-- a header that an annotation gives: the packet, where it has no objects
abbrev pub header_begun : PacketSet → ℕ → Answer × Option BegunData
header_begun set header =
    if count_of header == 0 then (answers.Packet (packet_on set header []) Whole, None)
    else (answers.Header set header, Some (begins (stages.Header set header)))

-- what an annotation of sigrok-cli's decoder comes to
abbrev pub sniffed_on : Option BegunData → Annotation → Answer × Option BegunData
sniffed_on begun (texts.Set set) = (answers.Nothing, Some (begins (stages.Set set)))
sniffed_on begun (texts.Header header) = header_begun (set_begun begun) header
sniffed_on begun texts.HardReset = (answers.HardReset Whole, None)
sniffed_on begun texts.CableReset = (answers.CableReset Whole, None)
sniffed_on begun texts.Spoiled = (answers.Spoiled, None)
sniffed_on begun texts.Other = (answers.Nothing, begun)

-- what a line of that decoder comes to
abbrev pub annotates : Option BegunData → Parts → Option (Answer × Option BegunData)
annotates begun ps = option_map (λ text. sniffed_on begun (sniffed text)) (annotation ps)

-- the columns of the table that has begun
abbrev pub table_begun : Option BegunData → Option Columns
table_begun None = None
table_begun (Some begun) = of_stage begun.stage
  where
    of_stage : Stage → Option Columns
    of_stage (stages.Table columns) = Some columns
    of_stage _ = None

-- a row of the table that has begun
abbrev pub row_begun : Option Columns → List ℕ → Option TableLine
row_begun None line = None
row_begun (Some columns) line = option_map (λ answer. lines.Row answer) (row_of columns line)

-- a line of a table: a head, or a row of the table that has begun
abbrev pub in_table : Option BegunData → List ℕ → Option TableLine
in_table begun line = or_else (option_map (λ columns. lines.Head columns) (columns_of line)) (row_begun (table_begun begun) line)

-- what a line of a table comes to: a head begins one
abbrev pub table_told : Option BegunData → TableLine → Answer × Option BegunData
table_told begun (lines.Head columns) = (answers.Nothing, Some (begins (stages.Table columns)))
table_told begun (lines.Row answer) = (answer, begun)

-- What has begun behind a line that doesn't go on: a packet of which it tells the header alone; a table goes on. A line that tells
-- nothing may stand between.
abbrev pub begun_behind : Option BegunData → Answer → Option BegunData
begun_behind begun answers.Nothing = begun
begun_behind begun (answers.Header set header) = Some (begins (stages.Header set header))
begun_behind begun _ = option_map (λ columns. begins (stages.Table columns)) (table_begun begun)

-- the time of a row, where a line is one of the table that has begun
abbrev pub row_time_of : Option BegunData → List ℕ → Option (Option (List ℕ))
row_time_of begun line = by_table (table_begun begun)
  where
    by_table : Option Columns → Option (Option (List ℕ))
    by_table None = None
    by_table (Some columns) = row_time columns line
