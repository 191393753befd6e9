-- The columns of a table of packets, by their names in its head.
use Rattle.std.specs.Prelude.{ℕ, ◌&&◌, ◌||◌, Bool, List, codes, bytes_eq, Option, Some, None, is_some, if◌then◌else◌}
use Rattle.std.specs.List.{position_from}
use Rattle.pd_log.specs.declared.columns.Column.{Column}
use Rattle.pd_log.specs.declared.columns.Column.TheVariants.{Time, Set, Header, Objects}
use Rattle.pd_log.specs.declared.columns.Columns.{Columns}
use Rattle.pd_log.specs.Cells.{cells, held_in, unreturned}
use Rattle.pd_log.specs.Codes.{or_else}
use Rattle.pd_log.specs.Plain.{plain}

-- the table: which names are known. Time_us is a name like Time (us); Total Phase has m:s.ms.us
abbrev pub names_column : Column → List ℕ → Bool
names_column Time word =
    bytes_eq word (codes "time") || (bytes_eq word (codes "timestamp") || (bytes_eq word (codes "starttime")
    || (bytes_eq word (codes "times") || (bytes_eq word (codes "timems") || (bytes_eq word (codes "timeus")
    || bytes_eq word (codes "msmsus"))))))
names_column Set word =
    bytes_eq word (codes "sop") || (bytes_eq word (codes "soptype") || (bytes_eq word (codes "orderedset")
    || (bytes_eq word (codes "set") || (bytes_eq word (codes "packettype") || (bytes_eq word (codes "frametype")
    || bytes_eq word (codes "type"))))))
names_column Header word =
    bytes_eq word (codes "header") || (bytes_eq word (codes "hdr") || (bytes_eq word (codes "pdheader")
    || (bytes_eq word (codes "messageheader") || bytes_eq word (codes "msgheader"))))
names_column Objects word =
    bytes_eq word (codes "data") || (bytes_eq word (codes "dataobject") || (bytes_eq word (codes "dataobjects")
    || (bytes_eq word (codes "object") || (bytes_eq word (codes "objects") || bytes_eq word (codes "payload")))))

-- whether a cell of a head names a column
abbrev pub is_named : Column → List ℕ → Bool
is_named column cell = names_column column (plain (held_in cell))

-- the place of the first cell that names a column, from 0
abbrev pub place_of : Column → List (List ℕ) → Option ℕ
place_of column all = position_from (is_named column) 0 all

-- A head names the header and something else; or the objects and the time or the set, where the objects are whole packets.
abbrev pub is_head : Columns → Bool
is_head columns =
    (is_some columns.header || is_some columns.objects)
    && ((is_some columns.header && is_some columns.objects) || (is_some columns.set || is_some columns.time))

abbrev pub columns_in : ℕ → List (List ℕ) → Columns
columns_in separator all = record {
  separator = separator;
  time = place_of Time all;
  set = place_of Set all;
  header = place_of Header all;
  objects = place_of Objects all;
}

abbrev pub head : Columns → Option Columns
head columns = if is_head columns then Some columns else None

abbrev pub head_with : ℕ → List ℕ → Option Columns
head_with separator line = head (columns_in separator (cells separator (unreturned line)))

-- the columns of a head, whose names are separated by commas, semicolons or tabs
abbrev pub columns_of : List ℕ → Option Columns
columns_of line = or_else (head_with 44 line) (or_else (head_with 59 line) (head_with 9 line))
