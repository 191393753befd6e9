-- What `:help` writes.
use Rattle.std.specs.Prelude.{ℕ, ◌-◌, List, [], ◌++◌, length, replicate, codes}

-- a line of the desk's own, and from the twentieth place on what it does; a sentence that goes on has no such line before it, and
-- a longer line is alone
abbrev pub help_row : List ℕ → List ℕ → List ℕ
help_row line does = line ++ (replicate (19 - length line) 32 ++ (does ++ codes "\n"))

-- the words that begin lines of edit scripts
abbrev pub script_row : List ℕ
script_row = codes "insert, remove, move, change, cable, sink, caps, floor, budget, end and show are lines of edit scripts\n"

unfoldable pub help_text : List ℕ
help_text =
    codes "= help\n"
    ++ (help_row (codes ":list") (codes "the scenario as edit lines: settings, cables, sinks, and events by their time")
    ++ (help_row (codes ":undo [N]") (codes "takes back the last accepted edit, or the last N, and says which of these")
    ++ (help_row [] (codes "lines that changes; again and again, for the last 100 edits")
    ++ (help_row (codes ":redo") (codes "makes the edit again that was taken back last, until another one is made")
    ++ (help_row (codes ":diff [all]") (codes "lines of contracts, faults and margins that the last accepted edit, or all since")
    ++ (help_row [] (codes "the start, took away (-) and brought (+)")
    ++ (help_row (codes ":why PORT [AT]") (codes "what bounds a port: its last offer, or each one up to a time, as 60ms")
    ++ (help_row (codes ":show [PORT]") (codes "the run as a transcript, of one port or of all, as pdlab show tells it")
    ++ (help_row (codes ":warn") (codes "what the scenario is warned of, as pdlab explain warns")
    ++ (help_row (codes ":guarantee") (codes "what is sure for each port, whatever is plugged in, as pdlab guarantee tells it")
    ++ (help_row (codes ":sweep [PORT] [FROM [TO]] [all]") []
    ++ (help_row [] (codes "what losing each packet of the run leads to, as pdlab sweep tells it: each that makes")
    ++ (help_row [] (codes "a difference, or all; a long run takes a minute, and FROM TO keeps to a part")
    ++ (help_row (codes ":vary SET [; SET ..] [tell NAMES]") []
    ++ (help_row [] (codes "the run with values of edit lines, as floor 1 {}=45W..65W/5W, and what is measured")
    ++ (help_row [] (codes "of it, as pdlab vary tells it")
    ++ (help_row (codes ":test FILE") (codes "the lines of a test script that fail over the scenario, and how many passed")
    ++ (help_row (codes ":save FILE") (codes "writes the scenario to a new file, which reads back as the same")
    ++ (help_row (codes ":save-edits FILE") (codes "writes the accepted edits since the start to a new file, an edit script")
    ++ (help_row (codes ":load FILE") (codes "makes the edits of an edit script, or none of them where one of its lines is refused")
    ++ (help_row (codes ":draw FILE") (codes "writes a picture of the run to a new file, as pdlab draw does")
    ++ (help_row (codes ":save! FILE") (codes "as :save, in the place of a file that is there; :save-edits! and :draw! too")
    ++ (help_row (codes ":quit") (codes "ends the session, as Ctrl-D does")
    ++ (help_row (codes ":help") (codes "this")
    ++ script_row))))))))))))))))))))))))
