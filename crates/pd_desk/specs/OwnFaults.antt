-- What is said where a line of the desk's own did nothing.
use Rattle.std.specs.Prelude.{ℕ, List, ◌++◌, codes, decimal}
use Rattle.pd_desk.specs.declared.own.OwnFault.{OwnFault}
use Rattle.pd_desk.specs.declared.own.OwnFault.TheVariants as own_faults

abbrev pub own_sentence : OwnFault → List ℕ
own_sentence own_faults.Unknown =
    codes "the desk's own lines are :list, :undo, :redo, :diff, :why, "
    ++ codes ":show, :warn, :guarantee, :sweep, :vary, :test, :draw, :save, "
    ++ codes ":save-edits, :load and :quit; :help tells of them\n"
own_sentence own_faults.NoEdit = codes "no accepted edit is left to take back\n"
own_sentence (own_faults.FewEdits left) = codes "fewer edits can be taken back: " ++ decimal left ++ codes "\n"
own_sentence own_faults.NoRedo = codes "no edit that was taken back is left to make again\n"
own_sentence own_faults.NoSuchPort = codes "no port has this number\n"
own_sentence own_faults.NoPacket = codes "no packet of the run was tried\n"
own_sentence own_faults.Differs = codes "not saved: the text would read as another scenario\n"
own_sentence own_faults.Stands = codes "not saved: the file is there; :save!, :save-edits! or :draw! writes it anew\n"
own_sentence own_faults.NotSaved = codes "not saved: the file can't be written\n"
own_sentence own_faults.NotRead = codes "not tested: the file can't be read\n"
own_sentence own_faults.NotLoaded = codes "not loaded: the file can't be read\n"
own_sentence own_faults.NoScript = codes "not loaded: it is a scenario, and no edit script; pdlab live FILE opens it\n"
own_sentence own_faults.Memory = codes "there was no memory for it\n"
