-- What clap makes of a whole command line.
use Rattle.std.proofs.Common.{◌∙◌, ◌≡◌, Bool, true, false, List, [], ◌∷◌, ap, ap₂, arith, refl, sym, subst, codes, bytes_eq, Option, None}
use Rattle.std.proofs.Common.{Some}
use Rattle.std.specs.Prelude.{fold, is_some}
use Rattle.std.specs.List.{All}
use Rattle.std.specs.Str.{IsUtf8}
use Rattle.std.proofs.lemmas.List.Elements.{All-drop, All-get_or}
use Rattle.std.proofs.lemmas.Slice.Eq.{bytes_eq-Decides}
use Rattle.clap.specs.Words.{Shape, built}
use Rattle.clap.specs.Kinds.{Kinds, or_else}
use Rattle.clap.specs.Walk.{Names, Walk, finished, idle, nothing_held, settled, subcommand_met, value, walk_from, walked}
use Rattle.clap.specs.Simple.{entered, names_of}
use Rattle.clap.specs.Faults.{check_fault, defaults_fault, entered_fault, settle_fault, step_fault, turn_fault, walk_fault}
use Rattle.clap.proofs.FaultLemmas.{stopped_fault}
use Rattle.clap.proofs.WalkLemmas.{walk_stopped}
use Rattle.clap.proofs.OnLiterals.{clap_on_literals}
use Rattle.pd_words.specs.Tasks.{Asked, Text, command_task, is_dashed, task_of}
use Rattle.pd_words.specs.Program.{program}
use Rattle.pd_words.proofs.FoundTask.{found_task, task_unless}
use Rattle.pd_words.proofs.OneWord.{HasHelpOnly, at, fails, fails_first, flag_turn, plain_turn}
use Rattle.pd_words.proofs.Stages.{failed, fault_from}
use Rattle.pd_words.proofs.Leaves as leaves

-- the program as clap builds it
abbrev top : Shape
top = (built program).top

abbrev names : Names
names = names_of (built program)

-- the faults of a command line, by those of its words and by where the walk ends
abbrev fault_by_end : Kinds → Walk → Kinds
fault_by_end fault w = or_else fault
    (or_else (entered_fault (built program) w.stopped) (or_else (settle_fault top.rules top.args_override_self w.held)
    (or_else (defaults_fault (settled top.rules w.held).rows top.rules)
    (check_fault top (finished top.rules w.held) (is_some (entered (built program) w.stopped))))))

abbrev told_by_end : Kinds → Walk → Option Asked
told_by_end fault w = task_unless (fault_by_end fault w) (entered (built program) w.stopped)

told_is : (name : Text) (words : List Text)
    → found_task (name ∷ words) ≡ told_by_end (walk_fault top names (walk_from nothing_held) words)
    (fold (walked top.rules names) (walk_from nothing_held) words)
unfolding found_task program
told_is name words = refl

-- ---- a command's name

-- the walk behind it
abbrev stopped : Text → List Text → Walk
stopped command words = record (at false 1 nothing_held) { stopped = Some (command, words) }

or_else_none : (kinds : Kinds) → or_else kinds [] ≡ kinds
or_else_none [] = refl
or_else_none (kind ∷ kinds) = refl

named : (name command : Text) (words : List Text) → turn_fault top names (at false 1 nothing_held) command ≡ []
    → walked top.rules names (at false 1 nothing_held) command ≡ stopped command []
    → found_task (name ∷ command ∷ words) ≡ told_by_end [] (stopped command words)
unfolding walk_fault
named name command words clean step = told_is name (command ∷ words) ∙ ap₂ told_by_end
    (ap₂ (λ fault w. or_else fault (walk_fault top names w words)) clean step
    ∙ stopped_fault top names (at false 1 nothing_held) (command, []) words)
    (ap (λ w. fold (walked top.rules names) w words) step ∙ sym (walk_stopped top.rules names (at false 1 nothing_held) command [] words))

run_line : (name : Text) (words : List Text) → All IsUtf8 words → found_task (name ∷ codes "run" ∷ words) ≡ command_task (codes "run") words
unfolding clap_on_literals program
run_line name words utf8 = named name (codes "run") words refl refl
    ∙ ap (λ fault. task_unless fault (entered (built program) (Some (codes "run", words))))
    (or_else_none (fault_from leaves.run (at false 1 nothing_held) words))
    ∙ leaves.run_told false words utf8

check_line : (name : Text) (words : List Text) → All IsUtf8 words
    → found_task (name ∷ codes "check" ∷ words) ≡ command_task (codes "check") words
unfolding clap_on_literals program
check_line name words utf8 = named name (codes "check") words refl refl
    ∙ ap (λ fault. task_unless fault (entered (built program) (Some (codes "check", words))))
    (or_else_none (fault_from leaves.check (at false 1 nothing_held) words))
    ∙ leaves.check_told false words utf8

decode_line : (name : Text) (words : List Text) → All IsUtf8 words
    → found_task (name ∷ codes "decode" ∷ words) ≡ command_task (codes "decode") words
unfolding clap_on_literals program
decode_line name words utf8 = named name (codes "decode") words refl refl
    ∙ ap (λ fault. task_unless fault (entered (built program) (Some (codes "decode", words))))
    (or_else_none (fault_from leaves.decode (at false 1 nothing_held) words))
    ∙ leaves.decode_told false words utf8

-- ---- another word

top_help : HasHelpOnly top
unfolding program
top_help = record { long = λ name. refl; short = λ x. refl }

help_line : (name : Text) (words : List Text) → found_task (name ∷ codes "help" ∷ words) ≡ None
unfolding found_task clap_on_literals program
help_line name words = refl

dashes_line : (name : Text) (words : List Text) → found_task (name ∷ codes "--" ∷ words) ≡ None
unfolding found_task clap_on_literals program
dashes_line name [] = refl
dashes_line name (word ∷ words) = refl

refused_line : (name word : Text) (words : List Text) → fails (turn_fault top names (at false 1 nothing_held) word) ≡ true
    → found_task (name ∷ word ∷ words) ≡ None
unfolding walk_fault
refused_line name word words fault = told_is name (word ∷ words) ∙ failed _ _ (fails_first _ _ (fails_first _ _ fault))

stray_fails : fails (step_fault top 1 nothing_held value) ≡ true
unfolding program
stray_fails = refl

settles : settle_fault top.rules top.args_override_self nothing_held ≡ []
settles = refl

other_line : (name word : Text) (words : List Text) → IsUtf8 word → subcommand_met names idle word ≡ None
    → found_task (name ∷ word ∷ words) ≡ None
other_line name word words utf8 unnamed = go (bytes_eq word (codes "--")) refl (is_dashed word) refl
  where
    go : (t : Bool) → bytes_eq word (codes "--") ≡ t → (u : Bool) → is_dashed word ≡ u → found_task (name ∷ word ∷ words) ≡ None
    go true both u is = subst (λ word. found_task (name ∷ word ∷ words) ≡ None) (sym ((bytes_eq-Decides word (codes "--")).0 both))
        (dashes_line name words)
    go false apart true dashed =
        refused_line name word words (flag_turn top names 1 nothing_held word unnamed top_help settles refl utf8 apart dashed)
    go false apart false plain =
        refused_line name word words (subst (λ fault. fails fault ≡ true)
        (sym (plain_turn top names 1 nothing_held word unnamed plain)) stray_fails)

-- ---- a whole line

unnamed_by : (word : Text) → bytes_eq (codes "run") word ≡ false → bytes_eq (codes "check") word ≡ false
    → bytes_eq (codes "decode") word ≡ false
    → bytes_eq (codes "help") word ≡ false → subcommand_met names idle word ≡ None
unfolding program
unnamed_by word no_run no_check no_decode no_help = rw (no_run, no_check, no_decode, no_help) refl

is_word : (known word : Text) → bytes_eq known word ≡ true → known ≡ word
is_word known word same = (bytes_eq-Decides known word).0 same

command_line : (name command : Text) (words : List Text) → IsUtf8 command → All IsUtf8 words
    → found_task (name ∷ command ∷ words) ≡ command_task command words
command_line name command words utf8 all = go (bytes_eq (codes "run") command) refl
  where
    Told : Text → Type 0
    Told command = found_task (name ∷ command ∷ words) ≡ command_task command words

    others : (t : Bool) → bytes_eq (codes "help") command ≡ t → bytes_eq (codes "run") command ≡ false
        → bytes_eq (codes "check") command ≡ false
        → bytes_eq (codes "decode") command ≡ false → Told command
    others true is no_run no_check no_decode = subst Told (is_word _ _ is) (help_line name words)
    others false no_help no_run no_check no_decode = rw (no_run, no_check, no_decode)
        (other_line name command words utf8 (unnamed_by command no_run no_check no_decode no_help))

    go_decode : (t : Bool) → bytes_eq (codes "decode") command ≡ t → bytes_eq (codes "run") command ≡ false
        → bytes_eq (codes "check") command ≡ false
        → Told command
    go_decode true is no_run no_check = subst Told (is_word _ _ is) (decode_line name words all)
    go_decode false no_decode no_run no_check = others (bytes_eq (codes "help") command) refl no_run no_check no_decode

    go_check : (t : Bool) → bytes_eq (codes "check") command ≡ t → bytes_eq (codes "run") command ≡ false → Told command
    go_check true is no_run = subst Told (is_word _ _ is) (check_line name words all)
    go_check false no_check no_run = go_decode (bytes_eq (codes "decode") command) refl no_run no_check

    go : (t : Bool) → bytes_eq (codes "run") command ≡ t → Told command
    go true is = subst Told (is_word _ _ is) (run_line name words all)
    go false no_run = go_check (bytes_eq (codes "check") command) refl no_run

pub found_as_asked : (words : List Text) → All IsUtf8 words → found_task words ≡ task_of words
unfolding found_task task_of clap_on_literals program
found_as_asked [] utf8 = refl
found_as_asked (name ∷ []) utf8 = refl
found_as_asked (name ∷ (command ∷ words)) utf8 = command_line name command words
    (All-get_or IsUtf8 (name ∷ (command ∷ words)) 1 command (omega arith) utf8) (All-drop IsUtf8 2 (name ∷ (command ∷ words)) utf8)
