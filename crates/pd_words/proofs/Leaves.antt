-- What `run`, `check` and `decode` are given by the words behind their names.
use Rattle.std.proofs.Common.{◌≡◌, Bool, true, false, List, ◌∷◌, refl, codes, Option, None, Some}
use Rattle.std.specs.Prelude.{option_and_then}
use Rattle.std.specs.List.{All}
use Rattle.std.specs.Str.{IsUtf8}
use Rattle.clap.specs.Words.{Shape}
use Rattle.clap.specs.Walk.{Held, arg_by_index, nothing_held, to_positional}
use Rattle.clap.specs.Simple.{built_leaf}
use Rattle.clap.specs.Faults.{defaults_fault, walk_fault}
use Rattle.pd_words.specs.Tasks.{Asked, Text, check_with, decode_with, given, run_with}
use Rattle.pd_words.specs.Program as spec
use Rattle.pd_words.proofs.OneWord.{HasHelpOnly, at}
use Rattle.pd_words.proofs.Stages.{asked_by, stage, told_from, told_past}

-- what a subcommand holds behind one word and behind two
abbrev held_first : Shape → Text → Held
held_first s word = (to_positional s.rules (arg_by_index s.rules 1) word (at false 1 nothing_held) nothing_held).held

abbrev held_second : Shape → Text → Text → Held
held_second s word other = (to_positional s.rules (arg_by_index s.rules 2) other (at false 2 (held_first s word)) (held_first s word)).held

-- no more words are taken
abbrev nothing : List Text → Option Asked
nothing words = None

none_asked : (t : Bool) (words : List Text) → None ≡ asked_by t nothing words
none_asked true words = refl
none_asked false words = go (given words)
  where
    go : (found : Option (List Text)) → None ≡ option_and_then nothing found
    go None = refl
    go (Some more) = refl

-- ---- `run`

abbrev pub run : Shape
run = built_leaf spec.run.top

run_help : HasHelpOnly run
run_help = record { long = λ name. refl; short = λ x. refl }

run_full : (scenario edits : Text) (t : Bool) (words : List Text) → All IsUtf8 words
    → told_from (codes "run") run (at t 3 (held_second run scenario edits)) words
    ≡ asked_by t (λ more. run_with (scenario ∷ (edits ∷ more))) words
unfolding walk_fault defaults_fault
run_full scenario edits = stage (codes "run") run run_help 3 (held_second run scenario edits) refl refl _ (λ t. refl)
    (λ t word words utf8. none_asked t words)

run_half : (scenario : Text) (t : Bool) (words : List Text) → All IsUtf8 words
    → told_from (codes "run") run (at t 2 (held_first run scenario)) words ≡ asked_by t (λ more. run_with (scenario ∷ more)) words
unfolding walk_fault defaults_fault
run_half scenario = stage (codes "run") run run_help 2 (held_first run scenario) refl refl _ (λ t. refl) past
  where
    past : (t : Bool) (word : Text) (words : List Text) → All IsUtf8 words
        → told_past (codes "run") run t 2 (held_first run scenario) word words
        ≡ asked_by t (λ more. run_with (scenario ∷ (word ∷ more))) words
    past true word words utf8 = run_full scenario word true words utf8
    past false word words utf8 = run_full scenario word false words utf8

pub run_told : (t : Bool) (words : List Text) → All IsUtf8 words
    → told_from (codes "run") run (at t 1 nothing_held) words ≡ asked_by t run_with words
unfolding walk_fault defaults_fault
run_told = stage (codes "run") run run_help 1 nothing_held refl refl _ (λ t. refl) past
  where
    past : (t : Bool) (word : Text) (words : List Text) → All IsUtf8 words
        → told_past (codes "run") run t 1 nothing_held word words ≡ asked_by t (λ more. run_with (word ∷ more)) words
    past true word words utf8 = run_half word true words utf8
    past false word words utf8 = run_half word false words utf8

-- ---- `check`

abbrev pub check : Shape
check = built_leaf spec.check.top

check_help : HasHelpOnly check
check_help = record { long = λ name. refl; short = λ x. refl }

check_full : (scenario : Text) (t : Bool) (words : List Text) → All IsUtf8 words
    → told_from (codes "check") check (at t 2 (held_first check scenario)) words ≡ asked_by t (λ more. check_with (scenario ∷ more)) words
unfolding walk_fault defaults_fault
check_full scenario = stage (codes "check") check check_help 2 (held_first check scenario) refl refl _ (λ t. refl)
    (λ t word words utf8. none_asked t words)

pub check_told : (t : Bool) (words : List Text) → All IsUtf8 words
    → told_from (codes "check") check (at t 1 nothing_held) words ≡ asked_by t check_with words
unfolding walk_fault defaults_fault
check_told = stage (codes "check") check check_help 1 nothing_held refl refl _ (λ t. refl) past
  where
    past : (t : Bool) (word : Text) (words : List Text) → All IsUtf8 words
        → told_past (codes "check") check t 1 nothing_held word words ≡ asked_by t (λ more. check_with (word ∷ more)) words
    past true word words utf8 = check_full word true words utf8
    past false word words utf8 = check_full word false words utf8

-- ---- `decode`

abbrev pub decode : Shape
decode = built_leaf spec.decode.top

decode_help : HasHelpOnly decode
decode_help = record { long = λ name. refl; short = λ x. refl }

decode_full : (symbols : Text) (t : Bool) (words : List Text) → All IsUtf8 words
    → told_from (codes "decode") decode (at t 2 (held_first decode symbols)) words ≡ asked_by t (λ more. decode_with (symbols ∷ more)) words
unfolding walk_fault defaults_fault
decode_full symbols = stage (codes "decode") decode decode_help 2 (held_first decode symbols) refl refl _ (λ t. refl)
    (λ t word words utf8. none_asked t words)

pub decode_told : (t : Bool) (words : List Text) → All IsUtf8 words
    → told_from (codes "decode") decode (at t 1 nothing_held) words ≡ asked_by t decode_with words
unfolding walk_fault defaults_fault
decode_told = stage (codes "decode") decode decode_help 1 nothing_held refl refl _ (λ t. refl) past
  where
    past : (t : Bool) (word : Text) (words : List Text) → All IsUtf8 words
        → told_past (codes "decode") decode t 1 nothing_held word words ≡ asked_by t (λ more. decode_with (word ∷ more)) words
    past true word words utf8 = decode_full word true words utf8
    past false word words utf8 = decode_full word false words utf8
