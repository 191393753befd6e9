-- From what clap says of a command line of `pdlab` to what it asks for.
use Rattle.std.proofs.Common.{◌∙◌, ◌≡◌, ◌⊎◌, List, [], ◌∷◌, true, ap, refl, subst, inl, inr, Option, None}
use Rattle.std.specs.Prelude.{option_and_then}
use Rattle.clap.specs.Words.{App, HasKind, HasMatchesOf, Kinds, Row, Text, fault_of, is_simple, is_simple_and_free, kind_of, subcommand_of}
use Rattle.clap.specs.Words.{subcommand_rows_of}
use Rattle.clap.specs.declared.error.Error.{Error}
use Rattle.clap.specs.declared.error.kind.ErrorKind.TheVariants.{OutOfMemory}
use Rattle.clap.specs.declared.parser.matches.ArgMatches.{ArgMatches}
use Rattle.pd_words.specs.Lab.{lab}
use Rattle.pd_words.specs.LabTasks.{asked_by, asked_unless, lab_asked}

-- clap tells all of such a command
lab_is_simple : is_simple lab ≡ true
unfolding lab
lab_is_simple = refl

lab_is_simple_and_free : is_simple_and_free lab ≡ true
unfolding lab
lab_is_simple_and_free = refl

refused_by : (kinds : Kinds) (found : Option (Text × List Row)) (e : Error) → HasKind kinds e
    → (kind_of e ≡ OutOfMemory) ⊎ (asked_unless kinds found ≡ None)
refused_by [] found e (inl memory) = inl memory
refused_by [] found e (inr none) = absurd none
refused_by (kind ∷ kinds) found e has = inr refl

-- words that clap refuses, but for want of memory, ask for nothing
pub refused : (app : App) (words : List Text) (e : Error) → app ≡ lab → (is_simple_and_free app ≡ true → HasKind (fault_of app words) e)
    → (kind_of e ≡ OutOfMemory) ⊎ (lab_asked words ≡ None)
unfolding lab_asked
refused app words e is has = refused_by (fault_of lab words) (subcommand_of lab words) e
    (subst (λ a. HasKind (fault_of a words) e) is (has (ap is_simple_and_free is ∙ lab_is_simple_and_free)))

-- and words that it takes ask for what the subcommand does that it finds
pub taken : (app : App) (words : List Text) (m : ArgMatches) → app ≡ lab → (is_simple_and_free app ≡ true → fault_of app words ≡ [])
    → HasMatchesOf app words m → option_and_then asked_by (subcommand_rows_of m) ≡ lab_asked words
unfolding lab_asked
taken app words m is clean has =
    let no_fault : fault_of lab words ≡ [] =
    subst (λ a. fault_of a words ≡ []) is (clean (ap is_simple_and_free is ∙ lab_is_simple_and_free)) in
    let found : subcommand_rows_of m ≡ subcommand_of lab words =
    subst (λ a. subcommand_rows_of m ≡ subcommand_of a words) is (has (ap is_simple is ∙ lab_is_simple)).1 in
    rw (no_fault, found) refl
