-- What a subcommand is given by all words that are left, where some have gone to its arguments.
use Rattle.std.proofs.Common.{arith, ◌∙◌, ◌≡◌, ℕ, Bool, true, false, List, [], ◌∷◌, ap₂, refl, sym, subst, codes, bytes_eq, Option}
use Rattle.std.proofs.Common.{None, Some}
use Rattle.std.specs.Prelude.{fold, option_and_then, option_map}
use Rattle.std.specs.List.{All}
use Rattle.std.specs.Str.{IsUtf8}
use Rattle.std.proofs.lemmas.List.Elements.{All-drop, All-get_or}
use Rattle.std.proofs.lemmas.Slice.Eq.{bytes_eq-Decides}
use Rattle.clap.specs.Words.{Row, Shape}
use Rattle.clap.specs.Kinds.{Kinds, or_else}
use Rattle.clap.specs.Walk.{Held, Walk, arg_by_index, finished, settled, to_positional, value, walked}
use Rattle.clap.specs.Faults.{check_fault, defaults_fault, settle_fault, step_fault, turn_fault, walk_fault}
use Rattle.pd_words.specs.Tasks.{Asked, Text, given, is_dashed}
use Rattle.pd_words.proofs.FoundTask.{task_unless}
use Rattle.pd_words.proofs.OneWord.{HasHelpOnly, at, fails, fails_first, flag_turn, plain_step, plain_turn}

pub failed : (kinds : Kinds) (found : Option (Text × List Row)) → fails kinds ≡ true → task_unless kinds found ≡ None
failed [] found fails = cc
failed (kind ∷ kinds) found fails = refl

-- the faults of the words that are left, and of what is wanting at their end
abbrev pub end_fault : Shape → Walk → Kinds
end_fault s w = or_else (settle_fault s.rules s.args_override_self w.held)
    (or_else (defaults_fault (settled s.rules w.held).rows s.rules) (check_fault s (finished s.rules w.held) false))

abbrev pub fault_from : Shape → Walk → List Text → Kinds
fault_from s w words = or_else (walk_fault s [] w words) (end_fault s (fold (walked s.rules []) w words))

-- the task of the subcommand of this name and shape
abbrev pub told_from : Text → Shape → Walk → List Text → Option Asked
told_from name s w words = task_unless (fault_from s w words) (Some (name, finished s.rules (fold (walked s.rules []) w words).held))

-- what the words ask for, behind `--` or not
abbrev pub asked_by : Bool → (List Text → Option Asked) → List Text → Option Asked
asked_by true asks words = asks words
asked_by false asks words = option_and_then asks (given words)

no_more : (name : Text) (s : Shape) (w : Walk) (word : Text) (words : List Text) → fails (turn_fault s [] w word) ≡ true
    → told_from name s w (word ∷ words) ≡ None
unfolding walk_fault
no_more name s w word words fault = failed _ _ (fails_first _ _ (fails_first _ _ fault))

-- the word goes to a positional, where there is one
abbrev pub told_past : Text → Shape → Bool → ℕ → Held → Text → List Text → Option Asked
told_past name s t position h word words =
    let w = to_positional s.rules (arg_by_index s.rules position) word (at t position h) h in
    task_unless (or_else (or_else (step_fault s position h value) (walk_fault s [] w words))
    (end_fault s (fold (walked s.rules []) w words)))
    (Some (name, finished s.rules (fold (walked s.rules []) w words).held))

plain_past : (name : Text) (s : Shape) (position : ℕ) (h : Held) (word : Text) (words : List Text) → is_dashed word ≡ false
    → told_from name s (at false position h) (word ∷ words) ≡ told_past name s false position h word words
unfolding walk_fault
plain_past name s position h word words plain = ap₂ (λ fault w. task_unless
    (or_else (or_else fault (walk_fault s [] w words)) (end_fault s (fold (walked s.rules []) w words)))
    (Some (name, finished s.rules (fold (walked s.rules []) w words).held)))
    (plain_turn s [] position h word refl plain) (plain_step s.rules position h word plain)

behind_past : (name : Text) (s : Shape) (position : ℕ) (h : Held) (word : Text) (words : List Text)
    → told_from name s (at true position h) (word ∷ words) ≡ told_past name s true position h word words
unfolding walk_fault walked
behind_past name s position h word words = refl

dashes : (name : Text) (s : Shape) (position : ℕ) (h : Held) (words : List Text)
    → told_from name s (at false position h) (codes "--" ∷ words) ≡ told_from name s (at true position h) words
unfolding walk_fault walked
dashes name s position h words = refl

-- ---- what is asked

given_dashes : (asks : List Text → Option Asked) (words : List Text) → asked_by false asks (codes "--" ∷ words) ≡ asks words
unfolding given
given_dashes asks words = refl

given_flag : (asks : List Text → Option Asked) (word : Text) (words : List Text) → bytes_eq word (codes "--") ≡ false
    → is_dashed word ≡ true → asked_by false asks (word ∷ words) ≡ None
unfolding given
given_flag asks word words apart dashed = rw (apart, dashed) refl

given_more : (asks : List Text → Option Asked) (word : Text) (words : List Text) → bytes_eq word (codes "--") ≡ false
    → is_dashed word ≡ false → asked_by false asks (word ∷ words) ≡ asked_by false (λ more. asks (word ∷ more)) words
unfolding given
given_more asks word words apart plain = rw (apart, plain) (go (given words))
  where
    go : (found : Option (List Text))
        → option_and_then asks (option_map (λ more. word ∷ more) found) ≡ option_and_then (λ more. asks (word ∷ more)) found
    go None = refl
    go (Some more) = refl

-- ---- a stage: what stands before a word

module _ (name : Text) (s : Shape) (only : HasHelpOnly s) (position : ℕ) (h : Held)
    (settles : settle_fault s.rules s.args_override_self h ≡ [])
    (unskipped : h.skip ≡ 0) (asks : List Text → Option Asked) (over : (t : Bool) → told_from name s (at t position h) [] ≡ asks [])
    (past : (t : Bool) (word : Text) (words : List Text) → All IsUtf8 words
    → told_past name s t position h word words ≡ asked_by t (λ more. asks (word ∷ more)) words) where
  behind : (words : List Text) → All IsUtf8 words → told_from name s (at true position h) words ≡ asks words
  behind [] utf8 = over true
  behind (word ∷ words) utf8 = behind_past name s position h word words ∙ past true word words (All-drop IsUtf8 1 (word ∷ words) utf8)

  before : (words : List Text) → All IsUtf8 words → told_from name s (at false position h) words ≡ asked_by false asks words
  unfolding given
  before [] utf8 = over false
  before (word ∷ words) utf8 = go (bytes_eq word (codes "--")) refl (is_dashed word) refl
    where
      rest : All IsUtf8 words
      rest = All-drop IsUtf8 1 (word ∷ words) utf8

      go : (t : Bool) → bytes_eq word (codes "--") ≡ t → (u : Bool) → is_dashed word ≡ u
          → told_from name s (at false position h) (word ∷ words) ≡ asked_by false asks (word ∷ words)
      go true both u is = subst (λ word. told_from name s (at false position h) (word ∷ words) ≡ asked_by false asks (word ∷ words))
          (sym ((bytes_eq-Decides word (codes "--")).0 both))
          (dashes name s position h words ∙ behind words rest ∙ sym (given_dashes asks words))
      go false apart true dashed = no_more name s (at false position h) word words
          (flag_turn s [] position h word refl only settles unskipped
          (All-get_or IsUtf8 (word ∷ words) 0 word (omega arith) utf8) apart dashed)
          ∙ sym (given_flag asks word words apart dashed)
      go false apart false plain =
          plain_past name s position h word words plain ∙ past false word words rest ∙ sym (given_more asks word words apart plain)

  pub stage : (t : Bool) (words : List Text) → All IsUtf8 words → told_from name s (at t position h) words ≡ asked_by t asks words
  stage true words utf8 = behind words utf8
  stage false words utf8 = before words utf8
