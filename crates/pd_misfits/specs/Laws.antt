-- What is proved of the definitions alone.
use Rattle.std.specs.Prelude.{◌≡◌, ℕ, List, is_some, bytes_eq}
use Rattle.std.specs.List.{list_any}
use Rattle.pd_scenario.specs.Words.{kind_of, plug_of, mode_of}
use Rattle.pd_misfits.specs.Hints.{kind_words, plug_words, mode_words}

-- the words that hints know of kinds of events, plugs and modes are those that files are read by
pub record WordsAreWhole : Type 0 where
  pub kinds : (word : List ℕ) → list_any (bytes_eq word) kind_words ≡ is_some (kind_of word)
  pub plugs : (word : List ℕ) → list_any (bytes_eq word) plug_words ≡ is_some (plug_of word)
  pub modes : (word : List ℕ) → list_any (bytes_eq word) mode_words ≡ is_some (mode_of word)
