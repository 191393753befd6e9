-- What is proved of the schema's lists of words and numbers.
use Rattle.std.specs.Prelude.{◌≡◌, ℕ, ℤ, pos, ◌==◌, List, is_some, bytes_eq}
use Rattle.std.specs.List.{list_any}
use Rattle.std.specs.Ordering.{int_eq}
use Rattle.pd_scenario.specs.Words.{plug_of, mode_of, rating_of}
use Rattle.pd_scenario_tables.specs.declared.schema.Version.{Version}
use Rattle.pd_scenario_tables.specs.Values.{is_known}
use Rattle.pd_scenario_tables.specs.Words.{revision_of, version_of, event_named}
use Rattle.pd_save.specs.SchemaForms.{kind_words, plug_words, mode_words, version_numbers, rating_numbers, revision_numbers}

-- a word or a number is one of a list of the schema exactly where files are read by it
pub record SchemaIsWhole : Type 0 where
  pub kinds : (version : Version) (word : List ℕ) → list_any (bytes_eq word) (kind_words version) ≡ is_known (event_named version word)
  pub plugs : (word : List ℕ) → list_any (bytes_eq word) plug_words ≡ is_some (plug_of word)
  pub modes : (word : List ℕ) → list_any (bytes_eq word) mode_words ≡ is_some (mode_of word)
  pub versions : (number : ℤ) → list_any (λ n. int_eq number (pos n)) version_numbers ≡ is_some (version_of number)
  pub ratings : (number : ℕ) → list_any (λ n. number == n) rating_numbers ≡ is_some (rating_of number)
  pub revisions : (number : ℤ) → list_any (λ n. int_eq number (pos n)) revision_numbers ≡ is_some (revision_of number)
