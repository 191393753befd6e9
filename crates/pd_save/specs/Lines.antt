-- The lines of a scenario file as it is written: this product's own layout.
use Rattle.std.specs.Prelude.{ℕ, List, ◌++◌, codes, decimal}
use Rattle.pd_scenario_tables.specs.declared.schema.Key.{Key}
use Rattle.pd_scenario_tables.specs.Schema.{text_of}

-- the head of a table of a list, behind an empty line
unfoldable pub table_head : Key → List ℕ
table_head key = codes "\n[[" ++ (text_of key ++ codes "]]\n")

-- a key and its number
unfoldable pub number_line : Key → ℕ → List ℕ
number_line key number = text_of key ++ (codes " = " ++ (decimal number ++ codes "\n"))

-- a key and its word, in quotation marks
unfoldable pub word_line : Key → List ℕ → List ℕ
word_line key word = text_of key ++ (codes " = \"" ++ (word ++ codes "\"\n"))
