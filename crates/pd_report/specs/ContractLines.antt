-- The text of the contracts of a run: this product's own format, as docs/FORMATS.md has it under Contracts.
use Rattle.std.specs.Prelude.{ℕ, List, [], ◌++◌, Option, Some, None, codes, decimal}
use Rattle.std.specs.List.{flat_map}
use Rattle.pd_port.specs.declared.entry.ContractChange.{ContractChange}
use Rattle.pd_port.specs.declared.entry.ContractChange.TheVariants.{Made, Lost}
use Rattle.pd_port.specs.declared.entry.Entry.{Entry}
use Rattle.pd_report.specs.Line.{at_port}

-- the words of a change: the contract that is made, by its position, voltage and maximum operating current, or that there
-- is none any more
abbrev pub change_words : ContractChange → List ℕ
change_words (Made c) = codes "contract " ++ decimal c.position ++ codes " " ++ decimal c.mv ++ codes " mV " ++ decimal c.ma ++ codes " mA"
change_words Lost = codes "none"

-- the line of a change, if there is one: its time, its port, numbered from 1, and its words
unfoldable pub change_text : ℕ → ℕ → Option ContractChange → List ℕ
change_text at port None = []
change_text at port (Some change) = at_port at port ++ change_words change ++ codes "\n"

-- what an entry adds
abbrev pub contract_line : ℕ × Entry → List ℕ
contract_line move = change_text move.1.at move.0 move.1.contract

abbrev pub contracts_head : List ℕ
contracts_head = codes "= contracts\n"

-- a head, and the changes of the entries in their order
unfoldable pub contracts_text : List (ℕ × Entry) → List ℕ
contracts_text moves = contracts_head ++ flat_map contract_line moves
