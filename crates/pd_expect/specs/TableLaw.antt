-- That the table of rows is the grammar of lines, for the forms that have no words in quotation marks.
use Rattle.std.specs.Prelude.{◌≡◌, Bool, ◌&&◌, is_some}
use Rattle.pd_expect.specs.Lines.{Words, contract_of, is_over, lost_of, margin_of, no_contract_of, packet_of}
use Rattle.pd_expect.specs.Stops.{stop_from}
use Rattle.pd_expect.specs.Table.{may_end}
use Rattle.pd_expect.specs.declared.rows.Begun.{Begun}
use Rattle.pd_expect.specs.declared.rows.Begun.TheVariants as begun

-- no word is left but a comment, and the line may end there
abbrev pub ends_well : Begun × Words → Bool
ends_well (begun, left) = may_end begun && is_over left

abbrev pub is_of_table : Begun → Words → Bool
is_of_table begun ws = ends_well (stop_from begun ws)

-- What stands behind `expect contract`, `expect no contract`, `expect margin`, `expect packet` and `lose` is one of these exactly where it
-- doesn't stop.
abbrev pub TableIsGrammar : Type 0
TableIsGrammar =
    (ws : Words)
    → (is_of_table begun.ContractPort ws ≡ is_some (contract_of ws))
    × ((is_of_table begun.NoContractPort ws ≡ is_some (no_contract_of ws))
    × ((is_of_table begun.MarginLeast ws ≡ is_some (margin_of ws))
    × ((is_of_table begun.PacketPort ws ≡ is_some (packet_of ws)) × (is_of_table begun.LostNth ws ≡ is_some (lost_of ws)))))
