-- What is told of a charger, piece by piece: this product's own words and keys. docs/FORMATS.md has both under What is guaranteed.
use Rattle.std.specs.Prelude.{ℕ, ◌+◌, List, [], ◌∷◌, ◌++◌, codes, length, slice_index_or}
use Rattle.std.specs.List.{flat_map, range_with_len}
use Rattle.pd_objects.specs.Supply.{SupplyData, least}
use Rattle.pd_text.specs.declared.piece.Form.{Form}
use Rattle.pd_text.specs.declared.piece.Unit.TheVariants.{Plain, Millivolts, Milliamperes, Microwatts}
use Rattle.pd_text.specs.Pieces.{PieceData, flag, kind, line_words, member_number, number}
use Rattle.pd_text.specs.Texts.{line_of}
use Rattle.pd_guarantee.specs.declared.bounds.PortBounds.{PortBounds}
use Rattle.pd_guarantee.specs.declared.bounds.SupplyBounds.{SupplyBounds}
use Rattle.pd_guarantee.specs.Bounds.{free_at_least, port_bounds, settings_at, supply_bounds}
use Rattle.pd_guarantee.specs.Charger.{Charger}

abbrev pub port_pieces : PortBounds → List PieceData
port_pieces b =
    kind (codes "port") ∷ number (codes "port ") (codes "port") Plain b.port ∷ member_number (codes "floor_uw") b.floor
    ∷ number (codes ": free at least ") (codes "free_at_least_uw") Microwatts b.free_at_least
    ∷ number (codes " whatever the other ports do, at most ") (codes "free_at_most_uw") Microwatts b.free_at_most
    ∷ number (codes "; no change of the budget resets it while it holds at most ") (codes "kept_up_to_uw") Microwatts b.kept_up_to
    ∷ flag (codes ", as it always does") [] (codes "always_kept") b.is_always_kept ∷ []

abbrev pub supply_pieces : ℕ → SupplyBounds → List PieceData
supply_pieces port b =
    kind (codes "supply") ∷ member_number (codes "port") port ∷ number (codes "  supply ") (codes "position") Plain b.position
    ∷ number (codes " ") (codes "voltage_mv") Millivolts b.mv
    ∷ number (codes ": offered at least ") (codes "at_least_ma") Milliamperes b.at_least
    ∷ number (codes " with a cable of 5 A, ") (codes "at_least_3a_ma") Milliamperes b.at_least_by_three
    ∷ line_words (codes " with another") ∷ []

-- the line of a port, and one for each of its supplies; ports and supplies are numbered from 0 here
abbrev pub port_line : Form → PortBounds → List ℕ
port_line form b = line_of form (port_pieces b)

abbrev pub supply_line : Form → ℕ → ℕ → List SupplyData → ℕ → List ℕ
supply_line form port free supplies i = line_of form (supply_pieces port (supply_bounds free (i + 1) (slice_index_or supplies i least)))

unfoldable pub supply_lines : Form → ℕ → ℕ → List SupplyData → List ℕ
supply_lines form port free supplies = flat_map (supply_line form port free supplies) (range_with_len 0 (length supplies))

unfoldable pub port_text : Form → Charger → ℕ → List ℕ
port_text form c p =
    port_line form (port_bounds c p) ++ supply_lines form (p + 1) (free_at_least c p) (settings_at c p).supplies

-- the lines of all ports
unfoldable pub charger_text : Form → Charger → List ℕ
charger_text form c = flat_map (port_text form c) (range_with_len 0 (length c.settings))
