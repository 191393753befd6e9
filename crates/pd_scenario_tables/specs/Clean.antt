-- Tables to which none of the refusals up to the names applies, and how one look at each key tells them.
use Rattle.std.specs.Prelude.{ℕ, Bool, not, ◌&&◌, Option, Some, None}
use Rattle.toml.specs.Data.{Data, Members}
use Rattle.pd_scenario_tables.specs.declared.schema.Version.{Version}
use Rattle.pd_scenario_tables.specs.declared.schema.TableKind.{TableKind}
use Rattle.pd_scenario_tables.specs.declared.schema.TableKind.TheVariants.{Event}
use Rattle.pd_scenario_tables.specs.declared.schema.Need.{Need}
use Rattle.pd_scenario_tables.specs.declared.schema.Form.{Form}
use Rattle.pd_scenario_tables.specs.declared.schema.Rule.{Rule}
use Rattle.pd_scenario_tables.specs.declared.fault.ScenarioFault.TheVariants as fault
use Rattle.pd_scenario_tables.specs.Values.{has_type, in_range, is_named}
use Rattle.pd_scenario_tables.specs.Tables.{value_at, event_at, is_required, fails, is_sound}

-- a table knows its keys, their values are of their types, and it is sound
unfoldable pub is_clean : Version → ℕ → TableKind → Members → Bool
is_clean version ports kind t =
    not (fails fault.UnknownKey version ports kind t)
    && (not (fails fault.WrongType version ports kind t) && is_sound version ports kind t)

abbrev pub is_clean_event : Version → ℕ → Members → Bool
is_clean_event version ports t = is_clean version ports (Event (event_at version t)) t

-- a value is of its form's type, in range, and a name where it has to be one
abbrev pub suits : Version → ℕ → Form → Data → Bool
suits version ports form d = has_type form d && (in_range version ports form d && is_named form d)

-- what stands at a key suits, or the key may be absent
abbrev pub suits_need : (Data → Bool) → Need → Option Data → Bool
suits_need test need None = not (is_required need)
suits_need test need (Some d) = test d

abbrev pub suits_rule : Version → ℕ → Members → Rule → Bool
suits_rule version ports t r = suits_need (suits version ports r.form) r.need (value_at r.key t)
