-- The message of a name.
use Rattle.std.specs.Prelude.{ℕ, zero, suc, List, Option, None, Some, bytes_eq, if◌then◌else◌}
use Rattle.std.specs.Option.{option_or}
use Rattle.pd_header.specs.declared.kind.Kind.{Kind}
use Rattle.pd_header.specs.Kinds.{kind_of, name_of}

-- of the two kinds of message of a type, one without objects and one with them, the first that has the name
abbrev pub named_of_type : List ℕ → ℕ → Option Kind
named_of_type name number = if bytes_eq (name_of (kind_of number 0)) name then Some (kind_of number 0)
    else (if bytes_eq (name_of (kind_of number 1)) name then Some (kind_of number 1) else None)

-- of the kinds of message of types below this one
unfoldable pub named_below : ℕ → List ℕ → Option Kind
named_below zero name = None
named_below (suc number) name = option_or (named_below number name) (named_of_type name number)

-- a header has five bits for the type
abbrev pub named : List ℕ → Option Kind
named = named_below 32
