-- The tables behind references.
use Rattle.std.specs.Prelude.{List, map, String}
use Rattle.std.specs.Borrow.{Bor}
use Rattle.std.specs.BTreeMap.{BTreeMap}
use Rattle.std.specs.declared.alloc.Global.{Global}
use Rattle.toml.specs.declared.value.Value.{Value}
use Rattle.toml.specs.Data.{Members}
use Rattle.toml.specs.View.{table_view}

abbrev pub views : List (Bor (BTreeMap (String Global) Value)) → List Members
views ts = map (λ t. table_view t.now) ts
