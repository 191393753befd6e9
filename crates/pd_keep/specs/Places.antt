-- Where ports stand beside a span of an older run.
use Rattle.std.specs.Prelude.{◌≡◌, ℕ, ◌<◌, Bool, true, false, List, length, Option, None, slice_index_or}
use Rattle.pd_port.specs.Port.{PortData}
use Rattle.pd_run.specs.Live.{LiveData, port_at}
use Rattle.pd_keep.specs.declared.kept_move.Place.{Place}
use Rattle.pd_keep.specs.Kept.{RunData, IsKnown}

-- n ports stand at these places of the span, where they are known; there is room for eight
pub record ArePlaced (n : ℕ) (old : RunData) (places : List (Option Place)) (live : LiveData) : Type 0 where
  pub count : length places ≡ 8
  pub placed : (p : ℕ) → p < n → IsKnown old.first old.moves p (slice_index_or places p None) (port_at live p)

-- of n ports those that are marked stand as these
abbrev pub StandAs : ℕ → List Bool → LiveData → (ℕ → PortData) → Type 0
StandAs n marks live port = (p : ℕ) → p < n → slice_index_or marks p false ≡ true → port_at live p ≡ port p
