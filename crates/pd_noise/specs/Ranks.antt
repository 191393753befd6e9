-- Order statistics: what stands at a place of some numbers once they are in order.
use Rattle.std.specs.Prelude.{ℕ, ◌+◌, ◌-◌, ◌*◌, ◌/◌, nat_le, List, [], ◌∷◌, length, slice_index, if◌then◌else◌}
use Rattle.pd_noise.specs.declared.spread.Spread.{Spread}

-- numbers in order with one more, before the first that isn't less
abbrev pub placed : ℕ → List ℕ → List ℕ
placed x [] = x ∷ []
placed x (y ∷ ys) = if nat_le x y then x ∷ (y ∷ ys) else y ∷ placed x ys

-- numbers in order, the least first
abbrev pub ordered : List ℕ → List ℕ
ordered [] = []
ordered (x ∷ xs) = placed x (ordered xs)

-- of n numbers in order, the places of the median and of the number up to which 95 % of them are, from 0 on
abbrev pub median_place : ℕ → ℕ
median_place n = (n - 1) / 2

abbrev pub high_place : ℕ → ℕ
high_place n = (95 * n + 99) / 100 - 1

-- 0 where there is no number
unfoldable pub spread_of : List ℕ → Spread
spread_of xs = record {
  least = slice_index (ordered xs) 0;
  median = slice_index (ordered xs) (median_place (length xs));
  high = slice_index (ordered xs) (high_place (length xs));
  greatest = slice_index (ordered xs) (length xs - 1);
}
