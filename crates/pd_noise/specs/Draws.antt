-- Lots. The generator is xoshiro256++ of Blackman and Vigna, which SplitMix64 seeds; the crate rand_xoshiro has both.
use Rattle.std.specs.Prelude.{ℕ, ◌+◌, ◌*◌, ◌%◌, ◌^◌, nat_lt, Bool, List}
use Rattle.rand_xoshiro.specs.SplitMix64.{splitmix_seed}
use Rattle.rand_xoshiro.specs.Xoshiro256.{of_seed, plus_plus}

-- what a run of a seed begins to draw from: no two runs below 2^32 of all seeds below 2^32 begin alike
abbrev pub number_of : ℕ → ℕ → ℕ
number_of seed run = (seed * 2 ^ 32 + run) % 2 ^ 64

unfoldable pub generator_of : ℕ → ℕ → List ℕ
generator_of seed run = of_seed (splitmix_seed 32 (number_of seed run))

-- the next number, below 2^64, and the generator behind it
unfoldable pub number_next : List ℕ → ℕ
number_next g = (plus_plus g).0

unfoldable pub behind_next : List ℕ → List ℕ
behind_next g = (plus_plus g).1

-- the next number is below so many 100,000ths of its range
abbrev pub says_lost : ℕ → List ℕ → Bool
says_lost share g = nat_lt (number_next g * 100000) (share * 2 ^ 64)
