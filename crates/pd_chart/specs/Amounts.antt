-- Times and powers as text: so many millionths of a unit, by an SI prefix, without zeros at the end.
use Rattle.std.specs.Prelude.{ℕ, ◌+◌, ◌*◌, ◌/◌, ◌%◌, ◌==◌, if◌then◌else◌, List, [], ◌∷◌, ◌++◌, codes, decimal}
use Rattle.pd_chart.specs.declared.amounts.Prefix.{Prefix}
use Rattle.pd_chart.specs.declared.amounts.Prefix.TheVariants.{Whole, Milli, Micro}

-- how many millionths of the unit it stands for
abbrev pub size_of : Prefix → ℕ
size_of Whole = 1000000
size_of Milli = 1000
size_of Micro = 1

-- the decimal places of a number of such parts
abbrev pub places_of : Prefix → List ℕ
places_of Whole = 100000 ∷ 10000 ∷ 1000 ∷ 100 ∷ 10 ∷ 1 ∷ []
places_of Milli = 100 ∷ 10 ∷ 1 ∷ []
places_of Micro = []

-- the digits of a number at these places, up to the last that isn't 0
abbrev pub digits : ℕ → List ℕ → List ℕ
digits n [] = []
digits n (place ∷ places) = if n % (10 * place) == 0 then [] else (48 + n / place % 10) ∷ digits n places

-- these digits behind a point, where there are any
unfoldable pub fraction : ℕ → Prefix → List ℕ
fraction n prefix = if n % size_of prefix == 0 then [] else 46 ∷ digits n (places_of prefix)

-- a number of millionths as one of such parts
unfoldable pub number_in : Prefix → ℕ → List ℕ
number_in prefix n = decimal (n / size_of prefix) ++ fraction n prefix

-- the units of time
abbrev pub seconds_name : Prefix → List ℕ
seconds_name Whole = codes "s"
seconds_name Milli = codes "ms"
seconds_name Micro = codes "us"
