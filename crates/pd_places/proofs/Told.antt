-- A text is told exactly where a test holds: it begins with the spot of its lines, and is empty where the test doesn't hold.
use Rattle.std.proofs.Common.{◌≡◌, ℕ, ◌+◌, Bool, true, false, not, ◌&&◌, ◌||◌, cond, List, [], ◌∷◌, ◌++◌, Option, Some, refl, ap, subst}
use Rattle.std.proofs.Common.{◌∙◌, append_assoc}
use Rattle.std.specs.List.{list_any, list_all, flat_map}
use Rattle.std.proofs.lemmas.Bool.{false≢true, and_parts}
use Rattle.pd_text.specs.Pieces.{PieceData}
use Rattle.pd_text.specs.Texts.{line_end, text_of_all}
use Rattle.pd_text.specs.Fronts.{line_with, said}
use Rattle.pd_misfits.specs.Lines.{head_line, line}
use Rattle.pd_misfits.specs.Marks.{line_of}
use Rattle.pd_misfits.specs.Spots.{SpotData, refused_front, spot_front, spot_in}
use Rattle.pd_places.specs.Numbered.{numbered}
use Rattle.pd_places.specs.First.{Begins}

abbrev pub Told : SpotData → Bool → List ℕ → Type 0
Told spot true text = Begins spot text
Told spot false text = text ≡ []

-- ---- parts that are put together

-- what stands first
abbrev head_of : SpotData → List ℕ → ℕ → List ℕ → List ℕ
head_of spot table number key = (refused_front spot.file.front (line_of spot.file.lines table number key) spot.refusal).text

pub begins_on : (spot : SpotData) (text more : List ℕ) → Begins spot text → Begins spot (text ++ more)
begins_on spot text more (table, number, key, (rest, is)) =
    (table, number, key, (rest ++ more, ap (λ v. v ++ more) is ∙ append_assoc (head_of spot table number key) rest more))

pub begins_after : (spot : SpotData) (text more : List ℕ) → text ≡ [] → Begins spot more → Begins spot (text ++ more)
begins_after spot text more none (table, number, key, (rest, is)) = (table, number, key, (rest, ap (λ v. v ++ more) none ∙ is))

-- where the test holds
pub begins_of : (spot : SpotData) (b : Bool) (text : List ℕ) → Told spot b text → b ≡ true → Begins spot text
begins_of spot true text told is = told
begins_of spot false text told is = absurd (false≢true is)

pub or_told : (spot : SpotData) (a b : Bool) (s t : List ℕ) → Told spot a s → Told spot b t → Told spot (a || b) (s ++ t)
or_told spot true b s t one other = begins_on spot s t one
or_told spot false true s t one other = begins_after spot s t one other
or_told spot false false s t one other = ap (λ v. v ++ t) one ∙ other

pub any_told : {X : Type 0} (spot : SpotData) (p : X → Bool) (g : X → List ℕ) (xs : List X)
    → ((x : X) → Told spot (p x) (g x)) → Told spot (list_any p xs) (flat_map g xs)
any_told spot p g [] each = refl
any_told spot p g (x ∷ xs) each =
    or_told spot (p x) (list_any p xs) (g x) (flat_map g xs) (each x) (any_told spot p g xs each)

-- the same of a list whose elements are told with their numbers, where each of them is sound
pub each_told : {X : Type 0} (spot : SpotData) (sound p : X → Bool) (part : ℕ → X → List ℕ)
    → ((number : ℕ) (x : X) → sound x ≡ true → Told spot (p x) (part number x))
    → (number : ℕ) (xs : List X) → list_all sound xs ≡ true → Told spot (list_any p xs) (numbered part number xs)
unfolding numbered
each_told spot sound p part each number [] all = refl
each_told spot sound p part each number (x ∷ xs) all =
    let both = and_parts (sound x) (list_all sound xs) all in
    or_told spot (p x) (list_any p xs) (part number x) (numbered part (number + 1) xs) (each number x both.0)
    (each_told spot sound p part each (number + 1) xs both.1)

-- a line of a table
pub shorter : (spot : SpotData) (table : List ℕ) (number : ℕ) (pieces : List PieceData) (b : Bool) (text : List ℕ)
    → Told (spot_in spot table number pieces) b text → Told spot b text
shorter spot table number pieces true text begins = begins
shorter spot table number pieces false text none = none

-- ---- lines

said_begins : (spot : SpotData) (key : List ℕ) (pieces : List PieceData) → Begins spot (line_with (spot_front spot key) pieces)
unfolding line_with spot_front
said_begins spot key pieces =
    let form = spot.file.front.form in
    let own = text_of_all form spot.pieces in
    let more = text_of_all form pieces ++ line_end form in
    (spot.table, spot.number, key, (own ++ more, append_assoc (head_of spot spot.table spot.number key) own more))

line_begins : (spot : SpotData) (word s hint : List ℕ) → Begins spot (line spot word s hint)
unfolding line
line_begins spot word s hint = said_begins spot word (said word s hint)

head_line_begins : (spot : SpotData) (word s : List ℕ) → Begins spot (head_line spot word s)
unfolding head_line
head_line_begins spot word s = said_begins spot [] (said word s [])

pub if_told : (spot : SpotData) (b : Bool) (word s hint : List ℕ) → Told spot b (cond b (line spot word s hint) [])
if_told spot true word s hint = line_begins spot word s hint
if_told spot false word s hint = refl

pub unless_told : (spot : SpotData) (b : Bool) (word s hint : List ℕ) → Told spot (not b) (cond b [] (line spot word s hint))
unless_told spot true word s hint = refl
unless_told spot false word s hint = line_begins spot word s hint

pub required_told : (spot : SpotData) (b : Bool) (word s : List ℕ) → Told spot (b && true) (cond b (head_line spot word s) [])
required_told spot true word s = head_line_begins spot word s
required_told spot false word s = refl

pub none_told : (spot : SpotData) (b : Bool) → Told spot (b && false) []
none_told spot true = refl
none_told spot false = refl

-- ---- the first of a list that is told

pub one_told : {F : Type 0} (spot : F → SpotData) (b : Bool) (x k : F) (found : Option F) (text more : List ℕ) → Told (spot x) b text
    → cond b (Some x) found ≡ Some k → (b ≡ false → found ≡ Some k → Begins (spot k) more) → Begins (spot k) (text ++ more)
one_told spot true x k found text more told is go =
    let same : x ≡ k = cc in
    begins_on (spot k) text more (subst (λ y. Begins (spot y) text) same told)
one_told spot false x k found text more told is go = begins_after (spot k) text more told (go refl is)
