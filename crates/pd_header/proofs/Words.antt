-- Headers and their 16 bits are one to one.
use Rattle.std.proofs.Common.{◌≡◌, ◌==◌, ℕ, zero, suc, ◌+◌, ◌*◌, ◌%◌, ◌/◌, ◌^◌, ◌<◌, Bool, true, false, refl, ap, ◌∙◌, arith}
use Rattle.pd_symbols.specs.Words.{field}
use Rattle.pd_header.specs.Header.{HeaderData, IsHeader, bit, extended_of, count_of, id_of, role_of, revision_of, data_role_of}
use Rattle.pd_header.specs.Header.{packed, unpacked}

bit_is : (n : ℕ) → n < 2 → bit (n == 1) ≡ n
bit_is zero lt = refl
bit_is (suc zero) lt = refl
bit_is (suc (suc n)) lt = absurd (omega arith)

is_bit : (b : Bool) → (bit b == 1) ≡ b
is_bit true = refl
is_bit false = refl

bit_below : (b : Bool) → bit b < 2
bit_below true = omega arith
bit_below false = omega arith

split : (w : ℕ) → w < 2 ^ 16
    → w / 2 ^ 15 % 2 * 2 ^ 15 + w / 2 ^ 12 % 2 ^ 3 * 2 ^ 12 + w / 2 ^ 9 % 2 ^ 3 * 2 ^ 9 + w / 2 ^ 8 % 2 * 2 ^ 8 + w / 2 ^ 6 % 2 ^ 2 * 2 ^ 6
    + w / 2 ^ 5 % 2 * 2 ^ 5 + w / 2 ^ 0 % 2 ^ 5 ≡ w
split w lt = omega arith

pub packed_unpacked : (w : ℕ) → w < 2 ^ 16 → packed (unpacked w) ≡ w
unfolding packed unpacked id_of revision_of
packed_unpacked w lt =
    rw (bit_is (field w 15 15) (omega arith), bit_is (field w 8 8) (omega arith), bit_is (field w 5 5) (omega arith)) (split w lt)

abbrev make : Bool → ℕ → ℕ → Bool → ℕ → Bool → ℕ → HeaderData
make a b c d e f k = record { extended = a; count = b; id = c; role = d; revision = e; data_role = f; kind = k }

joined : (a b c d e f g : ℕ) → a < 2 → b < 2 ^ 3 → c < 2 ^ 3 → d < 2 → e < 2 ^ 2 → f < 2 → g < 2 ^ 5
    → let w : ℕ = a * 2 ^ 15 + b * 2 ^ 12 + c * 2 ^ 9 + d * 2 ^ 8 + e * 2 ^ 6 + f * 2 ^ 5 + g in
    (field w 15 15 ≡ a) × (field w 14 12 ≡ b) × (field w 11 9 ≡ c) × (field w 8 8 ≡ d) × (field w 7 6 ≡ e) × (field w 5 5 ≡ f)
    × (field w 4 0 ≡ g)
joined a b c d e f g a2 b8 c8 d2 e4 f2 g32 =
    (omega arith, omega arith, omega arith, omega arith, omega arith, omega arith, omega arith)

same_header : (g h : HeaderData) → g.extended ≡ h.extended → g.count ≡ h.count → g.id ≡ h.id → g.role ≡ h.role
    → g.revision ≡ h.revision → g.data_role ≡ h.data_role → g.kind ≡ h.kind → g ≡ h
same_header g h a b c d e f k =
    let all : make g.extended g.count g.id g.role g.revision g.data_role g.kind
    ≡ make h.extended h.count h.id h.role h.revision h.data_role h.kind = cc in
    all

pub unpacked_packed : (h : HeaderData) → IsHeader h → unpacked (packed h) ≡ h
unfolding packed unpacked id_of revision_of
unpacked_packed h fits =
    let all =
    joined (bit h.extended) h.count h.id (bit h.role) h.revision (bit h.data_role) h.kind (bit_below h.extended) fits.count_fits
    fits.id_fits
    (bit_below h.role) fits.revision_fits (bit_below h.data_role) fits.kind_fits in
    let a : extended_of (packed h) ≡ h.extended = ap (λ (n : ℕ). n == 1) all.0 ∙ is_bit h.extended in
    let d : role_of (packed h) ≡ h.role = ap (λ (n : ℕ). n == 1) all.3 ∙ is_bit h.role in
    let f : data_role_of (packed h) ≡ h.data_role = ap (λ (n : ℕ). n == 1) all.5 ∙ is_bit h.data_role in
    same_header (unpacked (packed h)) h a all.1 all.2 d all.4 f all.6

pub count_packed : (h : HeaderData) → IsHeader h → count_of (packed h) ≡ h.count
unfolding unpacked
count_packed h fits = ap (λ (g : HeaderData). g.count) (unpacked_packed h fits)

pub id_packed : (h : HeaderData) → IsHeader h → id_of (packed h) ≡ h.id
unfolding unpacked
id_packed h fits = ap (λ (g : HeaderData). g.id) (unpacked_packed h fits)
