-- What a side hears is of the type of what was sent, and has its objects: also where what was sent is no packet.
use Rattle.std.proofs.Common.{◌≡◌, ℕ, ◌+◌, ◌-◌, ◌%◌, ◌/◌, ◌^◌, ◌<◌, ◌≤◌, List, ◌++◌, length, take, drop, map, get_or, Some, sym, ap}
use Rattle.std.proofs.Common.{subst, ◌∙◌, arith, length-drop}
use Rattle.std.specs.Prelude.{bit_xor}
use Rattle.std.specs.List.{AllByRecursion, flat_map}
use Rattle.std.proofs.Math.ListN.{set}
use Rattle.std.proofs.lemmas.List.{take_at, drop_at, drop-set-add, set-get_or, get_or-drop}
use Rattle.pd_symbols.specs.Sets.{set_codes, channel_set}
use Rattle.pd_symbols.specs.Words.{nibbles, field}
use Rattle.pd_symbols.proofs.WordLemmas.{length-nibbles}
use Rattle.pd_packet.specs.declared.fate.Fate.{Fate}
use Rattle.pd_packet.specs.declared.fate.Fate.TheVariants.{Undisturbed, Lost, Damaged}
use Rattle.pd_packet.specs.Contents.{Contents}
use Rattle.pd_packet.specs.Hearing.{place_hit, damaged, heard}
use Rattle.pd_packet.specs.Reading.{digits_of, words, nibble_or_0}
use Rattle.pd_packet.specs.Spelling.{Spells, spelling, check_of}
use Rattle.pd_packet.proofs.Places.{digits-coded, words-objects}
use Rattle.pd_packet.proofs.Spelled.{digits, body, length_set, grouped, front_is, length-digits, length-body, digits_low}
use Rattle.pd_packet.proofs.OneCode.{in_body}
use Rattle.pd_packet.proofs.Heard.{received_is_spelled}

body_spelled : (p : Contents) → drop 4 (spelling p) ≡ body p
unfolding spelling
body_spelled p = drop_at (set_codes (channel_set p.channel)) (body p) 4 (length_set p.channel)

long : (p : Contents) → 5 ≤ length (spelling p)
long p =
    let n : length (drop 4 (spelling p)) ≡ length (body p) = ap length (body_spelled p) in
    omega (arith, length-drop 4 (spelling p), n, length-body p, length-digits p)

-- a code behind the set that is replaced by a code is that code, where a packet's codes are left
same_code : (p q : Contents) (j c : ℕ) → 4 + j < length (spelling p) → set (spelling p) (4 + j) c ≡ spelling q
    → set (spelling p) (4 + j) c ≡ spelling p
same_code p q j c lt e =
    let s = spelling p in
    let new : body q ≡ set (body p) j c =
    sym (body_spelled q) ∙ ap (λ (xs : List ℕ). drop 4 xs) (sym e) ∙ drop-set-add 4 s j c
    ∙ ap (λ (xs : List ℕ). set xs j c) (body_spelled p) in
    let n : length (drop 4 s) ≡ length (body p) = ap length (body_spelled p) in
    let room : j < length (body p) = omega (arith, length-drop 4 s, n) in
    let same : c ≡ get_or s (4 + j) 0 =
    in_body p q j c room new ∙ ap (λ (xs : List ℕ). get_or xs j 0) (sym (body_spelled p)) ∙ get_or-drop 4 s j 0 in
    ap (λ (x : ℕ). set s (4 + j) x) same ∙ set-get_or s (4 + j) 0

-- what is heard is spelled by the codes that were sent
pub heard_alike : (p q : Contents) (fate : Fate) → heard p fate ≡ Some q → Spells (spelling p) q
unfolding heard damaged place_hit
heard_alike p q Undisturbed e = (received_is_spelled (spelling p) q).0 e
heard_alike p q Lost e = absurd (cc)
heard_alike p q (Damaged d) e =
    let s = spelling p in
    let j = d.place % (length s - 4) in
    let c = bit_xor (get_or s (4 + j) 0) d.mask in
    let h : Spells (set s (4 + j) c) q = (received_is_spelled (set s (4 + j) c) q).0 e in
    let some = long p in
    let lt : 4 + j < length s = omega arith in
    subst (λ (xs : List ℕ). Spells xs q) (same_code p q j c lt h.codes) h

digits_spelled : (p : Contents) → digits_of (spelling p) ≡ digits p
unfolding digits_of
digits_spelled p =
    ap (λ (cs : List ℕ). map nibble_or_0 cs) (ap (λ (xs : List ℕ). take (length xs - 1) xs) (body_spelled p) ∙ front_is p)
    ∙ digits-coded (digits p) (digits_low p)

digits_alike : (p q : Contents) → Spells (spelling p) q → digits q ≡ digits p
digits_alike p q h = sym (digits_spelled q) ∙ ap digits_of (sym h.codes) ∙ digits_spelled p

front : (p : Contents) → take 4 (digits p) ≡ nibbles 4 p.header
front p =
    ap (λ (ds : List ℕ). take 4 ds) (grouped p)
    ∙ take_at (nibbles 4 p.header) (flat_map (nibbles 8) p.objects ++ nibbles 8 (check_of p)) 4 (length-nibbles 4 p.header)

back : (p : Contents) → drop 4 (digits p) ≡ flat_map (nibbles 8) p.objects ++ nibbles 8 (check_of p)
back p =
    ap (λ (ds : List ℕ). drop 4 ds) (grouped p)
    ∙ drop_at (nibbles 4 p.header) (flat_map (nibbles 8) p.objects ++ nibbles 8 (check_of p)) 4 (length-nibbles 4 p.header)

-- the type is in the first two nibbles
type_in : (a b : ℕ) → nibbles 4 a ≡ nibbles 4 b → field a 4 0 ≡ field b 4 0
unfolding nibbles
type_in a b e =
    let low : a % 16 ≡ b % 16 = ap (λ (ds : List ℕ). get_or ds 0 0) e in
    let high : a / 16 % 16 ≡ b / 16 % 16 = ap (λ (ds : List ℕ). get_or ds 1 0) e in
    omega arith

pub type_alike : (p q : Contents) → Spells (spelling p) q → field q.header 4 0 ≡ field p.header 4 0
type_alike p q h =
    type_in q.header p.header (sym (front q) ∙ ap (λ (ds : List ℕ). take 4 ds) (digits_alike p q h) ∙ front p)

words_in : (p : Contents) → AllByRecursion (λ w. w < 2 ^ 32) p.objects → words (length p.objects) (drop 4 (digits p)) ≡ p.objects
words_in p fit = ap (λ (ds : List ℕ). words (length p.objects) ds) (back p) ∙ words-objects p.objects (nibbles 8 (check_of p)) fit

pub objects_alike : (p q : Contents) → Spells (spelling p) q → AllByRecursion (λ w. w < 2 ^ 32) p.objects → q.objects ≡ p.objects
objects_alike p q h fit =
    let e = digits_alike p q h in
    let long_as : length (digits q) ≡ length (digits p) = ap length e in
    let n : length q.objects ≡ length p.objects = omega (arith, long_as, length-digits p, length-digits q) in
    sym (words_in q h.is_packet.objects_fit) ∙ ap (λ (ds : List ℕ). words (length q.objects) (drop 4 ds)) e
    ∙ ap (λ (k : ℕ). words k (drop 4 (digits p))) n ∙ words_in p fit
