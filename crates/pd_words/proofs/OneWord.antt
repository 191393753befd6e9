-- What clap makes of one word, where no option waits for its value.
use Rattle.std.specs.Char.{encode_utf8}
use Rattle.std.proofs.Common.{arith, ◌∙◌, ◌≡◌, ◌==◌, ◌||◌, ℕ, suc, Bool, true, false, List, [], ◌∷◌, length, ap, ap₂, refl, sym, subst}
use Rattle.std.proofs.Common.{codes, bytes_eq, Option, None, Some, slice_get}
use Rattle.std.specs.Prelude.{if◌then◌else◌}
use Rattle.std.specs.Str.{IsUtf8, chars, encode_utf8_all}
use Rattle.std.proofs.lemmas.Str.{encodes-chars}
use Rattle.std.proofs.lemmas.Bool.{eqb-true}
use Rattle.clap.specs.Words.{Rule, Shape}
use Rattle.clap.specs.Kinds.{Kinds, or_else}
use Rattle.clap.specs.Lexer.{long_of, name_and_value, short_of}
use Rattle.clap.specs.Simple.{filled, help_rule}
use Rattle.clap.specs.Walk.{Held, Names, Walk, after_step, arg_by_index, arg_by_long, arg_by_short, idle, subcommand_met, to_positional}
use Rattle.clap.specs.Walk.{value, walked, word_met}
use Rattle.clap.specs.Faults.{bundle_fault, flags_fault, long_fault, other_fault, react_fault, settle_fault, short_fault, step_fault}
use Rattle.clap.specs.Faults.{turn_fault}
use Rattle.pd_words.specs.Tasks.{Text, is_dashed}

abbrev pub IsPlain : Text → Type 0
IsPlain word = is_dashed word ≡ false

-- the walk stands before a word, behind `--` or not
abbrev pub at : Bool → ℕ → Held → Walk
at is_trailing position h = record { held = h; waiting = idle; position = position; is_trailing = is_trailing; stopped = None }

-- ---- a plain word

not_dashes : (word : Text) → IsPlain word → bytes_eq word (codes "--") ≡ false
not_dashes [] plain = refl
not_dashes (x ∷ []) plain = go (x == 45) refl
  where
    go : (t : Bool) → (x == 45) ≡ t → bytes_eq (x ∷ []) (codes "--") ≡ false
    go true t = rw t refl
    go false t = rw t refl
not_dashes (x ∷ (y ∷ ys)) plain = rw plain refl

no_long : (word : Text) → IsPlain word → long_of word ≡ None
no_long [] plain = refl
no_long (x ∷ []) plain = go (x == 45) refl
  where
    go : (t : Bool) → (x == 45) ≡ t → long_of (x ∷ []) ≡ None
    go true t = rw t refl
    go false t = rw t refl
no_long (x ∷ (y ∷ ys)) plain = rw plain refl

no_short : (word : Text) → IsPlain word → short_of word ≡ None
no_short [] plain = refl
no_short (x ∷ []) plain = go (x == 45) refl
  where
    go : (t : Bool) → (x == 45) ≡ t → short_of (x ∷ []) ≡ None
    go true t = rw t refl
    go false t = rw t refl
no_short (x ∷ (y ∷ ys)) plain = rw plain refl

met : (c : List Rule) (names : Names) (position : ℕ) (h : Held) (word : Text) → subcommand_met names idle word ≡ None → IsPlain word
    → word_met c names false idle position word h ≡ (h, value)
met c names position h word unnamed plain = rw (unnamed, not_dashes word plain, no_long word plain, no_short word plain) refl

pub plain_step : (c : List Rule) (position : ℕ) (h : Held) (word : Text) → IsPlain word
    → walked c [] (at false position h) word ≡ to_positional c (arg_by_index c position) word (at false position h) h
unfolding walked
plain_step c position h word plain =
    ap (λ found. after_step c word (at false position h) found.0 found.1) (met c [] position h word refl plain)

no_flag : (s : Shape) (h : Held) (word : Text) → IsPlain word → other_fault s None word h ≡ []
no_flag s h word plain = rw (not_dashes word plain, no_long word plain, no_short word plain) refl

pub plain_turn : (s : Shape) (names : Names) (position : ℕ) (h : Held) (word : Text) → subcommand_met names idle word ≡ None → IsPlain word
    → turn_fault s names (at false position h) word ≡ step_fault s position h value
plain_turn s names position h word unnamed plain = ap₂ (λ fault found. or_else fault (step_fault s position found.0 found.1))
    (ap (λ name. other_fault s name word h) unnamed ∙ no_flag s h word plain) (met s.rules names position h word unnamed plain)

-- ---- a flag, of a command that has none but those for help

abbrev pub fails : Kinds → Bool
fails [] = false
fails (kind ∷ kinds) = true

pub fails_first : (a b : Kinds) → fails a ≡ true → fails (or_else a b) ≡ true
fails_first [] b failed = cc
fails_first (kind ∷ kinds) b failed = refl

abbrev pub help : Rule
help = filled help_rule

pub record HasHelpOnly (s : Shape) : Type 0 where
  pub long : (name : Text) → arg_by_long s.rules name ≡ (if bytes_eq (codes "help") name || false then Some help else None)
  pub short : (x : ℕ) → arg_by_short s.rules x ≡ (if (104 == x) || false then Some help else None)

help_fails : (c : List Rule) (again : Bool) (h : Held) → settle_fault c again h ≡ [] → fails (react_fault c again help [] h) ≡ true
help_fails c again h settles = rw settles refl

long_fails : (c : List Rule) (again : Bool) (v : Option Text) (h : Held) → settle_fault c again h ≡ []
    → fails (long_fault c again (Some help) v h) ≡ true
long_fails c again None h settles = help_fails c again h settles
long_fails c again (Some v) h settles = refl

long_flag : (s : Shape) (again : Bool) (name : Text) (v : Option Text) (h : Held) → HasHelpOnly s → settle_fault s.rules again h ≡ []
    → fails (long_fault s.rules again (arg_by_long s.rules name) v h) ≡ true
long_flag s again name v h only settles = rw (only.long name) (go (bytes_eq (codes "help") name))
  where
    go : (t : Bool) → fails (long_fault s.rules again (if t || false then Some help else None) v h) ≡ true
    go true = long_fails s.rules again v h settles
    go false = refl

short_flag : (s : Shape) (again : Bool) (x : ℕ) (rest : Text) (h : Held) (next : Held → Kinds) → HasHelpOnly s
    → settle_fault s.rules again h ≡ [] → fails (short_fault s.rules again (arg_by_short s.rules x) rest h next) ≡ true
short_flag s again x rest h next only settles = rw (only.short x) (go (104 == x))
  where
    go : (t : Bool) → fails (short_fault s.rules again (if t || false then Some help else None) rest h next) ≡ true
    go true = fails_first _ _ (help_fails s.rules again h settles)
    go false = refl

spelled : (y : ℕ) (ys : Text) → IsUtf8 (45 ∷ (y ∷ ys)) → encode_utf8_all (45 ∷ chars (y ∷ ys)) ≡ 45 ∷ (y ∷ ys)
unfolding chars
spelled y ys utf8 = encodes-chars (45 ∷ (y ∷ ys)) utf8

-- a flag has a character behind its dash
first_char : (y : ℕ) (ys : Text) → IsUtf8 (45 ∷ (y ∷ ys)) → (x : ℕ) × (slice_get (chars (y ∷ ys)) 0 ≡ Some x)
unfolding encode_utf8
first_char y ys utf8 = go (chars (y ∷ ys)) refl
  where
    go : (cs : List ℕ) → chars (y ∷ ys) ≡ cs → (x : ℕ) × (slice_get (chars (y ∷ ys)) 0 ≡ Some x)
    go [] is =
        let bad : encode_utf8_all (45 ∷ []) ≡ 45 ∷ (y ∷ ys) =
        subst (λ cs. encode_utf8_all (45 ∷ cs) ≡ 45 ∷ (y ∷ ys)) is (spelled y ys utf8) in
        let none : 1 ≡ suc (suc (length ys)) = ap length bad in
        absurd (omega (arith, none))
    go (x ∷ xs) is = (x, ap (λ cs. slice_get cs 0) is)

-- ---- a dashed word, but for `--`

long_turn : (s : Shape) (h : Held) (z : ℕ) (zs : Text) → HasHelpOnly s → settle_fault s.rules s.args_override_self h ≡ []
    → fails (other_fault s None (45 ∷ (45 ∷ (z ∷ zs))) h) ≡ true
long_turn s h z zs only settles =
    long_flag s s.args_override_self (name_and_value (z ∷ zs)).0 (name_and_value (z ∷ zs)).1 h only settles

bundle_fails : (s : Shape) (h : Held) (y : ℕ) (ys : Text) → HasHelpOnly s → settle_fault s.rules s.args_override_self h ≡ [] → h.skip ≡ 0
    → IsUtf8 (45 ∷ (y ∷ ys)) → fails (bundle_fault s.rules s.args_override_self (y ∷ ys) h) ≡ true
unfolding flags_fault
bundle_fails s h y ys only settles unskipped utf8 =
    let char = first_char y ys utf8 in
    let plain : Held = record h { skip = 0 } in
    rw (unskipped, char.1) (short_flag s s.args_override_self char.0 _ plain _ only settles)

short_word : (s : Shape) (h : Held) (word flags : Text) → bytes_eq word (codes "--") ≡ false → long_of word ≡ None
    → short_of word ≡ Some flags
    → fails (bundle_fault s.rules s.args_override_self flags h) ≡ true → fails (other_fault s None word h) ≡ true
short_word s h word flags apart not_long short failed = rw (apart, not_long, short) failed

short_turn : (s : Shape) (h : Held) (y : ℕ) (ys : Text) → (y == 45) ≡ false → HasHelpOnly s
    → settle_fault s.rules s.args_override_self h ≡ []
    → h.skip ≡ 0 → IsUtf8 (45 ∷ (y ∷ ys)) → bytes_eq (45 ∷ (y ∷ ys)) (codes "--") ≡ false
    → fails (other_fault s None (45 ∷ (y ∷ ys)) h) ≡ true
short_turn s h y ys other only settles unskipped utf8 apart =
    let not_long : long_of (45 ∷ (y ∷ ys)) ≡ None = rw other refl in
    let short : short_of (45 ∷ (y ∷ ys)) ≡ Some (y ∷ ys) = rw other refl in
    short_word s h (45 ∷ (y ∷ ys)) (y ∷ ys) apart not_long short (bundle_fails s h y ys only settles unskipped utf8)

flag_fails : (s : Shape) (h : Held) (word : Text) → HasHelpOnly s → settle_fault s.rules s.args_override_self h ≡ [] → h.skip ≡ 0
    → IsUtf8 word → bytes_eq word (codes "--") ≡ false → is_dashed word ≡ true → fails (other_fault s None word h) ≡ true
flag_fails s h [] only settles unskipped utf8 not_both dashed = cc
flag_fails s h (x ∷ []) only settles unskipped utf8 not_both dashed = cc
flag_fails s h (x ∷ (y ∷ ys)) only settles unskipped utf8 not_both dashed =
    let dash : 45 ≡ x = sym (eqb-true x 45 dashed) in
    subst (λ x. IsUtf8 (x ∷ (y ∷ ys)) → bytes_eq (x ∷ (y ∷ ys)) (codes "--") ≡ false
    → fails (other_fault s None (x ∷ (y ∷ ys)) h) ≡ true) dash
    (go (y == 45) refl) utf8 not_both
  where
    both : (ys : Text) → bytes_eq (45 ∷ (45 ∷ ys)) (codes "--") ≡ false → fails (other_fault s None (45 ∷ (45 ∷ ys)) h) ≡ true
    both [] apart = cc
    both (z ∷ zs) apart = long_turn s h z zs only settles

    go : (t : Bool) → (y == 45) ≡ t → IsUtf8 (45 ∷ (y ∷ ys)) → bytes_eq (45 ∷ (y ∷ ys)) (codes "--") ≡ false
        → fails (other_fault s None (45 ∷ (y ∷ ys)) h) ≡ true
    go true is utf8 apart = subst (λ y. bytes_eq (45 ∷ (y ∷ ys)) (codes "--") ≡ false → fails (other_fault s None (45 ∷ (y ∷ ys)) h) ≡ true)
        (sym (eqb-true y 45 is)) (both ys) apart
    go false is utf8 apart = short_turn s h y ys is only settles unskipped utf8 apart

pub flag_turn : (s : Shape) (names : Names) (position : ℕ) (h : Held) (word : Text) → subcommand_met names idle word ≡ None → HasHelpOnly s
    → settle_fault s.rules s.args_override_self h ≡ [] → h.skip ≡ 0 → IsUtf8 word → bytes_eq word (codes "--") ≡ false
    → is_dashed word ≡ true
    → fails (turn_fault s names (at false position h) word) ≡ true
flag_turn s names position h word unnamed only settles unskipped utf8 not_both dashed = fails_first _ _
    (subst (λ name. fails (other_fault s name word h) ≡ true) (sym unnamed)
    (flag_fails s h word only settles unskipped utf8 not_both dashed))
