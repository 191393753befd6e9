-- How much of a text was written, part by part.
use Rattle.std.proofs.Common.{◌≡◌, ℕ, Bool, false, List, [], ◌∷◌, ◌++◌, length, Option, refl, sym, ap, subst, ◌∙◌, append_assoc, arith}
use Rattle.std.specs.Prelude.{nat_lt, ◌||◌}
use Rattle.std.specs.Io.KnownBytes.{Appends}
use Rattle.std.proofs.KnownBytes.{Appends-nil, Appends-trans}
use Rattle.std.proofs.lemmas.Bool.{lt-ltb}
use Rattle.std.proofs.lemmas.List.{append-nil}
use Rattle.pd_device.specs.Device.{WrotePart}
use Rattle.pd_device.proofs.DeviceLemmas.{WrotePart-after, WrotePart-longer}

-- all is what was written and what is left to write; and whether any was
pub record Progress (all rest : List ℕ) (any : Bool) (old new : Option (List ℕ)) : Type 0 where
  pub out : List ℕ
  pub whole : all ≡ out ++ rest
  pub appends : Appends old new out
  pub any_is : any ≡ nat_lt 0 (length out)

-- nothing yet
pub started : (all : List ℕ) (a : Option (List ℕ)) → Progress all all false a a
started all a = record { out = []; whole = refl; appends = Appends-nil a; any_is = refl }

any_of : (xs ys : List ℕ) → (nat_lt 0 (length xs) || nat_lt 0 (length ys)) ≡ nat_lt 0 (length (xs ++ ys))
any_of [] ys = refl
any_of (x ∷ xs) ys = rw (lt-ltb 0 (length (x ∷ xs)) (omega arith), lt-ltb 0 (length (x ∷ xs ++ ys)) (omega arith)) refl

-- one more part
pub more : (all rest part left : List ℕ) (any any' : Bool) (a b c : Option (List ℕ)) → Progress all rest any a b → rest ≡ part ++ left
    → Appends b c part → any' ≡ (any || nat_lt 0 (length part)) → Progress all left any' a c
more all rest part left any any' a b c p split wrote is = record {
  out = p.out ++ part;
  whole = p.whole ∙ ap (λ v. p.out ++ v) split ∙ sym (append_assoc p.out part left);
  appends = Appends-trans a b c p.out part p.appends wrote;
  any_is = is ∙ ap (λ v. v || nat_lt 0 (length part)) p.any_is ∙ any_of p.out part;
}

-- what was written is a part of all
pub so_far : (all rest : List ℕ) (any : Bool) (a b : Option (List ℕ)) → Progress all rest any a b → WrotePart a b all
so_far all rest any a b p = record { out = p.out; begins = (rest, p.whole); appends = p.appends }

-- so it is where one more part was written in part
pub torn : (all rest part left : List ℕ) (any : Bool) (a b c : Option (List ℕ)) → Progress all rest any a b → rest ≡ part ++ left
    → WrotePart b c part → WrotePart a c all
torn all rest part left any a b c p split wrote =
    let longer : WrotePart b c rest = subst (λ t. WrotePart b c t) (sym split) (WrotePart-longer b c part left wrote) in
    subst (λ t. WrotePart a c t) (sym p.whole) (WrotePart-after a b c p.out rest p.appends longer)

-- nothing is left
pub all_written : (all rest : List ℕ) (any : Bool) (a b : Option (List ℕ)) → Progress all rest any a b → rest ≡ []
    → Appends a b all × (any ≡ nat_lt 0 (length all))
all_written all rest any a b p none =
    let whole : p.out ≡ all = sym (p.whole ∙ ap (λ v. p.out ++ v) none ∙ append-nil p.out) in
    (subst (λ t. Appends a b t) whole p.appends, p.any_is ∙ ap (λ t. nat_lt 0 (length t)) whole)

-- a text that was written is a part of itself
pub whole_part : (a b : Option (List ℕ)) (text : List ℕ) → Appends a b text → WrotePart a b text
whole_part a b text wrote = record { out = text; begins = ([], sym (append-nil text)); appends = wrote }

-- a text behind another
pub behind : (a b c : Option (List ℕ)) (text end bytes : List ℕ) → bytes ≡ end → Appends a b text → Appends b c bytes
    → Appends a c (text ++ end)
behind a b c text end bytes is first wrote = Appends-trans a b c text end first (subst (λ t. Appends b c t) is wrote)

-- a text that was written in part behind another
pub torn_behind : (a b c : Option (List ℕ)) (text end bytes : List ℕ) → bytes ≡ end → Appends a b text → WrotePart b c bytes
    → WrotePart a c (text ++ end)
torn_behind a b c text end bytes is first wrote = WrotePart-after a b c text end first (subst (λ t. WrotePart b c t) is wrote)
