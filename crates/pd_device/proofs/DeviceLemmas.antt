-- Facts on what was written so far.
use Rattle.std.proofs.Common.{◌≡◌, ℕ, List, [], ◌++◌, take, drop, Option, refl, sym, ap, ◌∙◌, append_assoc}
use Rattle.std.proofs.lemmas.List.{take-append-drop}
use Rattle.std.specs.Io.KnownBytes.{Appends, Keeps}
use Rattle.std.proofs.KnownBytes.{Appends-trans, Appends-kept, Appends-nil}
use Rattle.pd_device.specs.Device.{WrotePart}

-- all is what was written and what is left to write
pub record Wrote (all rest : List ℕ) (old new : Option (List ℕ)) : Type 0 where
  pub out : List ℕ
  pub whole : all ≡ out ++ rest
  pub appends : Appends old new out

pub Wrote-more : (all rest : List ℕ) (a b c : Option (List ℕ)) (n : ℕ) → Wrote all rest a b → Appends b c (take n rest) →
    Wrote all (drop n rest) a c
Wrote-more all rest a b c n w more = record {
  out = w.out ++ take n rest;
  whole = w.whole ∙ ap (λ v. w.out ++ v) (sym (take-append-drop n rest)) ∙ sym (append_assoc w.out (take n rest) (drop n rest));
  appends = Appends-trans a b c w.out (take n rest) w.appends more;
}

-- a writer that failed after some first bytes of what was left
pub Wrote-part : (all rest : List ℕ) (a b c : Option (List ℕ)) → Wrote all rest a b → WrotePart b c rest → WrotePart a c all
Wrote-part all rest a b c w part = record {
  out = w.out ++ part.out;
  begins = (part.begins.0, w.whole ∙ ap (λ v. w.out ++ v) part.begins.1 ∙ sym (append_assoc w.out part.out part.begins.0));
  appends = Appends-trans a b c w.out part.out w.appends part.appends;
}

-- none is a part of each text
pub wrote_none : (a b : Option (List ℕ)) (text : List ℕ) → Keeps a b → WrotePart a b text
wrote_none a b text k = record { out = []; begins = (text, refl); appends = Appends-kept a a b [] (Appends-nil a) k }

-- a part of what follows a text that was written
pub WrotePart-after : (a b c : Option (List ℕ)) (text more : List ℕ) → Appends a b text → WrotePart b c more → WrotePart a c (text ++ more)
WrotePart-after a b c text more first w = record {
  out = text ++ w.out;
  begins = (w.begins.0, ap (λ v. text ++ v) w.begins.1 ∙ sym (append_assoc text w.out w.begins.0));
  appends = Appends-trans a b c text w.out first w.appends;
}

-- a part of a text is a part of a longer one
pub WrotePart-longer : (a b : Option (List ℕ)) (text more : List ℕ) → WrotePart a b text → WrotePart a b (text ++ more)
WrotePart-longer a b text more w = record {
  out = w.out;
  begins = (w.begins.0 ++ more, ap (λ v. v ++ more) w.begins.1 ∙ append_assoc w.out w.begins.0 more);
  appends = w.appends;
}
