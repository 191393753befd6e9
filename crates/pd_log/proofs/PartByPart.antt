-- The codes of a line, read part by part.
use Rattle.std.proofs.Common.{◌≡◌, ℕ, List, [], ◌∷◌, ◌++◌, refl, ap, append_assoc, Some, None}
use Rattle.std.specs.Prelude.{Option, option_map}
use Rattle.pd_log.specs.declared.mark.Mark.{Mark}
use Rattle.pd_log.specs.Codes.{code_of}
use Rattle.pd_log.specs.Parts.{Parts, next}
use Rattle.pd_log.specs.Forms.{at_end, codes_in, mark_of, with_codes}

joined : (read : List ℕ) (code : ℕ) (more : Option (List ℕ × Mark))
    → with_codes (read ++ code ∷ []) more ≡ with_codes read (with_codes (code ∷ []) more)
joined read code None = refl
joined read code (Some more) = rw append_assoc

-- the first part and the others
pub begins : (ps : Parts) (p : List ℕ) (others : Parts) → Some (p, others) ≡ next ps → ps ≡ p ∷ others
begins [] p others h = absurd (cc)
begins (q ∷ ps) p others h =
    let part_is = ap (λ (o : Option (List ℕ × Parts)). option_map (λ (x : List ℕ × Parts). x.0) o) h in
    let others_are = ap (λ (o : Option (List ℕ × Parts)). option_map (λ (x : List ℕ × Parts). x.1) o) h in
    cc

pub one_more : (read : List ℕ) (ps : Parts) (p : List ℕ) (others : Parts) (code : ℕ) → Some (p, others) ≡ next ps → Some code ≡ code_of p
    → with_codes (read ++ code ∷ []) (codes_in others) ≡ with_codes read (codes_in ps)
one_more read ps p others code first is =
    rw (begins ps p others first, ← is) (joined read code (codes_in others))

-- a part that is no code and no mark at the end
pub unmarked : (read : List ℕ) (ps : Parts) (p : List ℕ) (others : Parts) → Some (p, others) ≡ next ps → None ≡ code_of p
    → None ≡ at_end (mark_of p) others
    → None ≡ with_codes read (codes_in ps)
unmarked read ps p others first none end = rw (begins ps p others first, ← none, ← end)
