-- The bytes of a line, and the objects of bytes, read one after the other.
use Rattle.std.proofs.Common.{◌≡◌, ◌-◌, ◌≤◌, ℕ, List, [], ◌∷◌, ◌++◌, refl, append_assoc, Some, None, length, get_or, take, drop, arith}
use Rattle.std.specs.Prelude.{Option, option_and_then}
use Rattle.std.proofs.lemmas.List.{take_all}
use Rattle.pd_log.specs.Bytes.{bytes_in, pairs_of}
use Rattle.pd_log.specs.Codes.{pair_of, without_0x}
use Rattle.pd_log.specs.Parts.{Parts, next}
use Rattle.pd_log.specs.Words.{with_objects}
use Rattle.pd_log.proofs.ObjectByObject.{joined}
use Rattle.pd_log.proofs.PartByPart.{begins}

-- two digits, and the byte that they are
pub next_pair : (read digits : List ℕ) (byte : ℕ) → 2 ≤ length digits → Some byte ≡ pair_of (get_or digits 0 0) (get_or digits 1 0)
    → with_objects (read ++ byte ∷ []) (pairs_of (take (length digits - 2) (drop 2 digits))) ≡ with_objects read (pairs_of digits)
next_pair read [] byte long is = absurd (omega arith)
next_pair read (high ∷ []) byte long is = absurd (omega arith)
next_pair read (high ∷ low ∷ digits) byte long is =
    let all : take (length (high ∷ low ∷ digits) - 2) digits ≡ digits = take_all _ digits (omega arith) in
    rw (← is, all) (joined read (byte ∷ []) (pairs_of digits))

-- two digits that are no byte
pub no_pair : (read digits : List ℕ) → 2 ≤ length digits → None ≡ pair_of (get_or digits 0 0) (get_or digits 1 0)
    → None ≡ with_objects read (pairs_of digits)
no_pair read [] long is = absurd (omega arith)
no_pair read (high ∷ []) long is = absurd (omega arith)
no_pair read (high ∷ low ∷ digits) long is = rw (← is)

-- what stands behind bytes that are read
behind : (read bytes : List ℕ) (more : Option (List ℕ))
    → with_objects (read ++ bytes) more ≡ with_objects read (option_and_then (λ others. Some (bytes ++ others)) more)
behind read bytes None = refl
behind read bytes (Some more) = rw append_assoc

by_part : (read new : List ℕ) (bytes more : Option (List ℕ)) → Some new ≡ with_objects read bytes
    → with_objects new more ≡ with_objects read (option_and_then (λ b. option_and_then (λ others. Some (b ++ others)) more) bytes)
by_part read new None more h = absurd (cc)
by_part read new (Some b) more h = let is : new ≡ read ++ b = cc in rw is (behind read b more)

pub next_part : (read new : List ℕ) (ps : Parts) (p : List ℕ) (others : Parts) → Some (p, others) ≡ next ps
    → Some new ≡ with_objects read (pairs_of (without_0x p))
    → with_objects new (bytes_in others) ≡ with_objects read (bytes_in ps)
next_part read new ps p others first is =
    rw (begins ps p others first) (by_part read new (pairs_of (without_0x p)) (bytes_in others) is)

no_more : (read : List ℕ) (bytes more : Option (List ℕ)) → None ≡ with_objects read bytes
    → None ≡ with_objects read (option_and_then (λ b. option_and_then (λ others. Some (b ++ others)) more) bytes)
no_more read None more h = refl
no_more read (Some b) more h = absurd (cc)

pub no_part : (read : List ℕ) (ps : Parts) (p : List ℕ) (others : Parts) → Some (p, others) ≡ next ps
    → None ≡ with_objects read (pairs_of (without_0x p))
    → None ≡ with_objects read (bytes_in ps)
no_part read ps p others first is =
    rw (begins ps p others first) (no_more read (pairs_of (without_0x p)) (bytes_in others) is)
