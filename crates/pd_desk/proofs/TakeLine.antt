-- How a line is taken in, byte by byte.
use Rattle.std.proofs.Common.{◌≡◌, ℕ, ◌+◌, false, eqb, List, [], ◌∷◌, ◌++◌, length, take, get_or, refl, arith, Option}
use Rattle.std.specs.Io.KnownBytes.{Consumes}
use Rattle.std.proofs.KnownBytes.{Consumes-trans}
use Rattle.std.proofs.lemmas.List.{length-append}
use Rattle.pd_bench.specs.Pending.{kept_after}
use Rattle.pd_bench.proofs.PendingLemmas.{IsPending-push}
use Rattle.pd_desk.specs.Taking.{TakingLine}

pub one_byte : (space : List ℕ) (count d : ℕ) → length space ≡ 1 → count ≡ 1 → take count space ≡ get_or space 0 d ∷ []
one_byte [] count d one is = absurd (omega (arith, one))
one_byte (x ∷ []) count d one is = rw is refl
one_byte (x ∷ (y ∷ more)) count d one is = absurd (omega (arith, one))

pub TakingLine-more : (a b c : Option (List ℕ)) (first total : ℕ) (kept : List ℕ) (byte : ℕ) → TakingLine a b first total kept →
    Consumes b c (byte ∷ []) → eqb byte 10 ≡ false → TakingLine a c first (total + 1) (kept_after kept byte)
TakingLine-more a b c first total kept byte so_far consumes other = record {
  raw = so_far.raw ++ byte ∷ [];
  pending = IsPending-push so_far.raw kept byte so_far.pending other;
  consumes = Consumes-trans a b c so_far.raw (byte ∷ []) so_far.consumes consumes;
  counts = omega (arith, length-append so_far.raw (byte ∷ []), so_far.counts);
}
