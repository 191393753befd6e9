-- The table's entries are what eight places of the division leave of each byte.
use Rattle.std.proofs.Common.{◌≡◌, ℕ, Bool, true, false, List, [], ◌++◌, length, refl, sym, ap, ◌∙◌, arith}
use Rattle.std.specs.Prelude.{fold, replicate}
use Rattle.std.specs.Int.Bits.{xor_zero_l}
use Rattle.pd_symbols.specs.Words.{bits}
use Rattle.pd_symbols.proofs.WordLemmas.{length-bits}
use Rattle.pd_packet.specs.declared.check.TheConstants.{TABLE}
use Rattle.pd_packet.specs.Check.{added, divided}
use Rattle.pd_packet.specs.Register.{step}
use Rattle.pd_packet.specs.Laws.{EntriesAreDivided}
use Rattle.pd_packet.proofs.Division.{divided-register}
use Rattle.pd_packet.proofs.ByteTable.{added-zeros_after, byte_first, entry, feed_in, run_is, runs_from}

pub right : runs_from 0 TABLE ≡ true
right = refl

pub long : length TABLE ≡ 256
long = refl

zeros : bits 32 0 ≡ replicate 32 false
unfolding bits
zeros = refl

without : (p : List Bool) → added (bits 32 0) p ≡ p
unfolding added
without p = ap (λ (z : List Bool). added z p) zeros ∙ added-zeros_after 32 [] p

pub entries_are_divided : EntriesAreDivided
entries_are_divided b lt =
    let few : length (bits 8 b) ≡ 8 = length-bits 8 b in
    ap (λ (n : ℕ). bits 32 n) (entry TABLE b right (omega (arith, long)))
    ∙ run_is 8 b (omega arith)
    ∙ ap (λ (n : ℕ). fold step (bits 32 n) (replicate 8 false)) (sym (xor_zero_l b))
    ∙ ap (λ (r : List Bool). fold step r (replicate 8 false)) (sym (byte_first 0 b lt))
    ∙ ap (λ (n : ℕ). fold step (added (bits 8 b) (bits 32 0)) (replicate n false)) (sym few)
    ∙ sym (feed_in (bits 8 b) (bits 32 0) (omega (arith, few, length-bits 32 0)))
    ∙ sym (divided-register (bits 8 b) (bits 32 0) (length-bits 32 0))
    ∙ ap (λ (p : List Bool). divided (length (bits 8 b)) p) (without (bits 8 b ++ replicate 32 false))
    ∙ ap (λ (n : ℕ). divided n (bits 8 b ++ replicate 32 false)) few
