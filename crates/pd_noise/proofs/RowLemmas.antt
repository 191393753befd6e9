-- One row behind another, one run behind another, and one piece of text behind another.
use Rattle.std.proofs.Common.{◌≡◌, ℕ, zero, suc, ◌+◌, List, [], ◌∷◌, ◌++◌, length, sym, ap, ◌∙◌, arith, append_assoc, subst}
use Rattle.std.specs.List.{flat_map, range_with_len}
use Rattle.std.proofs.lemmas.List.{append-nil, length-append}
use Rattle.std.proofs.lemmas.List.Concat.{flat_map-append}
use Rattle.pd_scenario.specs.Scenarios.{ScenarioData}
use Rattle.pd_noise.specs.Noisies.{AreNoisy, IsNoisy}
use Rattle.pd_noise.specs.declared.noise.Noise.{Noise}
use Rattle.pd_noise.specs.declared.noisy.Noisy.{Noisy}

range_more : (a n : ℕ) → range_with_len a (suc n) ≡ range_with_len a n ++ (a + n) ∷ []
range_more a zero = ap (λ v. v ∷ []) (let e : a ≡ a + 0 = omega arith in e)
range_more a (suc n) =
    let next : (a + 1) + n ≡ a + suc n = omega arith in
    ap (λ l. a ∷ l) (range_more (a + 1) n ∙ ap (λ k. range_with_len (a + 1) n ++ k ∷ []) next)

rows_more : (f : ℕ → List ℕ) (n : ℕ) → flat_map f (range_with_len 0 (n + 1)) ≡ flat_map f (range_with_len 0 n) ++ f n
rows_more f n =
    let next : n + 1 ≡ suc n = omega arith in
    let same : 0 + n ≡ n = omega arith in
    ap (λ k. flat_map f (range_with_len 0 k)) next
    ∙ ap (flat_map f) (range_more 0 n ∙ ap (λ k. range_with_len 0 n ++ k ∷ []) same)
    ∙ flat_map-append f (range_with_len 0 n) (n ∷ [])
    ∙ ap (λ v. flat_map f (range_with_len 0 n) ++ v) (append-nil (f n))

pub written_more : (f : ℕ → List ℕ) (n : ℕ) (start before after : List ℕ) → before ≡ start ++ flat_map f (range_with_len 0 n)
    → after ≡ before ++ f n → after ≡ start ++ flat_map f (range_with_len 0 (n + 1))
written_more f n start before after e h =
    h ∙ ap (λ l. l ++ f n) e ∙ append_assoc start (flat_map f (range_with_len 0 n)) (f n)
    ∙ ap (λ l. start ++ l) (sym (rows_more f n))

-- one run more
more_from : (c : ScenarioData) (noise : Noise) (run number : ℕ) (xs : List Noisy) (x : Noisy) → number ≡ run + length xs
    → AreNoisy c noise run xs → IsNoisy c noise number x → AreNoisy c noise run (xs ++ x ∷ [])
more_from c noise run number [] x is are one = (subst (λ n. IsNoisy c noise n x) (let e : number ≡ run = omega arith in e) one, tt)
more_from c noise run number (y ∷ xs) x is are one = (are.0, more_from c noise (run + 1) number xs x (omega arith) are.1 one)

pub noisies_more : (c : ScenarioData) (noise : Noise) (run index number : ℕ) (xs ys : List Noisy) (x : Noisy) → number ≡ run + index
    → length xs ≡ index → ys ≡ xs ++ x ∷ [] → AreNoisy c noise run xs → IsNoisy c noise number x → AreNoisy c noise run ys
noisies_more c noise run index number xs ys x is count there are one =
    subst (AreNoisy c noise run) (sym there) (more_from c noise run number xs x (omega arith) are one)

pub one_longer : (xs ys : List Noisy) (x : Noisy) (n : ℕ) → length xs ≡ n → ys ≡ xs ++ x ∷ [] → length ys ≡ n + 1
one_longer xs ys x n count is = ap length is ∙ length-append xs (x ∷ []) ∙ (let e : length xs + 1 ≡ n + 1 = omega arith in e)

-- pieces that are written one behind the other
pub joined_three : (t0 t1 t2 t3 a b c : List ℕ) → t1 ≡ t0 ++ a → t2 ≡ t1 ++ b → t3 ≡ t2 ++ c → t3 ≡ t0 ++ (a ++ (b ++ c))
joined_three t0 t1 t2 t3 a b c h1 h2 h3 = rw (h3, h2, h1) (simp append_assoc)

pub joined_five : (t0 t1 t2 t3 t4 t5 a b c d e : List ℕ) → t1 ≡ t0 ++ a → t2 ≡ t1 ++ b → t3 ≡ t2 ++ c → t4 ≡ t3 ++ d → t5 ≡ t4 ++ e
    → t5 ≡ t0 ++ (a ++ (b ++ (c ++ (d ++ e))))
joined_five t0 t1 t2 t3 t4 t5 a b c d e h1 h2 h3 h4 h5 = rw (h5, h4, h3, h2, h1) (simp append_assoc)
