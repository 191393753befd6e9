-- The order of ranks, and of moves that stand in it.
use Rattle.std.proofs.Common.{◌≡◌, ◌≢◌, ℕ, ◌+◌, ◌-◌, ◌<◌, ◌≤◌, ⊎_elim, List, length, slice_index_or, Contains}
use Rattle.std.proofs.Common.{ap, sym, subst, arith}
use Rattle.std.proofs.lemmas.Bool.{cases_eq, cases_lt}
use Rattle.pd_keep.specs.declared.rank.Rank.{Rank}
use Rattle.pd_keep.specs.Kept.{KeptData, rank_kept, AreRanked, AreRankedTo, NoneStands}
use Rattle.pd_keep.specs.Ranks.{IsBefore}

-- what stands no later than one that is before another is before that too
pub up_to : (a b c : Rank) → (IsBefore b a → ⊥) → IsBefore b c → IsBefore a c
up_to a b c not then = grind arith

-- nor is one that isn't before another before what that isn't before
never_before : (a b c : Rank) → (IsBefore b a → ⊥) → (IsBefore c b → ⊥) → IsBefore c a → ⊥
never_before a b c ab bc ca = grind arith

-- none is before itself
elsewhere : (a b : Rank) → IsBefore a b → a ≡ b → ⊥
elsewhere a b before same = grind arith

-- of moves in order, where the last of so many is before a rank, all are
pub all_passed : (moves : List KeptData) (n : ℕ) (rank : Rank) → AreRanked moves → n ≤ length moves
    → (1 ≤ n → (k : KeptData) → IsBefore (rank_kept (slice_index_or moves (n - 1) k)) rank)
    → (i : ℕ) (k : KeptData) → i < n → IsBefore (rank_kept (slice_index_or moves i k)) rank
all_passed moves n rank ranked few last i k lt =
    let there = last (omega arith) k in
    ⊎_elim
    (λ (e : i ≡ n - 1). subst (λ j. IsBefore (rank_kept (slice_index_or moves j k)) rank) (sym e) there)
    (λ (e : i ≢ n - 1). up_to (rank_kept (slice_index_or moves i k)) (rank_kept (slice_index_or moves (n - 1) k)) rank
    (ranked i (n - 1) k (omega arith) (omega arith)) there)
    (cases_eq i (n - 1))

-- and so is one more
pub one_passed : (moves : List KeptData) (n : ℕ) (rank : Rank)
    → ((i : ℕ) (k : KeptData) → i < n → IsBefore (rank_kept (slice_index_or moves i k)) rank)
    → ((k : KeptData) → IsBefore (rank_kept (slice_index_or moves n k)) rank)
    → (i : ℕ) (k : KeptData) → i < n + 1 → IsBefore (rank_kept (slice_index_or moves i k)) rank
one_passed moves n rank passed last i k lt =
    ⊎_elim (λ (e : i ≡ n). subst (λ j. IsBefore (rank_kept (slice_index_or moves j k)) rank) (sym e) (last k))
    (λ (e : i ≢ n). passed i k (omega arith))
    (cases_eq i n)

-- none of those before a rank stands just there
pub none_stands : (moves : List KeptData) (n : ℕ) (rank : Rank)
    → ((i : ℕ) (k : KeptData) → i < n → IsBefore (rank_kept (slice_index_or moves i k)) rank) → NoneStands rank moves n
none_stands moves n rank passed = λ i k lt same. elsewhere (rank_kept (slice_index_or moves i k)) rank (passed i k lt) same

-- one more move that isn't before the last one
pub ranked_more : (moves : List KeptData) (n : ℕ) → AreRankedTo moves n
    → ((k : KeptData) → IsBefore (rank_kept (slice_index_or moves n k)) (rank_kept (slice_index_or moves (n - 1) k)) → ⊥)
    → AreRankedTo moves (n + 1)
ranked_more moves n ranked last i j k lt few =
    ⊎_elim
    (λ (e : j ≡ n).
    subst (λ m. IsBefore (rank_kept (slice_index_or moves m k)) (rank_kept (slice_index_or moves i k)) → ⊥) (sym e)
    (⊎_elim
    (λ (f : i ≡ n - 1). subst (λ m. IsBefore (rank_kept (slice_index_or moves n k)) (rank_kept (slice_index_or moves m k)) → ⊥) (sym f)
    (last k))
    (λ (f : i ≢ n - 1). never_before (rank_kept (slice_index_or moves i k)) (rank_kept (slice_index_or moves (n - 1) k))
    (rank_kept (slice_index_or moves n k)) (ranked i (n - 1) k (omega arith) (omega arith)) (last k))
    (cases_eq i (n - 1))))
    (λ (e : j ≢ n). ranked i j k lt (omega arith))
    (cases_eq j n)

-- a move isn't among moves of which those before a place are others, and the one there stands after it
pub none_there : (moves : List KeptData) (i : ℕ) (k : KeptData) → AreRanked moves → i < length moves
    → IsBefore (rank_kept k) (rank_kept (slice_index_or moves i k)) → ((j : ℕ) → j < i → slice_index_or moves j k ≢ k)
    → Contains moves k → ⊥
none_there moves i k ranked lt after others (j, few, is) =
    let stands : IsBefore (rank_kept (slice_index_or moves j k)) (rank_kept (slice_index_or moves i k)) =
    subst (λ m. IsBefore (rank_kept m) (rank_kept (slice_index_or moves i k))) (sym is) after in
    ⊎_elim (λ (h : j < i). others j h is)
    (λ (h : i ≤ j).
    ⊎_elim
    (λ (e : i ≡ j). elsewhere (rank_kept (slice_index_or moves j k)) (rank_kept (slice_index_or moves i k)) stands
    (ap (λ m. rank_kept (slice_index_or moves m k)) (sym e)))
    (λ (e : i ≢ j). ranked i j k (omega arith) few stands)
    (cases_eq i j))
    (cases_lt j i)
