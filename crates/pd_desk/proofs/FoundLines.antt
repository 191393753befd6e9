-- Which lines are found among those of a text that were put into a set.
use Rattle.std.proofs.Common.{◌≡◌, ℕ, Bool, true, false, not, ◌||◌, List, [], ◌∷◌, Some, None, refl, sym, ap, ◌∙◌, subst}
use Rattle.std.specs.Prelude.{bytes_eq}
use Rattle.std.specs.Bool.{MatchBool}
use Rattle.std.specs.List.{list_any}
use Rattle.std.specs.List.Sorted.{IsPermutation}
use Rattle.std.proofs.lemmas.List.Sorted.{list_any-IsPermutation}
use Rattle.std.proofs.lemmas.Bool.Decides.{same_from_decides}
use Rattle.std.proofs.lemmas.Slice.Eq.{bytes_eq-Decides}
use Rattle.pd_edit_lines.specs.Words.{next}
use Rattle.pd_desk.specs.Diff.{has_line}

-- a key that is found already changes nothing
same_found : (t : Bool) (line found : List ℕ) (r : Bool) → bytes_eq line found ≡ t → (line ≡ found → r ≡ true) → r ≡ (t || r)
same_found true line found r e there = there ((bytes_eq-Decides line found).0 e)
same_found false line found r e there = refl

-- one more key in a set, whose keys say something each
pub put_in : {K : Type 0} (text : K → List ℕ) (line : List ℕ) (key : K) (old new : List K) (added : Bool)
    → added ≡ not (list_any (λ other. bytes_eq (text key) (text other)) old) → MatchBool added (IsPermutation (key ∷ old) new) (new ≡ old)
    → list_any (λ other. bytes_eq line (text other)) new
    ≡ (bytes_eq line (text key) || list_any (λ other. bytes_eq line (text other)) old)
put_in text line key old new true is moved = sym (list_any-IsPermutation (λ other. bytes_eq line (text other)) (key ∷ old) new moved)
put_in {K} text line key old new false is same =
    let there : list_any (λ other. bytes_eq (text key) (text other)) old ≡ true = was_there _ is in
    let P : List ℕ → Type 0 = λ v. list_any (λ other. bytes_eq v (text other)) old ≡ true in
    ap (list_any (λ other. bytes_eq line (text other))) same
    ∙ same_found (bytes_eq line (text key)) line (text key) (list_any (λ other. bytes_eq line (text other)) old) refl
    (λ e. subst P (sym e) there)
  where
    was_there : (r : Bool) → false ≡ not r → r ≡ true
    was_there true e = refl
    was_there false e = absurd (cc)

-- the next line is looked for first
pub next_line : (ls : List (List ℕ)) (line sought : List ℕ) (more : List (List ℕ)) → Some (line, more) ≡ next ls →
    has_line ls sought ≡ (bytes_eq line sought || has_line more sought)
next_line [] line sought more e = absurd (cc)
next_line (w ∷ ws) line sought more e =
    let pair : (line, more) ≡ (w, ws) = cc in
    by_first (bytes_eq w sought) w ws sought refl
    ∙ sym (ap (λ (p : List ℕ × List (List ℕ)). bytes_eq p.0 sought || has_line p.1 sought) pair)
  where
    by_first : (t : Bool) (w : List ℕ) (ws : List (List ℕ)) (sought : List ℕ) → bytes_eq w sought ≡ t →
        has_line (w ∷ ws) sought ≡ (bytes_eq w sought || has_line ws sought)
    by_first true w ws sought e = rw e refl
    by_first false w ws sought e = rw e refl

no_line : (ls : List (List ℕ)) (sought : List ℕ) → None ≡ next ls → has_line ls sought ≡ false
no_line [] sought e = refl
no_line (w ∷ ws) sought e = absurd (cc)

-- found so far, or still to come
pub found_more : {K : Type 0} (text : K → List ℕ) (sought : List ℕ) (key : K) (old new : List K) (added whole : Bool) (line : List ℕ)
    (ls more : List (List ℕ)) → added ≡ not (list_any (λ other. bytes_eq (text key) (text other)) old)
    → MatchBool added (IsPermutation (key ∷ old) new) (new ≡ old) → text key ≡ line → Some (line, more) ≡ next ls
    → (list_any (λ other. bytes_eq sought (text other)) old || has_line ls sought) ≡ whole
    → (list_any (λ other. bytes_eq sought (text other)) new || has_line more sought) ≡ whole
found_more text sought key old new added whole line ls more is moved key_is next_is so_far =
    ap (λ r. r || has_line more sought) (put_in text sought key old new added is moved)
    ∙ turned (bytes_eq sought (text key)) (list_any (λ other. bytes_eq sought (text other)) old) (has_line more sought)
    ∙ ap (λ r. list_any (λ other. bytes_eq sought (text other)) old || (r || has_line more sought))
    (ap (bytes_eq sought) key_is ∙ eq_turned sought line)
    ∙ ap (λ r. list_any (λ other. bytes_eq sought (text other)) old || r) (sym (next_line ls line sought more next_is)) ∙ so_far
  where
    turned : (a b c : Bool) → ((a || b) || c) ≡ (b || (a || c))
    turned true true c = refl
    turned true false c = refl
    turned false b c = refl

    eq_turned : (a b : List ℕ) → bytes_eq a b ≡ bytes_eq b a
    eq_turned a b =
        let turned_round = bytes_eq-Decides b a in
        same_from_decides {P = a ≡ b} (bytes_eq a b) (bytes_eq b a) (bytes_eq-Decides a b)
        ((λ e. sym (turned_round.0 e)), (λ e. turned_round.1 (sym e)))

-- no line is left
pub found_all : (found : Bool) (ls : List (List ℕ)) (sought : List ℕ) (whole : Bool) → None ≡ next ls
    → (found || has_line ls sought) ≡ whole → found ≡ whole
found_all true ls sought whole none so_far = so_far
found_all false ls sought whole none so_far = sym (no_line ls sought none) ∙ so_far
