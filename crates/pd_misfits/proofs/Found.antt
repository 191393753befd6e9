-- Each line that is found begins with the name that is sought.
use Rattle.std.proofs.Common.{◌≡◌, ℕ, ◌-◌, Bool, true, ◌==◌, List, [], ◌∷◌, drop, take, refl, sym, inl, inr, Some, None, subst}
use Rattle.std.specs.Prelude.{Option, All, bytes_eq}
use Rattle.std.specs.List.{find, slice_get}
use Rattle.std.proofs.lemmas.Bool.{cases_Bool, and_parts}
use Rattle.std.proofs.lemmas.List.Elements.{All-head, All-tail, All-take, All-drop}
use Rattle.std.proofs.lemmas.Slice.Eq.{bytes_eq-Decides}
use Rattle.pd_misfits.specs.declared.lines.Mark.{Mark}
use Rattle.pd_misfits.specs.Texts.{name_of}
use Rattle.pd_misfits.specs.Marks.{LinesData, AreMarks, IsMark, BeginsWithName, LinesAreRight, name_sought}
use Rattle.pd_misfits.specs.Marks.{is_named, is_key_of, line_in, line_behind, most_keys, starts_of}

-- a mark that passes a test by which its line has a name
found : (text name : List ℕ) (test : Mark → Bool)
    → ((m : Mark) → test m ≡ true → is_named text name m ≡ true) → (ms : List Mark) → All (IsMark text) ms
    → (n : ℕ) → line_in (find test ms) ≡ Some n → BeginsWithName text n name
found text name test named [] all n is = absurd (cc)
found text name test named (m ∷ ms) all n is =
    elim (cases_Bool (test m)) [
      | inl passes ↦
          let here : line_in (Some m) ≡ Some n = rw passes at is in
          let same : m.line ≡ n = cc in
          (m, All-head (IsMark text) m ms all, same, (bytes_eq-Decides (name_of (drop m.at text)) name).0 (named m passes))
      | inr other ↦
          let later : line_in (find test ms) ≡ Some n = rw other at is in
          found text name test named ms (All-tail (IsMark text) m ms all) n later
    ]

sought : (key : List ℕ) → name_sought [] key ≡ key
sought [] = refl
sought (c ∷ cs) = refl

behind : (text : List ℕ) (l : LinesData) (table key : List ℕ) (start : Option ℕ) (n : ℕ) → AreMarks text l
    → line_behind l table key start ≡ Some n → BeginsWithName text n (name_sought table key)
behind text l table key None n right is = absurd (cc)
behind text l table [] (Some start) n right is =
    let some = take 1 (drop (start - 1) l.marks) in
    let all = All-take (IsMark text) 1 (drop (start - 1) l.marks) (All-drop (IsMark text) (start - 1) l.marks right.marks) in
    found text table (is_named text table) (λ m h. h) some all n
    (subst (λ t. line_in (find (is_named t table) some) ≡ Some n) right.text_is is)
behind text l table (c ∷ cs) (Some start) n right is =
    let key = c ∷ cs in
    let some = take most_keys (drop start l.marks) in
    let all = All-take (IsMark text) most_keys (drop start l.marks) (All-drop (IsMark text) start l.marks right.marks) in
    found text key (is_key_of text start key) (λ m h. (and_parts (m.table == start) (is_named text key m) h).1) some all n
    (subst (λ t. line_in (find (is_key_of t start key) some) ≡ Some n) right.text_is is)

pub lines_are_right : LinesAreRight
lines_are_right text l [] number key n right is =
    let some = take most_keys l.tops in
    let all = All-take (IsMark text) most_keys l.tops right.tops in
    subst (λ name. BeginsWithName text n name) (sym (sought key))
    (found text key (is_named text key) (λ m h. h) some all n
    (subst (λ t. line_in (find (is_named t key) some) ≡ Some n) right.text_is is))
lines_are_right text l (b ∷ bs) number key n right is =
    behind text l (b ∷ bs) key (slice_get (starts_of l (b ∷ bs)) (number - 1)) n right is
