-- The lines of a log, one after the other.
use Rattle.std.proofs.Common.{◌≡◌, ℕ, ◌+◌, List, [], ◌∷◌, ◌++◌, Some, None, refl, sym, ap, subst, ◌∙◌, append_assoc}
use Rattle.std.proofs.lemmas.List.{append-nil}
use Rattle.std.specs.Prelude.{Option}
use Rattle.std.specs.Str.Lines.{lines}
use Rattle.pd_edit_lines.specs.Words.{next}
use Rattle.pd_log.specs.Answers.{Says}
use Rattle.pd_log.specs.Begun.{BegunData}
use Rattle.pd_log.specs.Objects.{json_text}
use Rattle.pd_log.specs.Times.{log_time}
use Rattle.pd_log.specs.declared.answer.Answer.{Answer}
use Rattle.pd_page.specs.Logs.{TellsLog}

next_some : (ls : List (List ℕ)) (line : List ℕ) (more : List (List ℕ)) → Some (line, more) ≡ next ls → ls ≡ line ∷ more
next_some [] line more e = absurd (cc)
next_some (w ∷ ws) line more e =
    let pair : (line, more) ≡ (w, ws) = cc in sym (ap (λ (p : List ℕ × List (List ℕ)). p.0 ∷ p.1) pair)

next_none : (ls : List (List ℕ)) → None ≡ next ls → ls ≡ []
next_none [] e = refl
next_none (w ∷ ws) e = absurd (cc)

-- What is still to be told makes the whole, whatever it is.
abbrev pub GoesOn : List (List ℕ) → ℕ → Option BegunData → List ℕ → List (List ℕ) → Type 0
GoesOn all number begun text rest = (more : List ℕ) → TellsLog number begun rest more → TellsLog 1 None all (text ++ more)

-- what is told of a line
abbrev pub told : ℕ → Option BegunData → List ℕ → Answer → List ℕ
told number begun line answer = json_text number (log_time begun line) None answer

tells_more : (number : ℕ) (begun behind : Option BegunData) (line : List ℕ) (ls : List (List ℕ)) (answer : Answer) (rest : List ℕ) →
    Says begun line answer behind → TellsLog (number + 1) behind ls rest →
    TellsLog number begun (line ∷ ls) (told number begun line answer ++ rest)
unfolding TellsLog
tells_more number begun behind line ls answer rest says others = (answer, behind, rest, says, refl, others)

tells_none : (number : ℕ) (begun : Option BegunData) → TellsLog number begun [] []
unfolding TellsLog
tells_none number begun = refl

pub line_on : (all : List (List ℕ)) (number : ℕ) (begun behind : Option BegunData) (text text' line rest : List ℕ) (ls : List (List ℕ))
    (answer : Answer) → GoesOn all number begun text (lines rest) → Some (line, ls) ≡ next (lines rest) → Says begun line answer behind →
    text' ≡ text ++ told number begun line answer → GoesOn all (number + 1) behind text' ls
line_on all number begun behind text text' line rest ls answer so_far is says longer more others =
    let whole =
    so_far (told number begun line answer ++ more)
    (subst (λ l. TellsLog number begun l (told number begun line answer ++ more)) (sym (next_some (lines rest) line ls is))
    (tells_more number begun behind line ls answer more says others)) in
    let joined = sym (append_assoc text (told number begun line answer) more) in
    subst (λ t. TellsLog 1 None all t) (joined ∙ ap (λ t. t ++ more) (sym longer)) whole

pub ends : (all : List (List ℕ)) (number : ℕ) (begun : Option BegunData) (text rest : List ℕ) → GoesOn all number begun text (lines rest) →
    None ≡ next (lines rest) → TellsLog 1 None all text
ends all number begun text rest so_far is =
    let last = subst (λ l. TellsLog number begun l []) (sym (next_none (lines rest) is)) (tells_none number begun) in
    subst (λ t. TellsLog 1 None all t) (append-nil text) (so_far [] last)
