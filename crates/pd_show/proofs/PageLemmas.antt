-- Facts on pages.
use Rattle.std.proofs.Common.{◌≡◌, ℕ, ◌-◌, ◌≤◌, List, [], ◌∷◌, ◌++◌, length, take, replicate, refl, sym, ap, ◌∙◌, append_assoc, arith}
use Rattle.std.specs.Prelude.{decimal}
use Rattle.std.proofs.lemmas.List.{append-nil, take-replicate}
use Rattle.pd_show.specs.declared.choice.Form.{Form}
use Rattle.pd_show.specs.Lines.{Line}
use Rattle.pd_show.specs.Pages.{PageData, framed, last_at, line_text, more_text, text_from, told, written}

pub text_from-append : (f : Form) (t : ℕ) (xs ys : List Line)
    → text_from f t (xs ++ ys) ≡ text_from f t xs ++ text_from f (last_at t xs) ys
text_from-append f t [] ys = refl
text_from-append f t (x ∷ xs) ys =
    ap (λ v. line_text f t x ++ v) (text_from-append f x.at xs ys)
    ∙ sym (append_assoc (line_text f t x) (text_from f x.at xs) (text_from f (last_at x.at xs) ys))

pub last_at-append : (t : ℕ) (xs ys : List Line) → last_at t (xs ++ ys) ≡ last_at (last_at t xs) ys
last_at-append t [] ys = refl
last_at-append t (x ∷ xs) ys = last_at-append x.at xs ys

-- a page after no line is what it was
pub written_none : (f : Form) (p : PageData) → written f p [] ≡ p
unfolding written
written_none f p = ap (λ (v : List ℕ). record p { text = v }) (append-nil p.text)

-- a page after one line that says so much
pub written_said : (f : Form) (p q : PageData) (at port : ℕ) (kind said words members : List ℕ)
    → q ≡ record { text = p.text ++ framed f at (at - p.before) port kind said; before = at } → said ≡ told f words members
    → q ≡ written f p (record { at = at; port = port; kind = kind; words = words; members = members } ∷ [])
unfolding written line_text
written_said f p q at port kind said words members e h =
    let page : List ℕ → PageData = λ v. record { text = p.text ++ v; before = at } in
    e ∙ ap (λ v. page (framed f at (at - p.before) port kind v)) h
    ∙ ap page (sym (append-nil (framed f at (at - p.before) port kind (told f words members))))

-- some lines, and then some more
pub written-append : (f : Form) (p : PageData) (xs ys : List Line) → written f p (xs ++ ys) ≡ written f (written f p xs) ys
unfolding written
written-append f p xs ys =
    let page : List ℕ → ℕ → PageData = λ t b. record { text = t; before = b } in
    let more : List ℕ = text_from f (last_at p.before xs) ys in
    ap (λ v. page (p.text ++ v) (last_at p.before (xs ++ ys))) (text_from-append f p.before xs ys)
    ∙ ap (λ v. page v (last_at p.before (xs ++ ys))) (sym (append_assoc p.text (text_from f p.before xs) more))
    ∙ ap (λ b. page ((p.text ++ text_from f p.before xs) ++ more) b) (last_at-append p.before xs ys)

-- the lines of a move, part after part
pub written_parts : (k : Form) (p p1 p2 p3 p4 p5 p6 p7 : PageData) (a b c d e f g : List Line) → p1 ≡ written k p a →
    p2 ≡ written k p1 b → p3 ≡ written k p2 c → p4 ≡ written k p3 d → p5 ≡ written k p4 e → p6 ≡ written k p5 f →
    p7 ≡ written k p6 g → p7 ≡ written k p ((a ++ (b ++ (c ++ (d ++ e)))) ++ (f ++ g))
written_parts k p p1 p2 p3 p4 p5 p6 p7 a b c d e f g h1 h2 h3 h4 h5 h6 h7 =
    rw (h7, h6, h5, h4, h3, h2, h1) (simp written-append)

pub more_pad : (old digits : List ℕ) (pad n : ℕ) → digits ≡ decimal n → pad ≡ 8 - length digits →
    ((old ++ take pad (replicate {A = ℕ} 8 32)) ++ 43 ∷ []) ++ digits ≡ old ++ more_text n
more_pad old digits pad n d e =
    let few : pad ≤ 8 = omega arith in
    let spaces : take pad (replicate {A = ℕ} 8 32) ≡ replicate pad 32 = take-replicate pad 8 32 few in
    append_assoc (old ++ take pad (replicate {A = ℕ} 8 32)) (43 ∷ []) digits
    ∙ append_assoc old (take pad (replicate {A = ℕ} 8 32)) (43 ∷ digits)
    ∙ ap (λ v. old ++ (v ++ 43 ∷ digits)) spaces ∙ rw (e, d) refl

-- texts that are written one after the other
pub joined10 : (t t1 t2 t3 t4 t5 t6 t7 t8 t9 t10 a b c d e f g h i j : List ℕ) → t1 ≡ t ++ a → t2 ≡ t1 ++ b → t3 ≡ t2 ++ c →
    t4 ≡ t3 ++ d → t5 ≡ t4 ++ e → t6 ≡ t5 ++ f → t7 ≡ t6 ++ g → t8 ≡ t7 ++ h → t9 ≡ t8 ++ i → t10 ≡ t9 ++ j →
    t10 ≡ t ++ (a ++ (b ++ (c ++ (d ++ (e ++ (f ++ (g ++ (h ++ (i ++ j)))))))))
joined10 t t1 t2 t3 t4 t5 t6 t7 t8 t9 t10 a b c d e f g h i j e1 e2 e3 e4 e5 e6 e7 e8 e9 e10 =
    rw (e10, e9, e8, e7, e6, e5, e4, e3, e2, e1) (simp append_assoc)
