use Rattle.std.proofs.Common.{◌≡◌, ◌≢◌, ℕ, cond, [], Option, Some, None, ⊎_elim, refl, ap, ◌∙◌}
use Rattle.std.specs.Prelude.{IsSome}
use Rattle.std.proofs.lemmas.Bool.{cases_eq, ne_eqb, eq-eqb}
use Rattle.pd_port.specs.declared.entry.Entry.{Entry}
use Rattle.pd_line.specs.declared.notes.Start.{Start}
use Rattle.pd_report.specs.Report.{start_text, line_of}
use Rattle.pd_report.proofs.report.OfPortShow.note.Goals as goal

no_start : (at : ℕ) (start : Option Start) → ¬ IsSome start → start_text at start ≡ []
no_start at None h = refl
no_start at (Some start) h = absurd (h refl)

no_line : (port : ℕ) (move : ℕ × Entry) → ¬ ((move.0 ≡ port) × IsSome move.1.start) → line_of port move ≡ []
unfolding line_of
no_line port move h =
    let line = start_text move.1.at move.1.start in
    ⊎_elim
    (λ (same : move.0 ≡ port).
    ap (λ b. cond b line []) (eq-eqb move.0 port same) ∙ no_start move.1.at move.1.start (λ some. h (same, some)))
    (λ (other : move.0 ≢ port). ap (λ b. cond b line []) (ne_eqb move.0 port other))
    (cases_eq move.0 port)

pub returns : goal.returns
returns c move h = no_line c.args.self.now.port move h
