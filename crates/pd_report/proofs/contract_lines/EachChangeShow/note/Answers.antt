use Rattle.std.proofs.Common.{◌≡◌, ℕ, [], Option, Some, None, refl}
use Rattle.std.specs.Prelude.{IsSome}
use Rattle.pd_port.specs.declared.entry.ContractChange.{ContractChange}
use Rattle.pd_report.specs.ContractLines.{change_text}
use Rattle.pd_report.proofs.contract_lines.EachChangeShow.note.Goals as goal

no_line : (at port : ℕ) (change : Option ContractChange) → ¬ IsSome change → change_text at port change ≡ []
unfolding change_text
no_line at port None h = refl
no_line at port (Some change) h = absurd (h refl)

pub returns : goal.returns
returns c move h = no_line move.1.at move.0 move.1.contract h
