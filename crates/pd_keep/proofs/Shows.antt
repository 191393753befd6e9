-- What is kept of moves shows what the moves do, and a span begins with the ports of a run.
use Rattle.std.proofs.Common.{◌≡◌, ℕ, ◌+◌, ◌-◌, ◌≤◌, List, length, map, All, Option, Some, None, option_map}
use Rattle.std.proofs.Common.{slice_get, slice_index_or, get_or, refl, ap, sym, ◌∙◌, subst, arith}
use Rattle.std.proofs.lemmas.Option.{slice_get-map, slice_get_within, slice_get-get_or, same_Some}
use Rattle.pd_port.specs.Port.{PortData}
use Rattle.pd_scenario.specs.Plan.{Plan, IsPlan}
use Rattle.pd_run.specs.Live.{LiveData, StandsAfter}
use Rattle.pd_run.specs.Run.{Move, shown}
use Rattle.pd_run.specs.Start.{no_port}
use Rattle.pd_keep.specs.Kept.{KeptData, RunData, move_of, shown_of, IsOwn}
use Rattle.pd_keep.specs.Spans.{BeginsAfter}

-- what is kept of a move shows what the move does
pub shown_as_moves : (plan : Plan) (kept : List KeptData) (i : ℕ) → All (IsOwn plan) kept
    → option_map shown_of (slice_get kept i) ≡ slice_get (map shown (map move_of kept)) i
shown_as_moves plan kept i own = cases (slice_get kept i) refl ∙ ap (option_map shown) (sym (slice_get-map move_of kept i))
    ∙ sym (slice_get-map shown (map move_of kept) i) where
      cases : (r : Option KeptData) → slice_get kept i ≡ r → option_map shown_of r ≡ option_map shown (option_map move_of r)
      cases None e = refl
      cases (Some k) e =
          let inside = slice_get_within kept i k e in
          let here : get_or kept i k ≡ k = same_Some _ _ (sym (slice_get-get_or kept i k inside) ∙ e) in
          let one : 1 ≤ k.port = subst (λ (y : KeptData). 1 ≤ y.port) here (own i k inside).from_one in
          let port : k.port ≡ k.port - 1 + 1 = omega arith in
          ap (λ (q : ℕ). Some (q, k.entry)) port

-- a span begins with the ports of a run
pub begins_with_live : (n : ℕ) (plan : Plan) (past : List Move) (live : LiveData) (span : RunData) → IsPlan n plan
    → StandsAfter plan past live → span.first ≡ live.ports → BeginsAfter n plan past span
begins_with_live n plan past live span is stands same = record {
  count = ap length same ∙ stands.ports_count ∙ is.settings_count;
  ports = λ p lt. ap (λ (l : List PortData). slice_index_or l p no_port) same
      ∙ stands.ports_are p (let count = is.settings_count in omega (arith, count));
}

-- and with other moves it still begins with them
pub begins_same : (n : ℕ) (plan : Plan) (past : List Move) (span new : RunData) → new.first ≡ span.first → BeginsAfter n plan past span
    → BeginsAfter n plan past new
begins_same n plan past span new same begun = record {
  count = ap length same ∙ begun.count;
  ports = λ p lt. ap (λ (l : List PortData). slice_index_or l p no_port) same ∙ begun.ports p lt;
}
