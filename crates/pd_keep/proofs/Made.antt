-- What is kept of a port's move is the next move of the run.
use Rattle.std.proofs.Common.{◌≡◌, ℕ, ◌-◌, ◌≤◌, ◌<◌, ⊎_elim, inl, inr, List, Option, refl, ap, ◌∙◌, Contains}
use Rattle.pd_objects.specs.declared.query.Answer.{Answer}
use Rattle.pd_port.specs.declared.due.Due.{Due}
use Rattle.pd_port.specs.Port.{PortData}
use Rattle.pd_scenario.specs.Plan.{Plan}
use Rattle.pd_run.specs.Run.{Move}
use Rattle.pd_run.specs.Live.{LiveData, next_move, port_at, port_after, reply_at, moved_port}
use Rattle.pd_port.specs.Meter.{raised}
use Rattle.pd_keep.specs.Charge.{Charges}
use Rattle.pd_keep.specs.Kept.{KeptData, kept_of, move_of, IsOwn}
use Rattle.pd_keep.specs.Rerun.{AreThose}

-- what is kept is the next move
pub kept_is_next : (plan : Plan) (past : List Move) (p : ℕ) (x : PortData) (d : Due) (a : Option Answer) → x ≡ port_after plan past (p - 1)
    → a ≡ (next_move plan past (p - 1) d).answer → move_of (kept_of p x d a) ≡ next_move plan past (p - 1) d
kept_is_next plan past p x d a x_is a_is =
    ap (λ (z : PortData). move_of (kept_of p z d a)) x_is
    ∙ ap (λ (b : Option Answer). move_of (kept_of p (port_after plan past (p - 1)) d b)) a_is

-- and its port's own
pub kept_is_own : (plan : Plan) (past : List Move) (p : ℕ) (x : PortData) (d : Due) (a : Option Answer) → 1 ≤ p
    → x ≡ port_after plan past (p - 1) → IsOwn plan (kept_of p x d a)
kept_is_own plan past p x d a one x_is = record { made = refl; from_one = one; settings = ap (λ (z : PortData). z.settings) x_is }

-- the port that it leaves is the one that the run goes on with
pub kept_is_moved : (live : LiveData) (p q : ℕ) (x : PortData) (d : Due) (a : Option Answer) → x ≡ port_at live p → a ≡ reply_at live p d
    → (kept_of q x d a).after ≡ moved_port live p d
kept_is_moved live p q x d a x_is a_is =
    ap (λ (z : PortData). (kept_of q z d a).after) x_is ∙ ap (λ (b : Option Answer). (kept_of q (port_at live p) d b).after) a_is

-- what a move costs beside those of a time is what it costs beside all
pub charges_those : (all some : List KeptData) (k : KeptData) (from to before after : ℕ) → AreThose all from to some → from ≤ k.due.time
    → k.due.time < to → Charges some k before after → Charges all k before after
charges_those all some k from to before after those ge lt charges =
    let both = those k ge lt in
    ⊎_elim (λ (w : Contains some k × (after ≡ before)). inl (both.1 w.0, w.1))
    (λ (w : (Contains some k → ⊥) × (after ≡ raised before 1)). inr ((λ h. w.0 (both.0 h)), w.1)) charges
