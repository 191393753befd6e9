-- A source that is off stays off until a sink is attached.
use Rattle.std.proofs.Common.{◌≡◌, ℕ, Bool, true, false, Option, refl, ap, ◌∙◌}
use Rattle.pd_objects.specs.declared.query.Answer.{Answer}
use Rattle.pd_identity.specs.declared.identity.Reply.{Reply}
use Rattle.pd_identity.specs.declared.identity.Reply.TheVariants as reply
use Rattle.pd_identity.specs.Identity.{reply_of}
use Rattle.pd_source.specs.declared.kinds.State.{State}
use Rattle.pd_source.specs.declared.kinds.State.TheVariants as state
use Rattle.pd_source.specs.declared.kinds.Heard.{Heard}
use Rattle.pd_source.specs.declared.kinds.Heard.TheVariants as heard
use Rattle.pd_source.specs.declared.kinds.Stimulus.{Stimulus}
use Rattle.pd_source.specs.declared.kinds.Stimulus.TheVariants as stimulus
use Rattle.pd_source.specs.Record.{SourceSettings, SourceRecord}
use Rattle.pd_source.specs.Table.{Row, anything_else, holds, heard_of, heard_reply, row_of, deeds_of_row}
use Rattle.pd_source.specs.Acts.{all_after}
use Rattle.pd_source.specs.Step.{before_row, row_at, stepped}
use Rattle.pd_source.specs.Laws.{is_attach}
use Rattle.pd_source.proofs.Answered.{state-before}

abbrev is_attach_heard : Heard → Bool
is_attach_heard heard.Attach = true
is_attach_heard h = false

replies : (r : Reply) → is_attach_heard (heard_reply r) ≡ false
replies reply.Ack = refl
replies reply.Nak = refl
replies reply.Busy = refl

heard-attach : (x : Stimulus) → is_attach x ≡ false → is_attach_heard (heard_of x) ≡ false
heard-attach stimulus.Attach e = absurd (cc)
heard-attach (stimulus.Identity objects) e = replies (reply_of objects.items)
heard-attach x e = refl

row-off : (s : SourceSettings) (a : Option Answer) (r : SourceRecord) (h : Heard) → is_attach_heard h ≡ false →
    row_of (holds s a r) state.Off h ≡ anything_else
unfolding row_of
row-off s a r heard.Attach e = absurd (cc)
row-off s a r h e = refl

pub off-stepped : (s : SourceSettings) (now : ℕ) (x : Stimulus) (a : Option Answer) (r : SourceRecord) → is_attach x ≡ false →
    r.state ≡ state.Off → (stepped s now x a r).state ≡ state.Off
unfolding stepped
off-stepped s now x a r n e =
    let z = before_row x r in
    let off : z.state ≡ state.Off = state-before x r ∙ e in
    let w : row_at s x a z ≡ anything_else = ap (λ (t : State). row_of (holds s a z) t (heard_of x)) off
    ∙ row-off s a z (heard_of x) (heard-attach x n) in
    ap (λ (w : Row). (all_after s (deeds_of_row (holds s a z) w) now x a z).state) w ∙ off
