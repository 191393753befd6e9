-- A disturbed packet reaches nobody, and what starts is on the line.
use Rattle.std.proofs.Common.{◌≡◌, ◌⊎◌, inl, inr, ℕ, ◌+◌, Bool, true, false, if◌then◌else◌, Option, None, refl, ◌∙◌, ap, sym}
use Rattle.pd_header.specs.declared.side.Side.{Side}
use Rattle.pd_objects.specs.declared.query.Answer.{Answer}
use Rattle.pd_packet.specs.Contents.{Contents, IsPacket}
use Rattle.pd_packet.specs.Hearing.{heard, received, shown}
use Rattle.pd_packet.specs.declared.fate.Fate.{Fate}
use Rattle.pd_packet.specs.declared.fate.Fate.TheVariants.{Undisturbed, Lost, Damaged}
use Rattle.pd_packet.proofs.Heard.{lost, disturbed}
use Rattle.pd_setup.specs.Settings.{SettingsData}
use Rattle.pd_line.specs.declared.port_parts.Line.{Line}
use Rattle.pd_line.specs.declared.port_parts.Line.TheVariants.{Idle, Message, GoodCrc, NoAnswer}
use Rattle.pd_line.specs.declared.port_parts.PortParts.{PortParts}
use Rattle.pd_line.specs.declared.port_step.PortStep.{PortStep}
use Rattle.pd_line.specs.Lines.{time_out, rest_of_time_out, receiver, hears, with_line, message_ends, good_crc_ends, goes_up}
use Rattle.pd_line.specs.Lines.{acknowledged, message_heard, line_ends_at, line_ends, line_starts, is_idle, start_on}
use Rattle.pd_line.proofs.StepRelation.{of_any}
use Rattle.pd_line.proofs.RulesKeep.{goes_up_kept}
use Rattle.pd_line.proofs.Busy.{leaves_line, line_starts-busy, line_starts_one, StartsOne}
use Rattle.pd_port.specs.declared.due.Due.{Due}
use Rattle.pd_port.specs.Packets.{IsDisturbed, end_of_line, DisturbedReachNobody, StartsAreOnTheLine}
use Rattle.pd_port.specs.Port.{PortRecord, happens, begun, portstep, whole, record_after, entry_of}
use Rattle.pd_port.proofs.Busy.{happens_one, portstep-busy}

heard_none : (p : Contents) (fate : Fate) → IsPacket p → IsDisturbed fate → heard p fate ≡ None
heard_none p Undisturbed h d = absurd d
heard_none p Lost h d = lost p
heard_none p (Damaged x) h d = disturbed p x h d

if_none : (b : Bool) (o : Option Contents) → o ≡ None → (if b then o else None) ≡ None
if_none true o e = e
if_none false o e = refl

-- a disturbed message leaves the line to the time-out
message_lost : (side : Side) (p : Contents) (fate : Fate) (t : ℕ) (w : PortStep) → heard p fate ≡ None →
    message_ends side p fate t w ≡ with_line (NoAnswer side p (t + time_out)) w
unfolding message_ends
message_lost side p fate t w e =
    ap (λ (o : Option Contents). message_heard side p t o w) (if_none (hears (receiver side p.channel) w) (heard p fate) e)

line_ended : (r : PortParts) (t : ℕ) (given : Option Answer) (line : Line) → r.line ≡ line →
    happens (end_of_line t).what t (begun r given) ≡ line_ends_at line t (with_line Idle (begun r given))
unfolding line_ends
line_ended r t given line e = ap (λ (x : Line). line_ends_at x t (with_line Idle (begun r given))) e

again : (line other : Line) (w : PortStep) → with_line line (with_line other w) ≡ with_line line w
unfolding with_line
again line other w = refl

-- a step that leaves this, with a busy line
ended : (r : PortParts) (t : ℕ) (given : Option Answer) (v : PortStep) → happens (end_of_line t).what t (begun r given) ≡ v →
    is_idle v.port.line ≡ false → portstep r (end_of_line t) given ≡ v
ended r t given v e b = portstep-busy r (end_of_line t) given (ap (λ (w : PortStep). is_idle w.port.line) e ∙ b) ∙ e

no_answer : (side : Side) (p : Contents) (at : ℕ) (w : PortStep) → is_idle (with_line (NoAnswer side p at) w).port.line ≡ false
unfolding with_line
no_answer side p at w = refl

message_step : (r : PortParts) (given : Option Answer) (t end : ℕ) (side : Side) (p : Contents) (fate : Fate) →
    heard p fate ≡ None → r.line ≡ Message side p fate end →
    portstep r (end_of_line t) given ≡ with_line (NoAnswer side p (t + time_out)) (begun r given)
message_step r given t end side p fate none e =
    let line : Line = NoAnswer side p (t + time_out) in
    ended r t given (with_line line (begun r given))
    (line_ended r t given (Message side p fate end) e ∙ message_lost side p fate t (with_line Idle (begun r given)) none
    ∙ again line Idle (begun r given))
    (no_answer side p (t + time_out) (begun r given))

good_crc_lost : (side : Side) (p a : Contents) (fate : Fate) (t : ℕ) (w : PortStep) → heard a fate ≡ None →
    good_crc_ends side p a fate t w ≡ goes_up (receiver side p.channel) p t (with_line (NoAnswer side p (t + rest_of_time_out)) w)
unfolding good_crc_ends
good_crc_lost side p a fate t w e =
    ap (λ (o : Option Contents). goes_up (receiver side p.channel) p t (acknowledged side p t o w)) e

good_crc_step : (r : PortParts) (given : Option Answer) (t end : ℕ) (side : Side) (p a : Contents) (fate : Fate) →
    heard a fate ≡ None → r.line ≡ GoodCrc side p a fate end →
    portstep r (end_of_line t) given
    ≡ goes_up (receiver side p.channel) p t (with_line (NoAnswer side p (t + rest_of_time_out)) (begun r given))
good_crc_step r given t end side p a fate none e =
    let line : Line = NoAnswer side p (t + rest_of_time_out) in
    let hearer = receiver side p.channel in
    let w : PortStep = with_line line (begun r given) in
    let up = goes_up_kept t (leaves_line t) hearer (of_any (Unit {0}) hearer tt) (of_any (Unit {0}) hearer tt) p w in
    ended r t given (goes_up hearer p t w)
    (line_ended r t given (GoodCrc side p a fate end) e ∙ good_crc_lost side p a fate t (with_line Idle (begun r given)) none
    ∙ ap (goes_up hearer p t) (again line Idle (begun r given)))
    (ap is_idle up.line ∙ no_answer side p (t + rest_of_time_out) (begun r given))

of_message : (s : SettingsData) (r : PortRecord) (given : Option Answer) (t : ℕ) (line : Line) →
    portstep (whole s r) (end_of_line t) given ≡ with_line line (begun (whole s r) given) →
    record_after s r (end_of_line t) given ≡ record r { line = line }
unfolding record_after with_line
of_message s r given t line e = rw e refl

pub disturbed_reach_nobody : DisturbedReachNobody
disturbed_reach_nobody =
    record {
      message = λ s r given t end side p fate h d e. of_message s r given t (NoAnswer side p (t + time_out))
          (message_step (whole s r) given t end side p fate (heard_none p fate h d) e);
      good_crc = λ s r given t end side p a fate h d e. good_crc_step (whole s r) given t end side p a fate (heard_none a fate h d) e;
    }

-- what falls due has started nothing, or what is on the line
started_at : (r : PortParts) (d : Due) (given : Option Answer) (v : PortStep) → v ≡ happens d.what d.time (begun r given) →
    StartsOne (begun r given) v →
    ((portstep r d given).start ≡ None) ⊎ ((portstep r d given).start ≡ start_on (portstep r d given).port.line)
unfolding portstep
started_at r d given v e (inr h) = inr (rw (sym e, line_starts-busy d.time v h.busy) h.same)
started_at r d given v e (inl h) = rw (sym e) (at_rest h (line_starts_one d.time v))
  where
    at_rest : v.start ≡ None → StartsOne v (line_starts d.time v) →
        ((line_starts d.time v).start ≡ None) ⊎ ((line_starts d.time v).start ≡ start_on (line_starts d.time v).port.line)
    at_rest n (inl k) = inl (k ∙ n)
    at_rest n (inr k) = inr k.same

of_entry : (s : SettingsData) (r : PortRecord) (d : Due) (given : Option Answer) →
    ((entry_of s r d given).start ≡ None) ⊎ ((entry_of s r d given).start ≡ start_on (record_after s r d given).line)
unfolding entry_of record_after
of_entry s r d given = started_at (whole s r) d given _ refl (happens_one d.what d.time (begun (whole s r) given))

codes_of : (p : Contents) (fate : Fate) → (heard p fate ≡ None) ⊎ (heard p fate ≡ received (shown p fate))
unfolding heard
codes_of p Undisturbed = inr refl
codes_of p Lost = inl refl
codes_of p (Damaged d) = inr refl

pub starts_are_on_the_line : StartsAreOnTheLine
starts_are_on_the_line = record { start = of_entry; codes = codes_of }
