-- What a caller chooses, from numbers.
use Rattle.std.specs.Prelude.{ℕ, ◌-◌, ◌^◌, ◌==◌, Bool, true, false, if◌then◌else◌, Option, Some, None}
use Rattle.pd_chart.specs.declared.look.Look.{Look}
use Rattle.pd_show.specs.declared.choice.Choice.{Choice}
use Rattle.pd_show.specs.declared.choice.Form.TheVariants.{Json}
use Rattle.pd_sweep.specs.declared.choice.Campaign.{Campaign}
use Rattle.pd_sweep.specs.declared.choice.Choice.{Choice as Packets}
use Rattle.pd_sweep.specs.declared.choice.Loss.{Loss}
use Rattle.pd_sweep.specs.declared.choice.Loss.TheVariants.{Damaged, Lost}
use Rattle.pd_sweep.specs.declared.form.Form.TheVariants as sweep_form
use Rattle.pd_sweep.specs.declared.form.Look.{Look as Telling}
use Rattle.pd_sweep.specs.declared.part.Part.{Part}
use Rattle.pd_why.specs.declared.question.Question.{Question}

-- 0 stands for all ports
abbrev pub port_of : ℕ → Option ℕ
port_of number = if number == 0 then None else Some number

abbrev pub look_of : ℕ → ℕ → ℕ → ℕ → Look
look_of from to width port = record { from = from; to = to; width = width; port = port_of port; holds = false }

abbrev pub choice_of : ℕ → ℕ → ℕ → Bool → Bool → Choice
choice_of port from to good_crc codes =
    record { port = port_of port; from = from; to = to; good_crc = good_crc; codes = codes; form = Json }

-- each offer up to a time, or the last one alone
abbrev pub until : Bool → ℕ → Option ℕ
until true to = Some to
until false to = None

abbrev pub question_of : ℕ → Bool → ℕ → Question
question_of port each to = record { port = port; to = until each to }

-- packets of each kind
abbrev pub packets_of : ℕ → ℕ → ℕ → Packets
packets_of port from to = record { port = port_of port; from = from; to = to; kind = None }

abbrev pub loss_of : Bool → Loss
loss_of true = Damaged
loss_of false = Lost

abbrev pub campaign_of : Packets → Bool → ℕ → Campaign
campaign_of packets damaged behind = record {
  choice = packets;
  loss = loss_of damaged;
  behind = behind;
  any = 1;
  most = 2 ^ 64 - 1;
  reserve = None;
}

abbrev pub part_of : ℕ → ℕ → Part
part_of first count = record { first = first; count = count }

-- an object for each packet that is tried
abbrev pub each_packet : Telling
each_packet = record { form = sweep_form.Json; changed = false; by_message = false }
