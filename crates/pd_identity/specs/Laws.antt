-- Laws of Discover Identity.
use Rattle.std.specs.Prelude.{◌≡◌, ℕ, ◌<◌, ◌↔◌}
use Rattle.pd_identity.specs.declared.Cable.{Cable}
use Rattle.pd_identity.specs.declared.CablePlug.TheVariants as plug
use Rattle.pd_identity.specs.declared.Rating.{Rating}
use Rattle.pd_identity.specs.declared.Rating.TheVariants as rating
use Rattle.pd_identity.specs.declared.identity.Reply.TheVariants as reply
use Rattle.pd_identity.specs.Identity.{header_of, IsHeader, id_header, IsIdHeader, cable_object_of, current_of, IsPassiveCable}
use Rattle.pd_identity.specs.Identity.{answer_of, reply_of, limit_of, rated}

-- each object has its fields
pub record ObjectsHaveFields : Type 0 where
  pub headers : (t : ℕ) → t < 4 → IsHeader (header_of t) t
  pub id_headers : IsIdHeader id_header
  pub cables : (r : Rating) → IsPassiveCable (cable_object_of r) (current_of r)

-- what a plug answers counts as what the plug does
pub record IsRead (c : Cable) : Type 0 where
  pub ack : c.plug ≡ plug.Ack → reply_of (answer_of c) ≡ reply.Ack
  pub nak : c.plug ≡ plug.Nak → reply_of (answer_of c) ≡ reply.Nak
  pub busy : c.plug ≡ plug.Busy → reply_of (answer_of c) ≡ reply.Busy

abbrev pub AnswersAreRead : Type 0
AnswersAreRead = (c : Cable) → IsRead c

-- an answer gives the limit of 5,000 mA exactly where the plug acknowledges and the cable is for 5 A
abbrev pub LimitsAreOfRatings : Type 0
LimitsAreOfRatings =
    (c : Cable) → (limit_of (answer_of c) ≡ 5000) ↔ ((c.plug ≡ plug.Ack) × (c.rating ≡ rating.FiveAmperes))

-- an answer gives as its limit what the cable is rated at, as far as its plug acknowledges
abbrev pub AnswersTellRatings : Type 0
AnswersTellRatings = (c : Cable) → limit_of (answer_of c) ≡ rated c
