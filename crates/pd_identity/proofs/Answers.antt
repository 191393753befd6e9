-- What cables answer, and how it is read.
use Rattle.std.proofs.Common.{◌≡◌, ℕ, ◌^◌, ◌<◌, ◌↔◌, refl, arith, lit<}
use Rattle.std.specs.List.{AllByRecursion}
use Rattle.pd_identity.specs.declared.Cable.{Cable}
use Rattle.pd_identity.specs.declared.CablePlug.{CablePlug}
use Rattle.pd_identity.specs.declared.CablePlug.TheVariants as plug
use Rattle.pd_identity.specs.declared.Rating.{Rating}
use Rattle.pd_identity.specs.declared.Rating.TheVariants as rating
use Rattle.pd_identity.specs.Identity.{header_of, IsHeader, id_header, IsIdHeader, cable_object_of, current_of, IsPassiveCable}
use Rattle.pd_identity.specs.Identity.{answer_of, reply_of, limit_of, rated}
use Rattle.pd_identity.specs.Laws.{IsRead}

pub header_fields : (t : ℕ) → t < 4 → IsHeader (header_of t) t
unfolding header_of
header_fields t h = record {
  vendor = omega arith;
  structured = omega arith;
  version = omega arith;
  reserved = omega arith;
  position = omega arith;
  command_type = omega arith;
  reserved_too = omega arith;
  command = omega arith;
}

pub id_header_fields : IsIdHeader id_header
unfolding id_header
id_header_fields = record { data_capable = refl; product_type = refl; others = refl; vendor = refl }

pub cable_fields : (r : Rating) → IsPassiveCable (cable_object_of r) (current_of r)
unfolding cable_object_of
cable_fields rating.ThreeAmperes = record {
  versions = refl;
  plug_type = refl;
  reserved = refl;
  latency = refl;
  others = refl;
  current = refl;
  speed = refl;
}
cable_fields rating.FiveAmperes = record {
  versions = refl;
  plug_type = refl;
  reserved = refl;
  latency = refl;
  others = refl;
  current = refl;
  speed = refl;
}

abbrev cable : CablePlug → Rating → Cable
cable p r = record { plug = p; rating = r }

is_read : (p : CablePlug) (r : Rating) → IsRead (cable p r)
unfolding answer_of reply_of header_of
is_read plug.Absent r = record { ack = λ e. absurd cc; nak = λ e. absurd cc; busy = λ e. absurd cc }
is_read plug.Ack r = record { ack = λ e. refl; nak = λ e. absurd cc; busy = λ e. absurd cc }
is_read plug.Nak r = record { ack = λ e. absurd cc; nak = λ e. refl; busy = λ e. absurd cc }
is_read plug.Busy r = record { ack = λ e. absurd cc; nak = λ e. absurd cc; busy = λ e. refl }
is_read plug.Silent r = record { ack = λ e. absurd cc; nak = λ e. absurd cc; busy = λ e. absurd cc }

pub answers_read : (c : Cable) → IsRead c
answers_read c = is_read c.plug c.rating

abbrev IsRated : CablePlug → Rating → Type 0
IsRated p r = (limit_of (answer_of (cable p r)) ≡ 5000) ↔ ((p ≡ plug.Ack) × (r ≡ rating.FiveAmperes))

-- 3,000 isn't 5,000
not_rated : {A : Type 0} (n : ℕ) → n ≡ 5000 → n ≡ 3000 → A
not_rated n h e = absurd (omega arith)

is_rated : (p : CablePlug) (r : Rating) → IsRated p r
unfolding answer_of limit_of header_of id_header cable_object_of
is_rated plug.Absent r = (λ e. not_rated 3000 e refl, λ e. absurd (let f = e.0 in cc))
is_rated plug.Ack rating.ThreeAmperes = (λ e. not_rated 3000 e refl, λ e. absurd (let f = e.1 in cc))
is_rated plug.Ack rating.FiveAmperes = (λ e. (refl, refl), λ e. refl)
is_rated plug.Nak r = (λ e. not_rated 3000 e refl, λ e. absurd (let f = e.0 in cc))
is_rated plug.Busy r = (λ e. not_rated 3000 e refl, λ e. absurd (let f = e.0 in cc))
is_rated plug.Silent r = (λ e. not_rated 3000 e refl, λ e. absurd (let f = e.0 in cc))

pub limits_rated : (c : Cable) → (limit_of (answer_of c) ≡ 5000) ↔ ((c.plug ≡ plug.Ack) × (c.rating ≡ rating.FiveAmperes))
limits_rated c = is_rated c.plug c.rating

tells : (p : CablePlug) (r : Rating) → limit_of (answer_of (cable p r)) ≡ rated (cable p r)
unfolding answer_of limit_of header_of id_header cable_object_of
tells plug.Absent r = refl
tells plug.Ack rating.ThreeAmperes = refl
tells plug.Ack rating.FiveAmperes = refl
tells plug.Nak r = refl
tells plug.Busy r = refl
tells plug.Silent r = refl

pub limits_told : (c : Cable) → limit_of (answer_of c) ≡ rated c
limits_told c = tells c.plug c.rating

-- what is answered are words of 32 bits
fits : (p : CablePlug) (r : Rating) → AllByRecursion (λ w. w < 2 ^ 32) (answer_of (cable p r))
unfolding answer_of header_of id_header cable_object_of
fits plug.Absent r = tt
fits plug.Ack rating.ThreeAmperes = (lit< tt, (lit< tt, (lit< tt, (lit< tt, (lit< tt, tt)))))
fits plug.Ack rating.FiveAmperes = (lit< tt, (lit< tt, (lit< tt, (lit< tt, (lit< tt, tt)))))
fits plug.Nak r = (lit< tt, tt)
fits plug.Busy r = (lit< tt, tt)
fits plug.Silent r = tt

pub answer_fits : (c : Cable) → AllByRecursion (λ w. w < 2 ^ 32) (answer_of c)
answer_fits c = fits c.plug c.rating
