-- The guards as the code tells them.
use Rattle.std.specs.Prelude.{Bool, true, Option}
use Rattle.pd_objects.specs.declared.query.Answer.{Answer}
use Rattle.pd_source.specs.declared.kinds.Facts.{Facts}
use Rattle.pd_source.specs.Record.{SourceSettings, SourceRecord}
use Rattle.pd_source.specs.Table.{Guard, Always, LimitKnown, TriesLeft, WasSent, HasContract, CapsLeft, RequestInvalid, Fits, OfferDiffers}
use Rattle.pd_source.specs.Table.{HardResetsLeft, holds}

-- what the code says of each guard
abbrev pub told : Facts → Guard → Bool
told f Always = true
told f LimitKnown = f.limit_known
told f TriesLeft = f.tries_left
told f WasSent = f.was_sent
told f HasContract = f.has_contract
told f CapsLeft = f.caps_left
told f RequestInvalid = f.request_invalid
told f Fits = f.fits
told f OfferDiffers = f.offer_differs
told f HardResetsLeft = f.hard_resets_left

-- what the code is to say
abbrev pub facts_of : SourceSettings → Option Answer → SourceRecord → Facts
facts_of s a r = record {
  limit_known = holds s a r LimitKnown;
  tries_left = holds s a r TriesLeft;
  was_sent = holds s a r WasSent;
  has_contract = holds s a r HasContract;
  caps_left = holds s a r CapsLeft;
  request_invalid = holds s a r RequestInvalid;
  fits = holds s a r Fits;
  offer_differs = holds s a r OfferDiffers;
  hard_resets_left = holds s a r HardResetsLeft;
}
