-- The header of a message tells the number of its objects, and its ID.
use Rattle.std.proofs.Common.{◌≡◌, ℕ, ◌^◌, ◌<◌}
use Rattle.pd_symbols.specs.declared.channel.Channel.{Channel}
use Rattle.pd_header.specs.declared.side.Side.{Side}
use Rattle.pd_header.specs.Header.{count_of, id_of}
use Rattle.pd_header.proofs.Words.{count_packed, id_packed}
use Rattle.pd_protocol.specs.Messages.{header_of, header_data}

pub count_is : (side : Side) (channel : Channel) (revision id kind count : ℕ) → revision < 2 ^ 2 → id < 2 ^ 3 → kind < 2 ^ 5 → count < 2 ^ 3
    → count_of (header_of side channel revision id kind count) ≡ count
unfolding header_of
count_is side channel revision id kind count r i k n =
    count_packed (header_data side channel revision id kind count) (record {
      count_fits = n;
      id_fits = i;
      revision_fits = r;
      kind_fits = k;
    })

pub id_is : (side : Side) (channel : Channel) (revision id kind count : ℕ) → revision < 2 ^ 2 → id < 2 ^ 3 → kind < 2 ^ 5 → count < 2 ^ 3
    → id_of (header_of side channel revision id kind count) ≡ id
unfolding header_of
id_is side channel revision id kind count r i k n =
    id_packed (header_data side channel revision id kind count) (record { count_fits = n; id_fits = i; revision_fits = r; kind_fits = k })
