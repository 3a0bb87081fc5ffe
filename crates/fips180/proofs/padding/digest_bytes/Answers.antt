-- The bytes, spelt out.
use Rattle.std.proofs.Common.{◌∙◌}
use Rattle.blocks.proofs.BigEndian.{low_bytes_to_32}
use Rattle.fips180.proofs.Words.{digest_spelt}
use Rattle.fips180.proofs.padding.digest_bytes.Goals as goal

pub returns : goal.returns
returns c = digest_spelt _ _ _ _ _ c.args.h (c.to_be_bytes-a.ensures ∙ low_bytes_to_32 c.args.h.a) (c.to_be_bytes-b.ensures ∙ low_bytes_to_32 c.args.h.b) (c.to_be_bytes-c.ensures ∙ low_bytes_to_32 c.args.h.c) (c.to_be_bytes-d.ensures ∙ low_bytes_to_32 c.args.h.d) (c.to_be_bytes-e.ensures ∙ low_bytes_to_32 c.args.h.e)
