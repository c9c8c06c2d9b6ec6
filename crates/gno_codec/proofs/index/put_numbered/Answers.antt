use Rattle.byteorder.specs.Endian.{big_bytes}
use Rattle.gno_codec.proofs.Writes.{two_fields}
use Rattle.gno_codec.proofs.index.put_numbered.Goals as goal

pub returns-clause-bytes : goal.returns-clause-bytes
returns-clause-bytes c =
    two_fields _ _ _ (big_bytes 1 c.args.kind) (big_bytes 16 c.args.id) c.in_ok-put_u8.ensures.ok c.in_ok-put_u128.ensures.ok
