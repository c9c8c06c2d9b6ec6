use Rattle.std.proofs.Common.{◌≡◌, drop, sym, ◌∙◌, rules}
use Rattle.std.specs.Str.{bytes_eq}
use Rattle.std.proofs.lemmas.Bool.Decides.{not_from_Decides}
use Rattle.std.proofs.lemmas.Slice.Eq.{bytes_eq-Decides}
use Rattle.byteorder.specs.Endian.{big_number}
use Rattle.log_pair.proofs.Headers.{same_header}
use Rattle.log_pair.proofs.header.read_header.Goals as goal

pub returns-else-eq-clause-only : goal.returns-else-eq-clause-only
returns-else-eq-clause-only c place epoch fits is =
    let bytes = c.args.bytes.now in
    let sack : c.read_u16.result ≡ big_number 2 (drop 6 bytes) = search rules in
    let sacks : c.read_u16-2.result ≡ big_number 2 (drop 8 bytes) = search rules in
    let number : c.read_u64-epoch.result ≡ big_number 8 (drop 10 bytes) = search rules in
    let same : bytes ≡ c.as_slice.result.now = same_header bytes place epoch c.read_u16.result c.read_u16-2.result c.read_u64-epoch.result fits is sack sacks number ∙ sym (c.as_slice.ensures ∙ c.header_bytes.ensures.bytes) in
    absurd (not_from_Decides (bytes_eq bytes c.as_slice.result.now) (bytes_eq-Decides bytes c.as_slice.result.now) (sym c.if-eq.ensures) same)
