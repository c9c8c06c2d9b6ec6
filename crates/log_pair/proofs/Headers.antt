-- The header that bytes begin with.
use Rattle.std.proofs.Common.{◌≡◌, ℕ, ◌<◌, ◌≤◌, ◌^◌, List, [], ◌∷◌, ◌++◌, length, drop, slice_index, Option, Some, None, sym, ap, subst, ◌∙◌, arith}
use Rattle.std.specs.Option.{IfSome}
use Rattle.byteorder.specs.Endian.{big_bytes, big_number}
use Rattle.byteorder.specs.Numbers.{big_number-reads_back}
use Rattle.std.proofs.lemmas.List.{length-append}
use Rattle.gate_log.specs.Records.{BeginsWith, HasNoLog, Holds, log_bytes}
use Rattle.gate_log.proofs.Exact.{BeginsWith-one, Holds-first, record_long}
use Rattle.log_pair.specs.declared.header.Header.{Header}
use Rattle.log_pair.specs.declared.place.Place.{Place}
use Rattle.log_pair.specs.Choice.{IsHeaderOf}
use Rattle.log_pair.specs.Header.{FitsHeader, HasHeader, log_header}
use Rattle.log_pair.specs.Inside.{BeginsWithHeader}

-- the fields of a header read back
pub same_header : (bytes : List ℕ) (place : Place) (epoch sack sacks number : ℕ) → FitsHeader place epoch → bytes ≡ log_header place epoch → sack ≡ big_number 2 (drop 6 bytes) → sacks ≡ big_number 2 (drop 8 bytes) → number ≡ big_number 8 (drop 10 bytes)
    → bytes ≡ log_header (record { role = slice_index bytes 5; sack = sack; sacks = sacks }) number
same_header bytes place epoch sack sacks number fits is is_sack is_sacks is_number =
    let role : place.role ≡ slice_index bytes 5 = sym (ap (λ (b : List ℕ). slice_index b 5) is) in
    let one : place.sack ≡ sack = sym (is_sack ∙ ap (λ (b : List ℕ). big_number 2 (drop 6 b)) is ∙ big_number-reads_back 2 place.sack (big_bytes 2 place.sacks ++ big_bytes 8 epoch) (omega (arith, fits.sack))) in
    let two : place.sacks ≡ sacks = sym (is_sacks ∙ ap (λ (b : List ℕ). big_number 2 (drop 8 b)) is ∙ big_number-reads_back 2 place.sacks (big_bytes 8 epoch) (omega (arith, fits.sacks))) in
    let three : epoch ≡ number = sym (is_number ∙ ap (λ (b : List ℕ). big_number 8 (drop 10 b)) is ∙ big_number-reads_back 8 epoch [] (omega (arith, fits.epoch))) in
    is
    ∙ ap (λ r. log_header (record { role = r; sack = place.sack; sacks = place.sacks }) epoch) role
    ∙ ap (λ n. log_header (record { role = slice_index bytes 5; sack = n; sacks = place.sacks }) epoch) one
    ∙ ap (λ n. log_header (record { role = slice_index bytes 5; sack = sack; sacks = n }) epoch) two
    ∙ ap (log_header (record { role = slice_index bytes 5; sack = sack; sacks = sacks })) three

-- a header is short
header_short : (place : Place) (epoch : ℕ) → length (log_header place epoch) < 2 ^ 64
header_short place epoch = omega arith

-- a first record that is the header, or is none
pub found_header : (body bytes : List ℕ) (found : Option Header) → length body < 2 ^ 64 → BeginsWith body bytes → IfSome found (λ h. body ≡ log_header h.place h.epoch) → IfSome found (λ h. FitsHeader h.place h.epoch)
    → ((place : Place) (epoch : ℕ) → FitsHeader place epoch → body ≡ log_header place epoch → found ≡ Some (record { place = place; epoch = epoch })) → IsHeaderOf found bytes
found_header body bytes found short begins is fits only = record {
  is = by found is fits;
  only = λ place epoch has. only place epoch has.fits (BeginsWith-one body (log_header place epoch) bytes short (header_short place epoch) begins has.first);
}
  where
    by : (o : Option Header) → IfSome o (λ h. body ≡ log_header h.place h.epoch) → IfSome o (λ h. FitsHeader h.place h.epoch) → IfSome o (λ h. HasHeader h.place h.epoch bytes)
    by None same fit = tt
    by (Some h) same fit = record { fits = fit; first = subst (λ (b : List ℕ). BeginsWith b bytes) same begins }

-- no log, no header
pub no_header : (bytes : List ℕ) → HasNoLog bytes → IsHeaderOf None bytes
no_header bytes none = record { is = tt; only = λ place epoch has. absurd (none (log_header place epoch) has.first) }

-- records that are held behind a header begin with it
pub begins_with_header : (place : Place) (epoch : ℕ) (records : List (List ℕ)) (bytes : List ℕ) → length bytes ≤ 2 ^ 60 → 1 ≤ length records → HasHeader place epoch bytes → Holds bytes records → BeginsWithHeader place epoch records
begins_with_header place epoch [] bytes short some has held = absurd (omega (arith, some))
begins_with_header place epoch (body ∷ records) bytes short some has held =
    let first : BeginsWith body bytes = Holds-first bytes body records held in
    let rest = first.begins.rest in
    let small : length body < 2 ^ 64 =
    omega (arith, short, ap length first.begins.bytes_are, length-append (log_bytes (body ∷ [])) rest, record_long body []) in
    record {
      rest = records;
      records_are = ap (λ (b : List ℕ). b ∷ records) (BeginsWith-one body (log_header place epoch) bytes small (header_short place epoch) first has.first);
    }

-- a fact of the bytes that a disk tells has another
pub told_as : (told : Option (List ℕ)) (P Q : List ℕ → Type 0) → ((bytes : List ℕ) → P bytes → Q bytes) → IfSome told P → IfSome told Q
told_as None P Q has fact = tt
told_as (Some bytes) P Q has fact = has bytes fact
