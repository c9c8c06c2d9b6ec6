-- Reading fields from left to right. A fault is the place of the first field that is none.
use Rattle.std.specs.Prelude.{◌≡◌, ℕ, zero, suc, ◌+◌, ◌-◌, List, [], ◌∷◌, length, take, drop, slice_get, Option, Some, None, Result, Ok, Err, Bool, true, nat_lt, nat_le, ◌==◌, if◌then◌else◌, ℤ}
use Rattle.std.specs.Int.{Width, byte_len, cast_signed}
use Rattle.byteorder.specs.Endian.{big_number}
use Rattle.gno_codec.specs.declared.fault.ReadFault.{ReadFault}
use Rattle.gno_codec.specs.declared.fault.ReadFault.TheVariants as faults

-- the bytes that are still to read, and the place of the first of them
pub record Unread : Type 0 where
  pub at : ℕ
  pub rest : List ℕ

-- Reading gives a value and what is then still to read, or the place of a fault.
abbrev pub Reading : Type 0 → Type 0
Reading A = Unread → Result (A × Unread) ℕ

-- ---- what readers answer

-- a fault is what reading gives, unless memory ran out
abbrev pub Refuses : {Y : Type 0} → ReadFault → Result Y ℕ → Type 0
Refuses faults.Memory read = Unit {0}
Refuses (faults.Bad at) read = read ≡ Err at

-- what was answered is what reading gives, unless memory ran out
abbrev pub Answers : {Y : Type 0} → Result Y ReadFault → Result Y ℕ → Type 0
Answers (Ok x) read = read ≡ Ok x
Answers (Err fault) read = Refuses fault read

-- what was answered, seen by `view`, is what reading gives, unless memory ran out
abbrev pub AnswersAs : {X Y : Type 0} → (X → Y) → Result X ReadFault → Result Y ℕ → Type 0
AnswersAs view (Ok x) read = read ≡ Ok (view x)
AnswersAs view (Err fault) read = Refuses fault read

-- What a reader answered, seen by `view`, and where it then stands are what reading gives, unless
-- memory ran out.
abbrev pub Gives : {X Y : Type 0} → (X → Y) → Result X ReadFault → Unread → Result (Y × Unread) ℕ → Type 0
Gives view (Ok x) new read = read ≡ Ok (view x, new)
Gives view (Err fault) new read = Refuses fault read

-- ---- one thing after the other

-- what follows a value that was read; a fault stays
abbrev pub on_read : {A B : Type 0} → Result (A × Unread) ℕ → (A → Reading B) → Result (B × Unread) ℕ
on_read (Ok x) others = others x.0 x.1
on_read (Err at) others = Err at

-- one thing, and then what its value asks for
unfoldable pub then_at : {A B : Type 0} → Reading A → (A → Reading B) → Reading B
then_at first others from = on_read (first from) others

infixl 10 ◌>>=◌
abbrev pub ◌>>=◌ : {A B : Type 0} → Reading A → (A → Reading B) → Reading B
◌>>=◌ = then_at

-- nothing more: the value is whole
unfoldable pub done : {A : Type 0} → A → Reading A
done x from = Ok (x, from)

-- the value that there is, else a fault at this place
abbrev pub or_fault : {A : Type 0} → ℕ → Option A → Reading A
or_fault at None from = Err at
or_fault at (Some x) from = Ok (x, from)

-- a field that stands for a value of another kind, where it stands for one
unfoldable pub standing_for : {A B : Type 0} → (A → Option B) → Reading A → Reading B
standing_for value field from = on_read (field from) (λ x. or_fault from.at (value x))

-- a field that passes a test
unfoldable pub tested : {A : Type 0} → (A → Bool) → Reading A → Reading A
tested test field from = on_read (field from) (λ x. or_fault from.at (if test x then Some x else None))

-- ---- fields

-- the first n bytes
unfoldable pub bytes_at : ℕ → Reading (List ℕ)
bytes_at n from =
    if nat_lt (length from.rest) n then Err from.at
    else Ok (take n from.rest, record { at = from.at + n; rest = drop n from.rest })

-- a number of n bytes
unfoldable pub number_at : ℕ → Reading ℕ
number_at n = do
  bytes ← bytes_at n
  done (big_number n bytes)

-- a signed number of this width
unfoldable pub signed_at : Width → Reading ℤ
signed_at width = do
  number ← number_at (byte_len width)
  done (cast_signed width number)

-- a byte 0, or a byte 1 and what there is
unfoldable pub optional_at : {A : Type 0} → Reading A → Reading (Option A)
optional_at field = do
  given ← tested (λ n. nat_le n 1) (number_at 1)
  if given == 0 then done None else then_at field (λ x. done (Some x))

-- ---- several of one kind

-- the last item of a list, where there is one
abbrev pub last_of : {A : Type 0} → List A → Option A
last_of items = slice_get items (length items - 1)

-- a number is above that of the item before, where there is one
abbrev pub is_above : {A : Type 0} → (A → ℕ) → Option A → ℕ → Bool
is_above number None n = true
is_above number (Some x) n = nat_lt (number x) n

-- so many items; what each may be depends on the one before it
unfoldable pub items_at : {A : Type 0} → (Option A → Reading A) → Option A → ℕ → Reading (List A)
items_at item before zero = done []
items_at item before (suc n) = do
  first ← item before
  others ← items_at item (Some first) n
  done (first ∷ others)

-- ---- whole records

-- what the first byte says
unfoldable pub by_kind : {A : Type 0} → (ℕ → Option (Reading A)) → Reading A
by_kind kinds = do
  record_at ← standing_for kinds (number_at 1)
  record_at

-- what was read, where nothing follows
abbrev pub at_end : {A : Type 0} → Result (A × Unread) ℕ → Result A ℕ
at_end (Ok x) = if length x.1.rest == 0 then Ok x.0 else Err x.1.at
at_end (Err at) = Err at

-- What is all of the bytes. A fault is the place of the first field that is cut off or out of its
-- range, or of the first byte behind the whole.
unfoldable pub whole : {A : Type 0} → Reading A → List ℕ → Result A ℕ
whole reading bytes = at_end (reading (record { at = 0; rest = bytes }))
