use Rattle.std.proofs.Common.{◌≡◌, ℕ, ◌^◌, ◌<◌, ◌≤◌, subst, arith}
use Rattle.gno_codec.specs.Reading.{Answers}
use Rattle.gno_codec.specs.BlocksReading.{split_of}
use Rattle.gno_codec.proofs.BlockRecords.{split_field, found_split}
use Rattle.gno_codec.proofs.Steps.{is_read, is_none}
use Rattle.gno_codec.proofs.split.read_split.Goals as goal

some : (a b : ℕ) → a ≡ b → 10 ^ 6 ≤ a → 0 < b
some a b e le = omega (arith, e, le)

pub returns-clause-exact : goal.returns-clause-exact
returns-clause-exact c =
    subst (λ (g : ℕ). Answers c.read_all.result (split_of g c.args.key c.args.bytes.now)) c.nanos.ensures.value c.read_all.ensures

pub returns-clause-key : goal.returns-clause-key
unfolding split_of
returns-clause-key c =
    let given = subst (λ (g : ℕ). Answers c.read_all.result (split_of g c.args.key c.args.bytes.now)) c.nanos.ensures.value c.read_all.ensures in
    (found_split c.args.granularity c.args.key (some _ _ c.nanos.ensures.value c.nanos.ensures.range.shortest) c.args.bytes.now c.read_all.result (λ i. omega (arith, c.type_inv.bytes i)) given).0

pub returns-clause-found : goal.returns-clause-found
unfolding split_of
returns-clause-found c =
    let given = subst (λ (g : ℕ). Answers c.read_all.result (split_of g c.args.key c.args.bytes.now)) c.nanos.ensures.value c.read_all.ensures in
    (found_split c.args.granularity c.args.key (some _ _ c.nanos.ensures.value c.nanos.ensures.range.shortest) c.args.bytes.now c.read_all.result (λ i. omega (arith, c.type_inv.bytes i)) given).1

pub returns-clause-only : goal.returns-clause-only
unfolding split_of
returns-clause-only c = λ split is key e.
    let given = subst (λ (g : ℕ). Answers c.read_all.result (split_of g c.args.key c.args.bytes.now)) c.nanos.ensures.value c.read_all.ensures in
    is_read (split_field c.args.granularity c.args.key (some _ _ c.nanos.ensures.value c.nanos.ensures.range.shortest)) c.args.bytes.now c.read_all.result given split (is, key) e

pub returns-clause-bad : goal.returns-clause-bad
unfolding split_of
returns-clause-bad c = λ at bad split is key e.
    let given = subst (λ (g : ℕ). Answers c.read_all.result (split_of g c.args.key c.args.bytes.now)) c.nanos.ensures.value c.read_all.ensures in
    is_none (split_field c.args.granularity c.args.key (some _ _ c.nanos.ensures.value c.nanos.ensures.range.shortest)) c.args.bytes.now c.read_all.result given at bad split (is, key) e
