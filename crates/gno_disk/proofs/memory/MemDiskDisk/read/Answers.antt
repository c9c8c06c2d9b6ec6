use Rattle.std.proofs.Common.{◌≡◌, ℕ, List, take, drop, ap, subst, ◌∙◌, length, inl, refl, arith, rules}
use Rattle.std.proofs.lemmas.Grind.{common_steps}
use Rattle.gno_disk.specs.Memory.{MemView}
use Rattle.gno_disk.specs.Images.{bytes_of}
use Rattle.gno_disk.proofs.ByteLemmas.{read_bytes}
use Rattle.gno_disk.specs.Comings.{Came-read, fine_or}
use Rattle.gno_disk.proofs.memory.MemDiskDisk.read.Goals as goal

pub returns-in_err-answer-clause-made : goal.returns-in_err-answer-clause-made
returns-in_err-answer-clause-made c = search rules

pub returns-in_err-answer-clause-counted : goal.returns-in_err-answer-clause-counted
returns-in_err-answer-clause-counted c = search rules

pub returns-in_err-answer-clause-fuse : goal.returns-in_err-answer-clause-fuse
returns-in_err-answer-clause-fuse c = search rules

pub returns-in_err-answer-clause-later : goal.returns-in_err-answer-clause-later
returns-in_err-answer-clause-later c = search rules

pub returns-in_err-answer-clause-starved : goal.returns-in_err-answer-clause-starved
returns-in_err-answer-clause-starved c = search rules

pub returns-in_err-answer-clause-unlisted : goal.returns-in_err-answer-clause-unlisted
returns-in_err-answer-clause-unlisted c = search rules

pub returns-in_err-answer-clause-came : goal.returns-in_err-answer-clause-came
returns-in_err-answer-clause-came c =
    Came-read _ _ _ (returns-in_err-answer-clause-made c) (returns-in_err-answer-clause-counted c) (returns-in_err-answer-clause-fuse c) (returns-in_err-answer-clause-later c) (returns-in_err-answer-clause-starved c) (fine_or c.from_residual.result _ (returns-in_err-answer-clause-unlisted c))

pub returns-clause-made : goal.returns-clause-made
returns-clause-made c = search rules

pub returns-clause-counted : goal.returns-clause-counted
returns-clause-counted c = search rules

pub returns-clause-fuse : goal.returns-clause-fuse
returns-clause-fuse c = search rules

pub returns-clause-later : goal.returns-clause-later
returns-clause-later c = search rules

pub returns-clause-starved : goal.returns-clause-starved
returns-clause-starved c = search rules

pub returns-clause-came : goal.returns-clause-came
returns-clause-came c =
    Came-read _ _ _ (returns-clause-made c) (returns-clause-counted c) (returns-clause-fuse c) (returns-clause-later c) (returns-clause-starved c) (inl refl)

pub returns-in_err-answer-clause-told : goal.returns-in_err-answer-clause-told
returns-in_err-answer-clause-told c =
    let count = returns-in_err-answer-clause-counted c in read_bytes _ _ count.first _ (returns-in_err-answer-clause-made c)

pub returns-in_err-answer-clause-size : goal.returns-in_err-answer-clause-size
returns-in_err-answer-clause-size c = ap length (returns-in_err-answer-clause-told c)

pub returns-clause-told : goal.returns-clause-told
returns-clause-told c =
    let count = returns-clause-counted c in read_bytes _ _ count.first _ (returns-clause-made c)

pub returns-clause-size : goal.returns-clause-size
returns-clause-size c = ap length (returns-clause-told c)

pub overflow_add-start : goal.overflow_add-start
overflow_add-start c =
    let limit = c.bytes.ensures.limit in
    let requires = c.requires in
    omega (arith, requires, limit, ap length c.note_read-made.ensures.bytes, ap (λ (v : MemView). length (bytes_of v)) c.self.view_is)

pub slice_bounds-copy_from_slice-end : goal.slice_bounds-copy_from_slice-end
slice_bounds-copy_from_slice-end c =
    let requires = c.requires in
    omega (arith, requires, ap length c.bytes.ensures.bytes, ap length c.note_read-made.ensures.bytes, ap (λ (v : MemView). length (bytes_of v)) c.self.view_is)

pub returns-clause-bytes : goal.returns-clause-bytes
returns-clause-bytes c =
    let same = c.bytes.ensures.bytes ∙ c.note_read-made.ensures.bytes ∙ ap bytes_of c.self.view_is in
    subst (λ (b : List ℕ). c.copy_from_slice.new.self ≡ take (length c.args.out.now) (drop c.args.at b)) same (first_of (search rules, grind (arith, common_steps)))
