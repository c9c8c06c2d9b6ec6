use Rattle.std.proofs.Common.{◌≡◌, ◌+◌, ◌*◌, ◌∙◌, Vec, Global, Err, inl, inr, length, refl, sym, ap, subst, arith}
use Rattle.std.proofs.KnownBytes.{Appends-nil, Keeps-refl}
use Rattle.front.specs.Opening.{AreDamaged}
use Rattle.gnocchi_run.proofs.Asked.{performed}
use Rattle.gnocchi_run.proofs.Available.{no_lines, no_messages}
use Rattle.gnocchi_run.proofs.Causes.{HasDiskCause, performs_cause}
use Rattle.gnocchi_run.proofs.Sound.{performs_sound}
use Rattle.gnocchi_run.specs.Doing.{Performs}
use Rattle.gnocchi_run.specs.Task.{sacks_of}
use Rattle.gnocchi_run.specs.declared.task.Task.{Task}
use Rattle.gnocchi_run.specs.declared.task.Task.TheVariants.{Replay, ReplayHttp}
use Rattle.gnocchi_run.proofs.top.run.Given as given
use Rattle.gnocchi_run.proofs.top.run.Goals as goal

-- ---- faulty use

pub returns-in-Err-Usage-clause-usage : goal.returns-in-Err-Usage-clause-usage
returns-in-Err-Usage-clause-usage g c e task is =
    c.task_in.ensures.usage (c.in-Err-Usage.is ∙ ap Err c.in-Err-Usage.field-0-is) (length c.args.disks.now.items) task is

pub returns-in-Err-Usage-clause-does : goal.returns-in-Err-Usage-clause-does
returns-in-Err-Usage-clause-does g c task is = absurd (returns-in-Err-Usage-clause-usage g c refl task is)

pub returns-in-Err-Memory-clause-does : goal.returns-in-Err-Memory-clause-does
returns-in-Err-Memory-clause-does g c task is =
    inr (refl, record { disks = refl; unread = Keeps-refl (g.S.Source.left c.args.source.now); unwritten = Appends-nil (g.K.Sink.taken c.args.sink.now) })

pub returns-then-len-from-clause-usage : goal.returns-then-len-from-clause-usage
returns-then-len-from-clause-usage g c e task is =
    let planned : length c.args.disks.now.items ≡ 2 + 5 * sacks_of c.in-Ok.task = (c.in-Ok.ensures.only (length c.args.disks.now.items) task is).1 in
    absurd (grind (arith, planned, c.len.ensures, c.sacks.ensures, c.from.ensures, c.if-len-from.true))

pub returns-then-len-from-clause-does : goal.returns-then-len-from-clause-does
returns-then-len-from-clause-does g c task is = absurd (returns-then-len-from-clause-usage g c refl task is)

-- ---- the task was done

-- what was done over the disks that were handed in
done : (g : given.Over) (c : goal.After-drop-disks g) (asked : Task) → asked ≡ c.in-Ok.task
    → Performs g.D.Disk asked c.args.disks.now.items c.perform-back.result.0.items (g.S.Source.left c.args.source.now) (g.S.Source.left c.perform-back.new.source) (g.K.Sink.taken c.args.sink.now) (g.K.Sink.taken c.perform-back.new.sink) c.perform-back.result.1
done g c asked same =
    performed g.D.Disk c.in-Ok.task asked c.args.disks.now.items c.replace-given.result.items c.perform-back.result.0.items (g.S.Source.left c.args.source.now) (g.S.Source.left c.perform-back.new.source)
    (g.K.Sink.taken c.args.sink.now) (g.K.Sink.taken c.perform-back.new.sink) c.perform-back.result.1 same (ap (λ (v : Vec g.row.D.Denot Global). v.items) c.replace-given.ensures.value) c.perform-back.ensures.performs

pub returns-clause-does : goal.returns-clause-does
returns-clause-does g c task is = inl (done g c task (c.in-Ok.ensures.only (length c.args.disks.now.items) task is).0)

pub returns-clause-valid : goal.returns-clause-valid
returns-clause-valid g c none =
    let planned : length c.args.disks.now.items ≡ 2 + 5 * sacks_of c.in-Ok.task = grind (arith, c.len.ensures, c.sacks.ensures, c.from.ensures, c.if-len-from.false) in
    absurd (none c.in-Ok.task (c.in-Ok.ensures.ok (length c.args.disks.now.items) planned))

-- ---- why the disks made it end

cause : (g : given.Over) (c : goal.After-drop-disks g) → HasDiskCause g.D.Disk (sacks_of c.in-Ok.task) c.args.disks.now.items c.perform-back.result.0.items c.perform-back.result.1
cause g c =
    performs_cause g.D.Disk c.args.disks.now.items c.perform-back.result.0.items (g.S.Source.left c.args.source.now) (g.S.Source.left c.perform-back.new.source)
    (g.K.Sink.taken c.args.sink.now) (g.K.Sink.taken c.perform-back.new.sink) c.perform-back.result.1 c.in-Ok.task (done g c c.in-Ok.task refl)

pub returns-clause-disk_cause : goal.returns-clause-disk_cause
returns-clause-disk_cause g c = (cause g c).disk

pub returns-clause-damage_cause : goal.returns-clause-damage_cause
returns-clause-damage_cause g c task disk at is told =
    subst (λ (t : Task). AreDamaged g.D.Disk (sacks_of t) c.args.disks.now.items (record { disk = disk; at = at })) (sym (c.in-Ok.ensures.only (length c.args.disks.now.items) task is).0)
    ((cause g c).damage disk at told)

pub returns-clause-exists_cause : goal.returns-clause-exists_cause
returns-clause-exists_cause g c = (cause g c).exists

-- ---- scripts to their end

pub returns-in-Err-Usage-clause-complete : goal.returns-in-Err-Usage-clause-complete
returns-in-Err-Usage-clause-complete g c start sacks input lines is left whole short un = absurd (returns-in-Err-Usage-clause-usage g c refl (Replay start sacks) is)

pub returns-in-Err-Usage-clause-refused : goal.returns-in-Err-Usage-clause-refused
returns-in-Err-Usage-clause-refused g c start sacks input lines is left whole short un = absurd (returns-in-Err-Usage-clause-usage g c refl (Replay start sacks) is)

pub returns-then-len-from-clause-complete : goal.returns-then-len-from-clause-complete
returns-then-len-from-clause-complete g c start sacks input lines is left whole short un = absurd (returns-then-len-from-clause-usage g c refl (Replay start sacks) is)

pub returns-then-len-from-clause-refused : goal.returns-then-len-from-clause-refused
returns-then-len-from-clause-refused g c start sacks input lines is left whole short un = absurd (returns-then-len-from-clause-usage g c refl (Replay start sacks) is)

pub returns-clause-complete : goal.returns-clause-complete
returns-clause-complete g c start sacks input lines is left whole short un =
    c.perform-back.ensures.complete start sacks input lines (sym (c.in-Ok.ensures.only (length c.args.disks.now.items) (Replay start sacks) is).0) left whole short un

pub returns-clause-refused : goal.returns-clause-refused
returns-clause-refused g c start sacks input lines is left whole short un =
    c.perform-back.ensures.refused start sacks input lines (sym (c.in-Ok.ensures.only (length c.args.disks.now.items) (Replay start sacks) is).0) left whole short un

-- ---- where no disk fails

pub returns-in-Err-Usage-clause-available : goal.returns-in-Err-Usage-clause-available
returns-in-Err-Usage-clause-available g c start sacks is ready none = absurd (returns-in-Err-Usage-clause-usage g c refl (Replay start sacks) is)

pub returns-in-Err-Usage-clause-available_http : goal.returns-in-Err-Usage-clause-available_http
returns-in-Err-Usage-clause-available_http g c start sacks is ready none = absurd (returns-in-Err-Usage-clause-usage g c refl (ReplayHttp start sacks) is)

pub returns-in-Err-Memory-clause-available : goal.returns-in-Err-Memory-clause-available
returns-in-Err-Memory-clause-available g c start sacks is ready none =
    no_lines _ _ _ _ (Keeps-refl (g.S.Source.left c.args.source.now)) (Appends-nil (g.K.Sink.taken c.args.sink.now))

pub returns-in-Err-Memory-clause-available_http : goal.returns-in-Err-Memory-clause-available_http
returns-in-Err-Memory-clause-available_http g c start sacks is ready none =
    no_messages _ _ _ _ (Keeps-refl (g.S.Source.left c.args.source.now)) (Appends-nil (g.K.Sink.taken c.args.sink.now))

pub returns-then-len-from-clause-available : goal.returns-then-len-from-clause-available
returns-then-len-from-clause-available g c start sacks is ready none = absurd (returns-then-len-from-clause-usage g c refl (Replay start sacks) is)

pub returns-then-len-from-clause-available_http : goal.returns-then-len-from-clause-available_http
returns-then-len-from-clause-available_http g c start sacks is ready none = absurd (returns-then-len-from-clause-usage g c refl (ReplayHttp start sacks) is)

pub returns-clause-available : goal.returns-clause-available
returns-clause-available g c start sacks is ready none =
    c.working_disks_answer.ensures.script start sacks c.args.disks.now.items c.perform-back.result.0.items (g.S.Source.left c.args.source.now) (g.S.Source.left c.perform-back.new.source)
    (g.K.Sink.taken c.args.sink.now) (g.K.Sink.taken c.perform-back.new.sink) c.perform-back.result.1
    (done g c (Replay start sacks) (c.in-Ok.ensures.only (length c.args.disks.now.items) (Replay start sacks) is).0) ready none

pub returns-clause-available_http : goal.returns-clause-available_http
returns-clause-available_http g c start sacks is ready none =
    c.working_disks_answer.ensures.connection start sacks c.args.disks.now.items c.perform-back.result.0.items (g.S.Source.left c.args.source.now) (g.S.Source.left c.perform-back.new.source)
    (g.K.Sink.taken c.args.sink.now) (g.K.Sink.taken c.perform-back.new.sink) c.perform-back.result.1
    (done g c (ReplayHttp start sacks) (c.in-Ok.ensures.only (length c.args.disks.now.items) (ReplayHttp start sacks) is).0) ready none

-- ---- where no count of faults rises

pub returns-in-Err-Usage-clause-unfaulted : goal.returns-in-Err-Usage-clause-unfaulted
returns-in-Err-Usage-clause-unfaulted g c task is ready none source sink = absurd (returns-in-Err-Usage-clause-usage g c refl task is)

pub returns-then-len-from-clause-unfaulted : goal.returns-then-len-from-clause-unfaulted
returns-then-len-from-clause-unfaulted g c task is ready none source sink = absurd (returns-then-len-from-clause-usage g c refl task is)

pub returns-clause-unfaulted : goal.returns-clause-unfaulted
returns-clause-unfaulted g c task is ready none source sink =
    let sound = performs_sound g.D.Disk c.stores_are_not_damaged.ensures c.args.disks.now.items c.perform-back.result.0.items (g.S.Source.left c.args.source.now) (g.S.Source.left c.perform-back.new.source)
    (g.K.Sink.taken c.args.sink.now) (g.K.Sink.taken c.perform-back.new.sink) c.perform-back.result.1 task ready
    (done g c task (c.in-Ok.ensures.only (length c.args.disks.now.items) task is).0) in
    record {
      read = λ e. source (c.perform-back.ensures.read_cause e);
      write = λ e. sink (c.perform-back.ensures.write_cause e);
      disk = λ e. none ((cause g c).disk e);
      damage = sound.damage;
      exists = sound.exists;
    }
