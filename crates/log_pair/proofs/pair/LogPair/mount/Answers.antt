use Rattle.std.proofs.Common.{◌≡◌, ◌≤◌, ◌∷◌, Bool, true, false, List, ℕ, Option, Some, ap, sym, subst, ◌∙◌, rules}
use Rattle.std.specs.Bool.{⊤}
use Rattle.std.specs.Option.{IfSome}
use Rattle.gate_log.specs.Records.{Holds, HoldsNoList, IsDamaged}
use Rattle.log_pair.specs.Choice.{TwoTold}
use Rattle.log_pair.specs.Header.{log_header}
use Rattle.log_pair.specs.declared.place.Place.{Place}
use Rattle.log_pair.specs.Pair.{Counts, one_of, other_of}
use Rattle.log_pair.proofs.Choices.{counted, pair_exact, damaged_told, never_told}
use Rattle.log_pair.proofs.Mounting.{IfOk-both, IfErr-both, fault_to, came_two, fault_of_other, fault_of_two}
use Rattle.log_pair.proofs.pair.LogPair.mount.Goals as goal

pub returns-then-not-choice-clause-came : goal.returns-then-not-choice-clause-came
returns-then-not-choice-clause-came g c =
    let s = c.in-Ok.choice.on_second in
    let is : s ≡ false = search rules in
    let a = c.choose.new.a in
    let b = c.choose.new.b in
    let m = c.mount_log.ensures in
    IfOk-both c.mount_log.result (λ pair. g.D.Disk.came 1 a (one_of s pair.first pair.second)) (λ pair. other_of s pair.first pair.second ≡ b) _
    (λ pair came other. came_two g.D.Disk g.met.D.Disk.came_then g.met.D.Disk.came_more c.args.a a pair.first c.args.b b pair.second c.choose.ensures.came.0 (subst (λ t. g.D.Disk.came 1 a (one_of t pair.first pair.second)) is came) c.choose.ensures.came.1 (subst (λ t. other_of t pair.first pair.second ≡ b) is other))
    m.came m.other

pub returns-then-not-choice-clause-came_err : goal.returns-then-not-choice-clause-came_err
returns-then-not-choice-clause-came_err g c =
    let a = c.choose.new.a in
    let b = c.choose.new.b in
    let m = c.mount_log.ensures in
    IfErr-both c.mount_log.result (λ e. g.D.Disk.came 1 a e.0) (λ e. e.1 ≡ b) _
    (λ e came other. came_two g.D.Disk g.met.D.Disk.came_then g.met.D.Disk.came_more c.args.a a e.0 c.args.b b e.1 c.choose.ensures.came.0 came c.choose.ensures.came.1 other)
    m.came_err m.other_err

pub returns-then-not-choice-clause-exact : goal.returns-then-not-choice-clause-exact
returns-then-not-choice-clause-exact g c =
    let s = c.in-Ok.choice.on_second in
    let n = c.in-Ok.choice.epoch in
    let place = c.args.place in
    let told = g.D.Disk.told in
    let A = told c.args.a in
    let B = told c.args.b in
    let is : s ≡ false = search rules in
    let one : told c.choose.new.a ≡ one_of s A B = c.choose.ensures.untouched.0.same_bytes ∙ sym (ap (λ t. one_of t A B) is) in
    let other : told c.choose.new.b ≡ other_of s A B = c.choose.ensures.untouched.1.same_bytes ∙ sym (ap (λ t. other_of t A B) is) in
    let T : Option (List (List ℕ)) → Option (List ℕ) → Option (List ℕ) → Type 0 =
    λ records u v. TwoTold u v (λ x _. (rs : List (List ℕ)) → Holds x (log_header place n ∷ rs) → records ≡ Some rs) in
    let m = c.mount_log.ensures in
    IfOk-both c.mount_log.result (λ pair. (pair.place ≡ place) × (pair.epoch ≡ n) × (pair.on_second ≡ s)) (λ pair. T pair.records (told c.choose.new.a) (told c.choose.new.b)) _
    (λ pair same exact. pair_exact place n s A B pair.epoch pair.records same.1 c.in-Ok.ensures.header c.in-Ok.ensures.older
    (subst (T pair.records (one_of s A B)) other (subst (λ u. T pair.records u (told c.choose.new.b)) one exact)))
    m.place m.exact

-- the log that was chosen counts
counts_by : (place : Place) (n epoch : ℕ) (s second : Bool) (A B : Option (List ℕ)) → epoch ≡ n → second ≡ s → TwoTold A B (Counts s place n) → TwoTold A B (Counts second place epoch)
counts_by place n epoch s second A B same same_disk counted =
    subst (λ (m : ℕ). TwoTold A B (Counts second place m)) (sym same) (subst (λ (t : Bool). TwoTold A B (Counts t place n)) (sym same_disk) counted)

pub returns-then-not-choice-clause-counts : goal.returns-then-not-choice-clause-counts
returns-then-not-choice-clause-counts g c =
    let s = c.in-Ok.choice.on_second in
    let n = c.in-Ok.choice.epoch in
    let place = c.args.place in
    let A = g.D.Disk.told c.args.a in
    let B = g.D.Disk.told c.args.b in
    let m = c.mount_log.ensures in
    IfOk-both c.mount_log.result (λ pair. (pair.place ≡ place) × (pair.epoch ≡ n) × (pair.on_second ≡ s)) (λ pair. (pair.place ≡ place) × (pair.epoch ≡ n) × (pair.on_second ≡ s)) _
    (λ pair same _. counts_by place n pair.epoch s pair.on_second A B same.1 same.2 (counted place n s A B c.in-Ok.ensures.header c.in-Ok.ensures.older))
    m.place m.place

pub returns-in-Ok-mount_log-clause-counts : goal.returns-in-Ok-mount_log-clause-counts
returns-in-Ok-mount_log-clause-counts g c =
    let s = c.in-Ok.choice.on_second in
    let n = c.in-Ok.choice.epoch in
    let place = c.args.place in
    let A = g.D.Disk.told c.args.a in
    let B = g.D.Disk.told c.args.b in
    let pair = c.in-Ok-mount_log.pair in
    let m = c.in-Ok-mount_log.ensures in
    counts_by place n pair.epoch s pair.on_second A B m.place.1 m.place.2 (counted place n s A B c.in-Ok.ensures.header c.in-Ok.ensures.older)

pub returns-then-not-choice-clause-cause : goal.returns-then-not-choice-clause-cause
returns-then-not-choice-clause-cause g c =
    let s = c.in-Ok.choice.on_second in
    let n = c.in-Ok.choice.epoch in
    let place = c.args.place in
    let told = g.D.Disk.told in
    let A = told c.args.a in
    let B = told c.args.b in
    let is : s ≡ false = search rules in
    let one : told c.choose.new.a ≡ one_of s A B = c.choose.ensures.untouched.0.same_bytes ∙ sym (ap (λ t. one_of t A B) is) in
    let m = c.mount_log.ensures in
    IfErr-both c.mount_log.result _ (λ e. e.1 ≡ c.choose.new.b) _
    (λ e cause same. fault_to e.2 _ _ _ _
    (λ f was. fault_of_two g.D.Disk g.met.D.Disk.came_then g.met.D.Disk.came_more c.args.a c.args.b e.0 e.1 (g.D.Disk.faults c.choose.new.a) f c.choose.ensures.later.0 (subst (λ d. g.D.Disk.faults c.args.b ≤ g.D.Disk.faults d) (sym same) c.choose.ensures.later.1) was.2 (was.0 ∙ c.both_faults-before.ensures) was.1)
    (λ d was. damaged_told place n s A B d c.in-Ok.ensures.header c.in-Ok.ensures.older was.0 (subst (λ u. IfSome u (λ x. IsDamaged x d.at)) one was.1))
    cause)
    m.cause m.other_err

pub returns-then-not-choice-clause-never_held : goal.returns-then-not-choice-clause-never_held
returns-then-not-choice-clause-never_held g c =
    let s = c.in-Ok.choice.on_second in
    let n = c.in-Ok.choice.epoch in
    let told = g.D.Disk.told in
    let A = told c.args.a in
    let B = told c.args.b in
    let is : s ≡ false = search rules in
    let one : told c.choose.new.a ≡ one_of s A B = c.choose.ensures.untouched.0.same_bytes ∙ sym (ap (λ t. one_of t A B) is) in
    let m = c.mount_log.ensures in
    IfErr-both c.mount_log.result _ (λ e. e.1 ≡ c.choose.new.b) _
    (λ e never same. fault_to e.2 (λ _. ⊤) (λ _. ⊤) _ _ (λ f u. u) (λ d none. never_told c.args.place n s A B c.in-Ok.ensures.header c.in-Ok.ensures.older (subst (λ u. IfSome u HoldsNoList) one none)) never)
    m.never_held m.other_err

pub returns-in-Ok-mount_log-clause-exact : goal.returns-in-Ok-mount_log-clause-exact
returns-in-Ok-mount_log-clause-exact g c =
    let s = c.in-Ok.choice.on_second in
    let n = c.in-Ok.choice.epoch in
    let place = c.args.place in
    let told = g.D.Disk.told in
    let A = told c.args.a in
    let B = told c.args.b in
    let is : s ≡ true = search rules in
    let one : told c.choose.new.b ≡ one_of s A B = c.choose.ensures.untouched.1.same_bytes ∙ sym (ap (λ t. one_of t A B) is) in
    let other : told c.choose.new.a ≡ other_of s A B = c.choose.ensures.untouched.0.same_bytes ∙ sym (ap (λ t. other_of t A B) is) in
    let pair = c.in-Ok-mount_log.pair in
    let m = c.in-Ok-mount_log.ensures in
    let T : Option (List ℕ) → Option (List ℕ) → Type 0 =
    λ u v. TwoTold u v (λ x _. (rs : List (List ℕ)) → Holds x (log_header place n ∷ rs) → pair.records ≡ Some rs) in
    pair_exact place n s A B pair.epoch pair.records m.place.1 c.in-Ok.ensures.header c.in-Ok.ensures.older
    (subst (T (one_of s A B)) other (subst (λ u. T u (told c.choose.new.a)) one m.exact))

pub returns-in-Ok-mount_log-clause-came : goal.returns-in-Ok-mount_log-clause-came
returns-in-Ok-mount_log-clause-came g c =
    let s = c.in-Ok.choice.on_second in
    let is : s ≡ true = search rules in
    let a = c.choose.new.a in
    let b = c.choose.new.b in
    let pair = c.in-Ok-mount_log.pair in
    let m = c.in-Ok-mount_log.ensures in
    let both = came_two g.D.Disk g.met.D.Disk.came_then g.met.D.Disk.came_more c.args.b b pair.second c.args.a a pair.first c.choose.ensures.came.1 (subst (λ t. g.D.Disk.came 1 b (one_of t pair.first pair.second)) is m.came) c.choose.ensures.came.0 (subst (λ t. other_of t pair.first pair.second ≡ a) is m.other) in
    (both.1, both.0)

pub returns-in-Err-mount_log-clause-came_err : goal.returns-in-Err-mount_log-clause-came_err
returns-in-Err-mount_log-clause-came_err g c =
    let a = c.choose.new.a in
    let b = c.choose.new.b in
    let m = c.in-Err-mount_log.ensures in
    let both = came_two g.D.Disk g.met.D.Disk.came_then g.met.D.Disk.came_more c.args.b b c.in-Err-mount_log.b c.args.a a c.in-Err-mount_log.a c.choose.ensures.came.1 m.came_err c.choose.ensures.came.0 m.other_err in
    (both.1, both.0)

pub returns-in-Err-mount_log-clause-cause : goal.returns-in-Err-mount_log-clause-cause
returns-in-Err-mount_log-clause-cause g c =
    let s = c.in-Ok.choice.on_second in
    let n = c.in-Ok.choice.epoch in
    let place = c.args.place in
    let told = g.D.Disk.told in
    let A = told c.args.a in
    let B = told c.args.b in
    let is : s ≡ true = search rules in
    let one : told c.choose.new.b ≡ one_of s A B = c.choose.ensures.untouched.1.same_bytes ∙ sym (ap (λ t. one_of t A B) is) in
    let m = c.in-Err-mount_log.ensures in
    fault_to c.in-Err-mount_log.fault _ _ _ _
    (λ f was. fault_of_other g.D.Disk g.met.D.Disk.came_then g.met.D.Disk.came_more c.args.a c.args.b c.in-Err-mount_log.a c.in-Err-mount_log.b (g.D.Disk.faults c.choose.new.b) f c.choose.ensures.later.1 (subst (λ d. g.D.Disk.faults c.args.a ≤ g.D.Disk.faults d) (sym m.other_err) c.choose.ensures.later.0) was.2 (was.0 ∙ c.both_faults-before.ensures) was.1)
    (λ d was. damaged_told place n s A B d c.in-Ok.ensures.header c.in-Ok.ensures.older was.0 (subst (λ u. IfSome u (λ x. IsDamaged x d.at)) one was.1))
    m.cause

pub returns-in-Err-mount_log-clause-never_held : goal.returns-in-Err-mount_log-clause-never_held
returns-in-Err-mount_log-clause-never_held g c =
    let s = c.in-Ok.choice.on_second in
    let n = c.in-Ok.choice.epoch in
    let told = g.D.Disk.told in
    let A = told c.args.a in
    let B = told c.args.b in
    let is : s ≡ true = search rules in
    let one : told c.choose.new.b ≡ one_of s A B = c.choose.ensures.untouched.1.same_bytes ∙ sym (ap (λ t. one_of t A B) is) in
    let m = c.in-Err-mount_log.ensures in
    fault_to c.in-Err-mount_log.fault (λ _. ⊤) (λ _. ⊤) _ _ (λ f u. u) (λ d none. never_told c.args.place n s A B c.in-Ok.ensures.header c.in-Ok.ensures.older (subst (λ u. IfSome u HoldsNoList) one none)) m.never_held
