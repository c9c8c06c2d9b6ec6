-- What is prepared for a job, by its turns, its cut and its points.
use Rattle.std.proofs.Common.{◌≡◌, ℕ, ◌+◌, ◌-◌, ◌*◌, ◌/◌, ◌%◌, ◌<◌, ◌≤◌, List, [], ◌++◌, drop, length, get_or, Option, Some, None, refl, sym, ap, subst, ◌∙◌, arith}
use Rattle.std.specs.List.{Contains, slice_get}
use Rattle.std.proofs.Math.Nat.{zero-mod, mul-mod_left, mul-sub, mul_assoc, mul_comm}
use Rattle.std.proofs.lemmas.Nat.{div-add-mod'}
use Rattle.std.proofs.lemmas.Option.{slice_get-get_or, get_or_from_slice_get, slice_get_within}
use Rattle.gno_num.specs.Floor.{floor_of}
use Rattle.archive_policy.specs.declared.definition.Definition.{Definition}
use Rattle.archive_policy.specs.declared.kind.Kind.{Kind}
use Rattle.archive_policy.specs.Policies.{ArchivePolicy, AreDefinitions, AreKinds, IsDefinition, largest_of}
use Rattle.bound_series.specs.Jobs.{AreNew, IsFromScratch, IsPrepared, JobView, PreparedView, points_for, regrouped}
use Rattle.bound_series.specs.Turn.{earliest}
use Rattle.bound_series.proofs.Preparing.{own_list}
use Rattle.series_model.specs.declared.measure.Measure.{Measure}
use Rattle.series_model.specs.declared.point.Point.{Point}
use Rattle.series_model.specs.Accepted.{latest}
use Rattle.series_model.specs.AcceptedLaws.{accepted_of-append}
use Rattle.series_model.specs.Series.{series_of_measures}
use Rattle.series_model.specs.Tail.{Tail, accepted_after, accepted_under, accepts_from, kept_window, members_of, tail_of}
use Rattle.series_model.proofs.PointLaws.{floor-mono}
use Rattle.series_model.proofs.Rising.{Rises, times}
use Rattle.series_model.proofs.SeriesLaws.{Rises-series}
use Rattle.series_model.proofs.TailLaws.{points_tail}
use Rattle.regroup.specs.Work.{AreTaken, lists_of}
use Rattle.regroup.proofs.Later.{own_floor}
use Rattle.regroup.proofs.Lists.{list_there, lists_count, new_points}

-- ---- the window begins a bucket of each granularity

-- a multiple less a multiple is one
multiple_less : (a b k g : ℕ) → (a * (k * g) - b * (k * g)) % g ≡ 0
multiple_less a b k g =
    let scaled : a * (k * g) - b * (k * g) ≡ (a - b) * k * g =
    ap (λ n. n - b * (k * g)) (mul_comm a (k * g)) ∙ ap (λ n. k * g * a - n) (mul_comm b (k * g)) ∙ sym (mul-sub (k * g) a b)
    ∙ mul_comm (k * g) (a - b) ∙ sym (mul_assoc (a - b) k g) in
    ap (λ n. n % g) scaled ∙ mul-mod_left ((a - b) * k) g

accepts_multiple : (p : ArchivePolicy) (last : Option ℕ) (g : ℕ) → largest_of p.definitions % g ≡ 0 → accepts_from p last % g ≡ 0
accepts_multiple p None g divides = zero-mod g
accepts_multiple p (Some last) g divides =
    let largest = largest_of p.definitions in
    let k = largest / g in
    let parts : k * g ≡ largest = omega (arith, div-add-mod' largest g, divides) in
    subst (λ l. (last / largest * l - p.back_window * l) % g ≡ 0) parts (multiple_less (last / largest) p.back_window k g)

-- a cut that begins a bucket isn't after the bucket of a later time
cut_early : (cut at g : ℕ) → 0 < g → cut % g ≡ 0 → cut ≤ at → cut ≤ floor_of at g
cut_early cut at g positive multiple le = omega (arith, own_floor cut g positive multiple, floor-mono cut at g le)

-- regrouping from what is kept is regrouping from all
regrouped_tail : (kind : Kind) (g cut : ℕ) (accepted : List Measure) (from : Option ℕ) → 0 < g → cut % g ≡ 0 → ((at : ℕ) → from ≡ Some at → cut ≤ at) → regrouped kind g (members_of (tail_of cut accepted)) from ≡ regrouped kind g (series_of_measures accepted) from
regrouped_tail kind g cut accepted None positive multiple late = refl
regrouped_tail kind g cut accepted (Some at) positive multiple late =
    points_tail kind g cut (floor_of at g) (series_of_measures accepted) (cut_early cut at g positive multiple (late at refl)) (Rises-series accepted)

-- ---- the work of a job

module _ (job : JobView) (turned kept : Tail) (points : List (List Point)) (from : Option ℕ) (definitions : AreDefinitions job.policy.definitions) (kinds : AreKinds job.policy.kinds) (rises : Rises (times (members_of turned))) (are : points ≡ lists_of job.policy.kinds (members_of turned) from job.policy.definitions) (turns : (cut : ℕ) (accepted : List Measure) → cut ≤ accepts_from job.policy (latest accepted) → job.base ≡ tail_of cut accepted → AreTaken job.policy cut accepted job.batches turned from) (cuts : (cut : ℕ) (accepted : List Measure) → cut ≤ accepts_from job.policy (latest accepted) → turned ≡ tail_of cut accepted → kept ≡ kept_window job.policy accepted) where
  abbrev work : PreparedView
  work = record { job = job; raw = kept; points = points; from = from }

  abbrev made_of : Definition → Kind → List Point
  made_of d kind = regrouped kind d.granularity (members_of turned) from

  own_points : (i : ℕ) (d : Definition) (kind : Kind) → slice_get job.policy.definitions i ≡ Some d → Contains job.policy.kinds kind → points_for work i kind ≡ made_of d kind
  own_points i d kind is_d among =
      let k = among.0 in
      let is_kind : slice_get job.policy.kinds k ≡ Some kind = slice_get-get_or job.policy.kinds k kind among.1 ∙ ap Some among.2 in
      own_list work i k kind kinds is_kind
      ∙ ap (λ l. get_or l (i * length job.policy.kinds + k) []) are
      ∙ list_there made_of job.policy.kinds job.policy.definitions i k d kind is_d is_kind

  -- each definition has a granularity that divides the largest
  positive : (i : ℕ) (d : Definition) → slice_get job.policy.definitions i ≡ Some d → 0 < d.granularity
  positive i d is =
      let inside = slice_get_within job.policy.definitions i d is in
      let own : IsDefinition d = subst IsDefinition (get_or_from_slice_get job.policy.definitions i d d is) (definitions.each i d inside) in
      omega (arith, own.granularity.shortest)

  divides : (i : ℕ) (d : Definition) → slice_get job.policy.definitions i ≡ Some d → largest_of job.policy.definitions % d.granularity ≡ 0
  divides i d is =
      let inside = slice_get_within job.policy.definitions i d is in
      subst (λ (x : Definition). largest_of job.policy.definitions % x.granularity ≡ 0) (get_or_from_slice_get job.policy.definitions i d d is) (definitions.dividing i d inside)

  scratch : (before : List (List Measure)) → job.base ≡ kept_window job.policy (accepted_under job.policy before) → IsFromScratch work before
  scratch before base =
      let p = job.policy in
      let accepted = accepted_under p before in
      let cut = accepts_from p (latest accepted) in
      let all = accepted_under p (before ++ job.batches) in
      let whole : accepted_after p accepted job.batches ≡ all =
      sym (accepted_of-append (largest_of p.definitions) p.back_window before job.batches) in
      let t = turns cut accepted (omega arith) base in record {
        raw = cuts cut (accepted_after p accepted job.batches) t.window t.kept ∙ ap (kept_window p) whole;
        from = t.least ∙ ap (λ l. earliest (drop (length accepted) l)) whole;
        points = λ i d kind is_d among. own_points i d kind is_d among
            ∙ ap (λ (x : Tail). regrouped kind d.granularity (members_of x) from) (t.kept ∙ ap (tail_of cut) whole)
            ∙ regrouped_tail kind d.granularity cut all from (positive i d is_d) (accepts_multiple p (latest accepted) d.granularity (divides i d is_d)) t.late;
      }

  pub work_prepared : IsPrepared work
  work_prepared = record {
    number = ap length are ∙ lists_count made_of job.policy.kinds job.policy.definitions;
    new = λ i d kind is_d among. subst (AreNew d.granularity from) (sym (own_points i d kind is_d among)) (new_points kind d.granularity (members_of turned) from rises);
    from_scratch = scratch;
  }
