-- What a stop at any moment of a call leaves of several disks.
use Rattle.std.specs.Prelude.{◌≡◌, ◌⊎◌, ℕ, ◌≤◌, List, [], ◌∷◌, ◌++◌, map, ⊤}
use Rattle.gno_disk.specs.Disk.{NoMore}
use Rattle.gno_disk.specs.declared.disk.Disk.{Ghosts}

-- A phase of a call: the one in which it works on this disk. Other disks have other phases, so
-- that the disk stands at its entry before the phase, and at its exit after it.
pub record Phase (D : Type 0) : Type 0 where
  pub entry : D
  pub exit : D

abbrev pub phase : {D : Type 0} → D → D → Phase D
phase entry exit = record { entry = entry; exit = exit }

-- The call doesn't write this disk: one that stands at its exit all the time.
abbrev pub still : {D : Type 0} → D → Phase D
still disk = record { entry = disk; exit = disk }

-- the same phases, of which none has begun
abbrev pub not_begun : {D : Type 0} → List (Phase D) → List (Phase D)
not_begun phases = map (λ p. still p.entry) phases

-- the same phases, of which each has ended
abbrev pub all_ended : {D : Type 0} → List (Phase D) → List (Phase D)
all_ended phases = map (λ p. still p.exit) phases

-- one image of each disk, as the disks stood at the call's entry
abbrev pub AtEntry : {D : Type 0} → Ghosts D → List (Phase D) → List (List ℕ) → Type 0
AtEntry g [] [] = ⊤
AtEntry g [] (image ∷ images) = ⊥
AtEntry g (p ∷ phases) [] = ⊥
AtEntry g (p ∷ phases) (image ∷ images) = g.may_leave p.entry image × AtEntry g phases images

-- one image of each disk, as the disks stand at the call's exit
abbrev pub AtExit : {D : Type 0} → Ghosts D → List (Phase D) → List (List ℕ) → Type 0
AtExit g [] [] = ⊤
AtExit g [] (image ∷ images) = ⊥
AtExit g (p ∷ phases) [] = ⊥
AtExit g (p ∷ phases) (image ∷ images) = g.may_leave p.exit image × AtExit g phases images

-- One image of each disk that a stop at some moment of the call might have left, the phases in
-- their order: the moment lies in the first phase, or in a later one.
abbrev pub AtMoment : {D : Type 0} → Ghosts D → List (Phase D) → List (List ℕ) → Type 0
AtMoment g [] images = ⊥
AtMoment g (p ∷ phases) [] = ⊥
AtMoment g (p ∷ phases) (image ∷ images) =
    (g.left_since p.exit (g.moment p.entry) image × AtEntry g phases images)
    ⊎ (g.may_leave p.exit image × AtMoment g phases images)

-- The same in words: a moment lies in one phase. Its disk leaves an image of that moment, each disk
-- with an earlier phase one as it stands at the exit, and each with a later phase one as it stood at
-- the entry.
pub record InOnePhase {D : Type 0} (g : Ghosts D) (phases : List (Phase D)) (images : List (List ℕ)) : Type 0 where
  pub earlier : List (Phase D)
  pub now : Phase D
  pub later : List (Phase D)
  pub past : List (List ℕ)
  pub image : List ℕ
  pub rest : List (List ℕ)
  pub phases_are : phases ≡ earlier ++ now ∷ later
  pub images_are : images ≡ past ++ image ∷ rest
  pub has_ended : AtExit g earlier past
  pub within : g.left_since now.exit (g.moment now.entry) image
  pub waits : AtEntry g later rest

-- the moment of no disk falls
abbrev pub AreLater : {D : Type 0} → Ghosts D → List (Phase D) → Type 0
AreLater g [] = ⊤
AreLater g (p ∷ phases) = (g.moment p.entry ≤ g.moment p.exit) × AreLater g phases

-- Whatever a stop at any moment of the call leaves has P: one image of each disk.
pub record EachMoment {D : Type 0} (g : Ghosts D) (phases : List (Phase D)) (P : List (List ℕ) → Type 0) : Type 0 where
  pub later : AreLater g phases
  pub each : (images : List (List ℕ)) → AtMoment g phases images → P images

-- A call without a write leaves only images that there were at its entry.
pub record IsUnwritten {D : Type 0} (g : Ghosts D) (p : Phase D) : Type 0 where
  pub within : (image : List ℕ) → g.left_since p.exit (g.moment p.entry) image → g.may_leave p.entry image
  pub no_more : NoMore (g.may_leave p.entry) (g.may_leave p.exit)

abbrev pub AreUnwritten : {D : Type 0} → Ghosts D → List (Phase D) → Type 0
AreUnwritten g [] = ⊤
AreUnwritten g (p ∷ phases) = IsUnwritten g p × AreUnwritten g phases

-- the phases of a call that works on one disk of several: the others stand still
abbrev pub alone : {D : Type 0} → List D → Phase D → List D → List (Phase D)
alone before p after = map still before ++ p ∷ map still after

-- One image of each disk that a stop in such a call might have left.
abbrev pub AtMomentAlone : {D : Type 0} → Ghosts D → List D → Phase D → List D → List (List ℕ) → Type 0
AtMomentAlone g before p after [] = ⊥
AtMomentAlone g [] p after (image ∷ images) = g.left_since p.exit (g.moment p.entry) image × AtEntry g (map still after) images
AtMomentAlone g (disk ∷ before) p after (image ∷ images) = g.may_leave disk image × AtMomentAlone g before p after images

-- the first part of each phase, up to the disks as they stood in the middle of the call
abbrev pub until : {D : Type 0} → List (Phase D) → List D → List (Phase D)
until [] mids = []
until (p ∷ phases) [] = p ∷ phases
until (p ∷ phases) (mid ∷ mids) = phase p.entry mid ∷ until phases mids

-- the second part of each phase
abbrev pub since : {D : Type 0} → List (Phase D) → List D → List (Phase D)
since [] mids = []
since (p ∷ phases) [] = p ∷ phases
since (p ∷ phases) (mid ∷ mids) = phase mid p.exit ∷ since phases mids

-- A call mounted its disks, and then what a stop at any moment leaves has P. The disks as they
-- stood when the mounting had ended are the entry of these moments.
pub record Mounts {D : Type 0} (g : Ghosts D) (phases : List (Phase D)) (P : List (List ℕ) → Type 0) : Type 0 where
  pub mids : List D
  pub mounting : AreUnwritten g (until phases mids)
  pub then : EachMoment g (since phases mids) P

-- the same, unless the mounting failed
abbrev pub MountsOrStill : {D : Type 0} → Ghosts D → List (Phase D) → (List (List ℕ) → Type 0) → Type 0
MountsOrStill g phases P = AreUnwritten g phases ⊎ Mounts g phases P

-- What is known of the images of one disk: at the call's entry, in the disk's phase, and at the exit.
pub record Views : Type 1 where
  pub entry : List ℕ → Type 0
  pub within : List ℕ → Type 0
  pub exit : List ℕ → Type 0

-- images of which that is known, at the entry
abbrev pub SeenAtEntry : List Views → List (List ℕ) → Type 0
SeenAtEntry [] [] = ⊤
SeenAtEntry [] (image ∷ images) = ⊥
SeenAtEntry (v ∷ views) [] = ⊥
SeenAtEntry (v ∷ views) (image ∷ images) = v.entry image × SeenAtEntry views images

-- and at a moment of the call
abbrev pub SeenAtMoment : List Views → List (List ℕ) → Type 0
SeenAtMoment [] images = ⊥
SeenAtMoment (v ∷ views) [] = ⊥
SeenAtMoment (v ∷ views) (image ∷ images) = (v.within image × SeenAtEntry views images) ⊎ (v.exit image × SeenAtMoment views images)

-- what is known of a disk is so
pub record IsSeen {D : Type 0} (g : Ghosts D) (p : Phase D) (v : Views) : Type 0 where
  pub later : g.moment p.entry ≤ g.moment p.exit
  pub entry : (image : List ℕ) → g.may_leave p.entry image → v.entry image
  pub within : (image : List ℕ) → g.left_since p.exit (g.moment p.entry) image → v.within image
  pub exit : (image : List ℕ) → g.may_leave p.exit image → v.exit image

abbrev pub AreSeen : {D : Type 0} → Ghosts D → List (Phase D) → List Views → Type 0
AreSeen g [] [] = ⊤
AreSeen g [] (v ∷ views) = ⊥
AreSeen g (p ∷ phases) [] = ⊥
AreSeen g (p ∷ phases) (v ∷ views) = IsSeen g p v × AreSeen g phases views
