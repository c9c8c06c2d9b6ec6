use Rattle.std.proofs.Common.{◌≡◌, ℕ, List, subst, sym}
use Rattle.sack_state.specs.SackView.{SackView}
use Rattle.front.specs.SoloView.{AreSackBooks, SoloView}
use Rattle.front.specs.declared.counts.Counts.{Counts}
use Rattle.front.proofs.solo.Solo.counts.Goals as goal

same_counts : (m p n q : ℕ) → m ≡ n → p ≡ q → (let c : Counts = record { metrics = m; pending = p } in c) ≡ record { metrics = n; pending = q }
same_counts m p n q a b = cc

pub returns : goal.returns
returns g c books lists stands counted =
    let inner = subst (λ (v : SoloView _). AreSackBooks g.D.Disk 0 v.sacks books.sacks) (sym c.self.view_is) stands.sacks in
    let first = subst (λ (sacks : List (SackView _)). AreSackBooks g.D.Disk 0 sacks books.sacks) (sym c.deref.ensures.value) inner in
    let second = subst (λ (sacks : List (SackView _)). AreSackBooks g.D.Disk 0 sacks books.sacks) (sym c.deref-2.ensures.value) inner in
    same_counts c.live_in.result c.waiting_in.result _ _ (c.live_in.ensures books.sacks lists first counted) (c.waiting_in.ensures books.sacks lists second counted)
