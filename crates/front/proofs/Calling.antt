-- A call on one sack of a front.
use Rattle.std.proofs.Common.{◌≡◌, ℕ, ◌<◌, List, ◌++◌, Some, length, get_or, refl, sym, ap, subst, ◌∙◌}
use Rattle.std.specs.List.{slice_get}
use Rattle.std.specs.Result.{IfErr}
use Rattle.std.specs.Vec.{with_item}
use Rattle.std.specs.declared.result.Result.{Result}
use Rattle.std.proofs.lemmas.List.{length-set}
use Rattle.gno_disk.specs.declared.disk.Disk.{Ghosts}
use Rattle.series_model.specs.declared.metric.MetricId.{MetricId}
use Rattle.sack_history.specs.declared.entry.Counted.{Counted}
use Rattle.sack_history.specs.declared.entry.Entry.{Entry}
use Rattle.sack_history.specs.declared.fault.SackFault.{SackFault}
use Rattle.sack_history.specs.Entries.{all_counted}
use Rattle.front_api.specs.FaultWords.{FaultWords, sack_words}
use Rattle.front_api.specs.Seen.{EntersSack, EntersSackOf, HasRisenIn, LeadsTo, TellsNoDamage, sack_of}
use Rattle.sack_state.specs.Disks.{IsSackFault}
use Rattle.sack_state.specs.SackCalls.{MatchOnDisk}
use Rattle.sack_state.specs.SackView.{IsEarlier, OfBoth, SackView, StandsFor as SackStandsFor}
use Rattle.front.specs.declared.solo.Solo.TheInside.{Inside}
use Rattle.front.specs.Inside.{KeepsSolo, solo_view}
use Rattle.front.specs.SoloView.{StandsForBooks, as_many_books}
use Rattle.front.proofs.Entered.{sack_leads}
use Rattle.front.proofs.Told.{in_place_with, sack_there, told_result, told_risen, told_same, told_sound}

module _ {D : Type 0} (g : Ghosts D) (i : Inside D) (keeps : KeepsSolo i) (k : ℕ) (v w : SackView D) (within : k < length i.sacks.items) (at : v ≡ get_or i.sacks.items k v) (same_place : w.place ≡ v.place) where
  there : slice_get i.sacks.items k ≡ Some v
  there = sack_there i.sacks.items k v within at

  -- the front is kept
  pub keeps_with : KeepsSolo (record i { sacks = with_item i.sacks k w })
  keeps_with = record {
    some = keeps.some;
    few = keeps.few;
    as_many = length-set i.sacks.items k w ∙ keeps.as_many;
    in_place = in_place_with i.made.sacks 0 k i.sacks.items v w keeps.in_place there same_place;
    claims = keeps.claims;
    emptied = keeps.emptied;
    room = keeps.room;
  }

  module _ {T F : Type 0} (words : FaultWords F) (Call : Result T F → List Entry → List Entry → Type 0) (result : Result T F) (same_opening : w.opening ≡ v.opening)
      (stands : (h : List Entry) → SackStandsFor g h v → (own : List Entry) × SackStandsFor g (h ++ own) w × ((counts : List Counted) → IsEarlier g v.place v.opening counts → Call result (all_counted counts ++ h) own))
      (sound : (counts : List Counted) (h : List Entry) → SackStandsFor g h v → IsEarlier g v.place v.opening counts → TellsNoDamage words result) (risen : HasRisenIn words result) where
    -- and the call enters its sack
    pub enters : LeadsTo (StandsForBooks g) (solo_view i) (solo_view (record i { sacks = with_item i.sacks k w })) (EntersSack k words Call result)
    enters = sack_leads g k words Call result (solo_view i) (solo_view (record i { sacks = with_item i.sacks k w })) v w there refl same_place same_opening stands sound risen

    -- which is that of a metric
    pub enters_of : (metric : MetricId) → k ≡ sack_of metric i.made.sacks → LeadsTo (StandsForBooks g) (solo_view i) (solo_view (record i { sacks = with_item i.sacks k w })) (EntersSackOf metric words Call result)
    enters_of metric sack books is =
        let new = enters books is in
        let many = as_many_books g 0 i.sacks.items books.sacks is.sacks ∙ keeps.as_many in
        (new.0, new.1, subst (λ (m : ℕ). EntersSack m words Call result books new.0) (sack ∙ ap (λ m. sack_of metric m) (sym many)) new.2)

  -- where the front tells the sack's refusal with the damage on the disks of the store
  module _ {T : Type 0} (Call : Result T SackFault → List Entry → List Entry → Type 0) (n : ℕ) (r : Result T SackFault) (Q : Type 0) (same_opening : w.opening ≡ v.opening)
      (stands : (h : List Entry) → SackStandsFor g h v → (own : List Entry) × SackStandsFor g (h ++ own) w × ((counts : List Counted) → IsEarlier g v.place v.opening counts → Call r (all_counted counts ++ h) own))
      (sound : (counts : List Counted) (h : List Entry) → SackStandsFor g h v → IsEarlier g v.place v.opening counts → IfErr r (λ e. MatchOnDisk e (λ f. Unit {0}) ⊥))
      (cause : IfErr r (λ e. MatchOnDisk e (λ f. OfBoth v w (λ s t. IsSackFault g s.disks t.disks f)) Q)) where
    does_told : (h : List Entry) → SackStandsFor g h v → (own : List Entry) × SackStandsFor g (h ++ own) w × ((counts : List Counted) → IsEarlier g v.place v.opening counts → Call (told_result n r) (all_counted counts ++ h) own)
    does_told h known =
        let after = stands h known in
        (after.0, after.1, λ counts earlier. subst (λ (q : Result T SackFault). Call q (all_counted counts ++ h) after.0) (sym (told_same n r (sound counts h known earlier))) (after.2 counts earlier))

    pub enters_told : LeadsTo (StandsForBooks g) (solo_view i) (solo_view (record i { sacks = with_item i.sacks k w })) (EntersSack k sack_words Call (told_result n r))
    enters_told = enters sack_words Call (told_result n r) same_opening does_told (λ counts h known earlier. told_sound n r (sound counts h known earlier)) (told_risen g n r v w Q cause)

    pub enters_told_of : (metric : MetricId) → k ≡ sack_of metric i.made.sacks → LeadsTo (StandsForBooks g) (solo_view i) (solo_view (record i { sacks = with_item i.sacks k w })) (EntersSackOf metric sack_words Call (told_result n r))
    enters_told_of = enters_of sack_words Call (told_result n r) same_opening does_told (λ counts h known earlier. told_sound n r (sound counts h known earlier)) (told_risen g n r v w Q cause)
