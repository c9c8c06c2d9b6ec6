-- What is seen later begins with what was seen.
use Rattle.std.proofs.Common.{◌≡◌, ℕ, zero, suc, List, [], ◌∷◌, ◌++◌, Some, refl, sym, ap, subst, ◌∙◌, append-nil, append_assoc}
use Rattle.std.specs.List.{slice_get, slice_set}
use Rattle.std.specs.declared.result.Result.{Result}
use Rattle.std.proofs.lemmas.Option.{none-some, same_Some}
use Rattle.sack_history.specs.declared.entry.Entry.{Entry}
use Rattle.sack_history.specs.declared.fault.SackFault.{SackFault}
use Rattle.front_api.specs.FaultWords.{FaultWords}
use Rattle.front_api.specs.Front.{AddsMetric, Controls, DrainsFrom, DropsMetric, added, all, asked, dropped_again, left, not_begun, not_created, one, refused, starved}
use Rattle.front_api.specs.Maps.{Maps}
use Rattle.front_api.specs.Seen.{Enters, EntersIndex, EntersSack, SackBook, SeenBook, SeenBooks, marked}
use Rattle.front_api.specs.SeenLaws.{BookGoesOn, BooksGoOn, EachGoesOn}
use Rattle.front_api.specs.declared.command.Command.{Command}
use Rattle.front_api.specs.declared.command.Command.TheVariants as commands
use Rattle.front_api.specs.declared.command.Reply.{Reply}
use Rattle.front_api.specs.declared.fault.ControlFault.{ControlFault}
use Rattle.front_api.specs.declared.history.IndexEntry.{IndexEntry}

-- ---- of one book

pub entered_goes_on : {O E : Type 0} (Says : List E → List E → Type 0) (old new : SeenBook O E) → Enters Says old new → BookGoesOn old new
entered_goes_on Says old new e = record {
  origin = ap (λ b. b.origin) e.adds.new_is;
  failed = ap (λ b. b.failed) e.adds.new_is;
  is_shared = ap (λ b. b.is_shared) e.adds.new_is;
  caller = ap (λ b. b.caller) e.adds.new_is;
  more = e.others ++ marked old.caller e.own;
  seen = ap (λ b. b.seen) e.adds.new_is ∙ append_assoc old.seen e.others (marked old.caller e.own);
}

pub stays : {O E : Type 0} (book : SeenBook O E) → BookGoesOn book book
stays book = record { origin = refl; failed = refl; is_shared = refl; caller = refl; more = []; seen = sym (append-nil book.seen) }

pub goes_further : {O E : Type 0} (old mid new : SeenBook O E) → BookGoesOn old mid → BookGoesOn mid new → BookGoesOn old new
goes_further old mid new a b = record {
  origin = b.origin ∙ a.origin;
  failed = b.failed ∙ a.failed;
  is_shared = b.is_shared ∙ a.is_shared;
  caller = b.caller ∙ a.caller;
  more = a.more ++ b.more;
  seen = b.seen ∙ ap (λ l. l ++ b.more) a.seen ∙ append_assoc old.seen a.more b.more;
}

-- ---- of each sack

pub each_stays : (books : List SackBook) → EachGoesOn books books
each_stays [] = tt
each_stays (b ∷ books) = (stays b, each_stays books)

pub each_further : (olds mids news : List SackBook) → EachGoesOn olds mids → EachGoesOn mids news → EachGoesOn olds news
each_further [] [] news a b = b
each_further [] (m ∷ mids) news a b = absurd a
each_further (o ∷ olds) [] news a b = absurd a
each_further (o ∷ olds) (m ∷ mids) [] a b = absurd b
each_further (o ∷ olds) (m ∷ mids) (n ∷ news) a b = (goes_further o m n a.0 b.0, each_further olds mids news a.1 b.1)

pub one_goes_on : (books : List SackBook) (k : ℕ) (old new : SackBook) → slice_get books k ≡ Some old → BookGoesOn old new → EachGoesOn books (slice_set books k new)
one_goes_on [] k old new there on = absurd (none-some old there)
one_goes_on (b ∷ books) zero old new there on = (subst (λ (x : SackBook). BookGoesOn x new) (sym (same_Some b old there)) on, each_stays books)
one_goes_on (b ∷ books) (suc k) old new there on = (stays b, one_goes_on books k old new there on)

-- ---- of all books

pub all_stay : (books : SeenBooks) → BooksGoOn books books
all_stay books = record { index = stays books.index; sacks = each_stays books.sacks }

pub all_further : (old mid new : SeenBooks) → BooksGoOn old mid → BooksGoOn mid new → BooksGoOn old new
all_further old mid new a b = record {
  index = goes_further old.index mid.index new.index a.index b.index;
  sacks = each_further old.sacks mid.sacks new.sacks a.sacks b.sacks;
}

pub sack_goes_on : {T F : Type 0} (sack : ℕ) (words : FaultWords F) (Call : Result T F → List Entry → List Entry → Type 0) (result : Result T F) (old new : SeenBooks)
    → EntersSack sack words Call result old new → BooksGoOn old new
sack_goes_on sack words Call result old new e = subst (BooksGoOn old) (sym e.new_is) (record {
  index = stays old.index;
  sacks = one_goes_on old.sacks sack e.before e.after e.found (entered_goes_on _ e.before e.after e.book.enters);
})

pub index_goes_on : {T : Type 0} (Call : Maps → List IndexEntry → List IndexEntry → Result T ControlFault → Type 0) (result : Result T ControlFault) (old new : SeenBooks)
    → EntersIndex Call result old new → BooksGoOn old new
index_goes_on Call result old new e = subst (BooksGoOn old) (sym e.new_is) (record {
  index = entered_goes_on _ old.index e.after e.enters;
  sacks = each_stays old.sacks;
})

-- ---- of the calls that enter several books

pub drain_goes_on : (sack turns : ℕ) (olds news : List SackBook) (result : Result ℕ SackFault) → DrainsFrom sack turns olds news result → EachGoesOn olds news
drain_goes_on sack turns olds news result (all s t) = tt
drain_goes_on sack turns olds news result (one s t more old new os ns r e rest) = (entered_goes_on _ old new e.enters, drain_goes_on _ _ os ns r rest)
drain_goes_on sack turns olds news result (refused s t old new os fault e) = (entered_goes_on _ old new e.enters, each_stays os)

pub adding_goes_on : (policy name unit : _) (resource : _) (old new : SeenBooks) (result : Result Reply ControlFault) → AddsMetric policy name unit resource old new result → BooksGoOn old new
adding_goes_on policy name unit resource old new result (not_begun fault b) = index_goes_on _ _ old new b
adding_goes_on policy name unit resource old new result (starved drawn b) = index_goes_on _ _ old new b
adding_goes_on policy name unit resource old new result (not_created drawn begun fault b c) =
    all_further old begun new (index_goes_on _ _ old begun b) (sack_goes_on _ _ _ _ begun new c)
adding_goes_on policy name unit resource old new result (added drawn doc begun created is b c a) =
    all_further old created new (all_further old begun created (index_goes_on _ _ old begun b) (sack_goes_on _ _ _ _ begun created c)) (index_goes_on _ _ created new a)
adding_goes_on policy name unit resource old new result (left drawn doc begun created fault is b c a broken) =
    all_further old created new (all_further old begun created (index_goes_on _ _ old begun b) (sack_goes_on _ _ _ _ begun created c)) (index_goes_on _ _ created new a)
adding_goes_on policy name unit resource old new result (dropped_again drawn doc begun created gone fault dropping is b c a whole d) =
    all_further old gone new
    (all_further old created gone (all_further old begun created (index_goes_on _ _ old begun b) (sack_goes_on _ _ _ _ begun created c)) (index_goes_on _ _ created gone a))
    (sack_goes_on _ _ _ _ gone new d)

pub dropping_goes_on : (metric : _) (old new : SeenBooks) (result : Result Reply ControlFault) → DropsMetric metric old new result → BooksGoOn old new
dropping_goes_on metric old new result (refused dropping fault d is r) = sack_goes_on _ _ _ _ old new d
dropping_goes_on metric old new result (asked dropping gone d is a) =
    all_further old gone new (sack_goes_on _ _ _ _ old gone d) (index_goes_on _ _ gone new a)

pub controlling_goes_on : (command : Command) (result : Result Reply ControlFault) (old new : SeenBooks) → Controls command result old new → BooksGoOn old new
controlling_goes_on (commands.AddMetric policy name unit resource) result old new c = adding_goes_on policy name unit resource old new result c
controlling_goes_on (commands.DropMetric metric) result old new c = dropping_goes_on metric old new result c
controlling_goes_on (commands.AddPolicy p) result old new c = index_goes_on _ result old new c
controlling_goes_on (commands.GetPolicy name) result old new c = index_goes_on _ result old new c
controlling_goes_on commands.ListPolicies result old new c = index_goes_on _ result old new c
controlling_goes_on (commands.DropPolicy name) result old new c = index_goes_on _ result old new c
controlling_goes_on (commands.AddRule r) result old new c = index_goes_on _ result old new c
controlling_goes_on (commands.GetRule name) result old new c = index_goes_on _ result old new c
controlling_goes_on commands.ListRules result old new c = index_goes_on _ result old new c
controlling_goes_on (commands.DropRule name) result old new c = index_goes_on _ result old new c
controlling_goes_on (commands.GetMetric id) result old new c = index_goes_on _ result old new c
controlling_goes_on commands.ListMetrics result old new c = index_goes_on _ result old new c
controlling_goes_on (commands.AddResource id) result old new c = index_goes_on _ result old new c
controlling_goes_on (commands.GetResource id) result old new c = index_goes_on _ result old new c
controlling_goes_on commands.ListResources result old new c = index_goes_on _ result old new c
controlling_goes_on (commands.DropResource id) result old new c = index_goes_on _ result old new c
controlling_goes_on (commands.FindMetric resource name) result old new c = index_goes_on _ result old new c
