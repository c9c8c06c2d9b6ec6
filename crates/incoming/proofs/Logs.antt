-- Records of an incoming log, one after another.
use Rattle.std.proofs.Common.{◌≡◌, ◌≢◌, ◌⊎◌, inl, inr, ℕ, ◌+◌, ◌<◌, ◌≤◌, List, [], ◌∷◌, ◌++◌, length, map, get_or, Option, Some, None, refl, sym, ap, subst, ◌∙◌, arith, append_assoc}
use Rattle.std.specs.Option.{IfSome}
use Rattle.std.specs.List.{AllByRecursion}
use Rattle.std.proofs.lemmas.List.{append-nil, map_push, map-append}
use Rattle.gno_codec.specs.Incoming.{next_bytes, incoming_bytes, IsIncoming, IsNext}
use Rattle.gno_codec.specs.declared.item.IncomingItem.{IncomingItem}
use Rattle.gno_codec.specs.declared.item.IncomingItem.TheVariants as items
use Rattle.gno_codec.proofs.Records.{incoming_field}
use Rattle.gno_codec.proofs.Steps.{one_spelling}
use Rattle.incoming.specs.declared.mark.Mark.{Mark}
use Rattle.incoming.specs.Damage.{IsOdd, IsOddBehind, unspelled, late, low}
use Rattle.incoming.specs.Posts.{HasRecord, IsIncomingLog, Post, RiseFrom, last_number, mark_of, marks_of, post_record, start_records}
use Rattle.incoming.proofs.Marks.{RiseFrom-at, RiseFrom-push}

-- ---- one record

abbrev item_of : Post → IncomingItem
item_of post = items.Post post.number post.metric post.measures

abbrev post_of : Post → IncomingItem → Post
post_of other (items.Post number metric measures) = record { number = number; metric = metric; measures = measures }
post_of other (items.Next number) = other

abbrev number_of : IncomingItem → ℕ
number_of (items.Post number metric measures) = number
number_of (items.Next number) = number

pub same_post : (p q : Post) → HasRecord p → HasRecord q → post_record p ≡ post_record q → p ≡ q
same_post p q has has_too e = ap (post_of p) (one_spelling incoming_field (item_of p) (item_of q) has has_too e)

same_next : (m n : ℕ) → IsNext m → IsNext n → next_bytes m ≡ next_bytes n → m ≡ n
same_next m n is is_too e = ap number_of (one_spelling incoming_field (items.Next m) (items.Next n) is is_too e)

pub no_post_is_next : (p : Post) (n : ℕ) → post_record p ≡ next_bytes n → ⊥
no_post_is_next p n e = let h : ◌≡◌ {A = ℕ} 1 2 = ap (λ (bytes : List ℕ). get_or bytes 0 0) e in omega (arith, h)

-- ---- lists of records

head_is : {X : Type 0} (x y : X) (xs ys : List X) → x ∷ xs ≡ y ∷ ys → x ≡ y
head_is x y xs ys e = cc

tail_is : {X : Type 0} (x y : X) (xs ys : List X) → x ∷ xs ≡ y ∷ ys → xs ≡ ys
tail_is x y xs ys e = cc

-- posts whose records begin with those of others begin with these
same_front : (ps qs : List Post) (more : List (List ℕ)) → AllByRecursion HasRecord ps → AllByRecursion HasRecord qs → map post_record qs ≡ map post_record ps ++ more
    → (rest : List Post) × (qs ≡ ps ++ rest) × (map post_record rest ≡ more)
same_front [] qs more has has_too e = (qs, refl, e)
same_front (p ∷ ps) [] more has has_too e = absurd cc
same_front (p ∷ ps) (q ∷ qs) more has has_too e =
    let one : q ≡ p = same_post q p has_too.0 has.0 (head_is _ _ _ _ e) in
    let rest = same_front ps qs more has.1 has_too.1 (tail_is _ _ _ _ e) in
    (rest.0, ap (λ (x : Post). x ∷ qs) one ∙ ap (λ (l : List Post). p ∷ l) rest.1, rest.2)

-- A list of records behind others: posts that go on, or a `Next` and posts where there was no record.
pub record GoesOn (s t : Option ℕ) (ps qs : List Post) (more : List (List ℕ)) : Type 0 where
  pub start : s ≡ t
  pub rest : List Post
  pub posts_are : qs ≡ ps ++ rest
  pub more_is : map post_record rest ≡ more

pub record Starts (s t : Option ℕ) (ps qs : List Post) (more : List (List ℕ)) : Type 0 where
  pub none : s ≡ None
  pub no_posts : ps ≡ []
  pub number : ℕ
  pub fits : IsNext number
  pub more_is : more ≡ next_bytes number ∷ map post_record qs

front : (s t : Option ℕ) (ps qs : List Post) (more : List (List ℕ)) → IfSome s IsNext → IfSome t IsNext → AllByRecursion HasRecord ps → AllByRecursion HasRecord qs
    → start_records t ++ map post_record qs ≡ (start_records s ++ map post_record ps) ++ more → GoesOn s t ps qs more ⊎ Starts s t ps qs more
front None None ps qs more fits fits_too has has_too e =
    let f = same_front ps qs more has has_too e in
    inl (record { start = refl; rest = f.0; posts_are = f.1; more_is = f.2 })
front (Some m) (Some n) ps qs more fits fits_too has has_too e =
    let f = same_front ps qs more has has_too (tail_is _ _ _ _ e) in
    inl (record { start = ap (λ k. Some k) (sym (same_next n m fits_too fits (head_is _ _ _ _ e))); rest = f.0; posts_are = f.1; more_is = f.2 })
front (Some m) None ps [] more fits fits_too has has_too e = absurd cc
front (Some m) None ps (q ∷ qs) more fits fits_too has has_too e = absurd (no_post_is_next q m (head_is _ _ _ _ e))
front None (Some n) [] qs more fits fits_too has has_too e = inr (record { none = refl; no_posts = refl; number = n; fits = fits_too; more_is = sym e })
front None (Some n) (p ∷ ps) qs more fits fits_too has has_too e = absurd (no_post_is_next p n (sym (head_is _ _ _ _ e)))

pub log_goes_on : (records more : List (List ℕ)) (s t : Option ℕ) (ps qs : List Post) → IsIncomingLog records s ps → IsIncomingLog (records ++ more) t qs → GoesOn s t ps qs more ⊎ Starts s t ps qs more
log_goes_on records more s t ps qs log whole =
    front s t ps qs more log.start_fits whole.start_fits log.each whole.each (sym whole.records_are ∙ ap (λ (rs : List (List ℕ)). rs ++ more) log.records_are)

none_left : (rest : List Post) → map post_record rest ≡ [] → rest ≡ []
none_left [] e = refl
none_left (p ∷ rest) e = absurd cc

-- records spell one start number and one list of posts
pub one_log : (records : List (List ℕ)) (s t : Option ℕ) (ps qs : List Post) → IsIncomingLog records s ps → IsIncomingLog records t qs → (s ≡ t) × (ps ≡ qs)
one_log records s t ps qs log other = elim (log_goes_on records [] s t ps qs log (subst (λ (rs : List (List ℕ)). IsIncomingLog rs t qs) (sym (append-nil records)) other)) [
  | inl on ↦ (on.start, sym (on.posts_are ∙ ap (λ (rest : List Post). ps ++ rest) (none_left on.rest on.more_is) ∙ append-nil ps))
  | inr starts ↦ (let e = starts.more_is in absurd cc)
]

-- ---- a record more

all_push : {X : Type 0} (P : X → Type 0) (xs : List X) (x : X) → AllByRecursion P xs → P x → AllByRecursion P (xs ++ x ∷ [])
all_push P [] x all has = (has, tt)
all_push P (y ∷ xs) x all has = (all.0, all_push P xs x all.1 has)

all_at : {X : Type 0} (P : X → Type 0) (xs : List X) (x : X) (rest : List X) → AllByRecursion P (xs ++ x ∷ rest) → P x
all_at P [] x rest all = all.0
all_at P (y ∷ xs) x rest all = all_at P xs x rest all.1

pub log_post : (records : List (List ℕ)) (s : Option ℕ) (ps : List Post) (p : Post) → IsIncomingLog records s ps → HasRecord p → last_number (marks_of ps) < p.number
    → IsIncomingLog (records ++ post_record p ∷ []) s (ps ++ p ∷ [])
log_post records s ps p log has above = record {
  start_fits = log.start_fits;
  each = all_push HasRecord ps p log.each has;
  rise = subst (RiseFrom 0) (sym (map_push mark_of ps p)) (RiseFrom-push 0 (marks_of ps) (mark_of p) log.rise above);
  records_are =
      ap (λ (rs : List (List ℕ)). rs ++ post_record p ∷ []) log.records_are
      ∙ append_assoc (start_records s) (map post_record ps) (post_record p ∷ [])
      ∙ ap (λ (rs : List (List ℕ)). start_records s ++ rs) (sym (map_push post_record ps p));
}

pub log_next : (number : ℕ) → IsNext number → IsIncomingLog (next_bytes number ∷ []) (Some number) []
log_next number fits = record { start_fits = fits; each = tt; rise = tt; records_are = refl }

pub log_none : IsIncomingLog [] None []
log_none = record { start_fits = tt; each = tt; rise = tt; records_are = refl }

-- ---- a record that may not stand there

odd_post : (records : List (List ℕ)) (ps : List Post) (body : List ℕ) (p : Post) → HasRecord p → body ≡ post_record p → last_number (marks_of ps) < p.number → IsOdd records ps body → ⊥
odd_post records ps body p has is above (unspelled none) = none (item_of p) has is
odd_post records ps body p has is above (late number fits next some) = no_post_is_next p number (sym is ∙ next)
odd_post records ps body p has is above (low q has_too other le) =
    let one : q ≡ p = same_post q p has_too has (sym other ∙ is) in
    omega (arith, above, le, ap (λ (x : Post). x.number) one)

odd_next : (records : List (List ℕ)) (ps : List Post) (body : List ℕ) (n : ℕ) → IsNext n → body ≡ next_bytes n → records ≡ [] → IsOdd records ps body → ⊥
odd_next records ps body n fits is none (unspelled other) = other (items.Next n) fits is
odd_next records ps body n fits is none (late number fits_too next some) = some none
odd_next records ps body n fits is none (low q has other le) = no_post_is_next q n (sym other ∙ is)

goes_odd : (records : List (List ℕ)) (ps rest : List Post) (body : List ℕ) (more : List (List ℕ)) → AllByRecursion HasRecord (ps ++ rest) → RiseFrom 0 (marks_of (ps ++ rest)) → map post_record rest ≡ body ∷ more → IsOdd records ps body → ⊥
goes_odd records ps [] body more has rise is odd = absurd cc
goes_odd records ps (p ∷ rest) body more has rise is odd =
    odd_post records ps body p (all_at HasRecord ps p rest has) (sym (head_is _ _ _ _ is))
    (RiseFrom-at 0 (marks_of ps) (mark_of p) (marks_of rest) (subst (RiseFrom 0) (map-append mark_of ps (p ∷ rest)) rise)) odd

-- no log goes on with it
pub odd_never : (records : List (List ℕ)) (body : List ℕ) (more : List (List ℕ)) → IsOddBehind records body → (t : Option ℕ) (qs : List Post) → IsIncomingLog (records ++ body ∷ more) t qs → ⊥
odd_never records body more odd t qs whole = elim (log_goes_on records (body ∷ more) odd.start t odd.posts qs odd.log whole) [
  | inl on ↦ goes_odd records odd.posts on.rest body more (subst (AllByRecursion HasRecord) on.posts_are whole.each) (subst (λ (ps : List Post). RiseFrom 0 (marks_of ps)) on.posts_are whole.rise) on.more_is odd.odd
  | inr starts ↦ odd_next records odd.posts body starts.number starts.fits (head_is _ _ _ _ starts.more_is)
      (odd.log.records_are ∙ ap (λ (s : Option ℕ). start_records s ++ map post_record odd.posts) starts.none ∙ ap (map post_record) starts.no_posts) odd.odd
]
