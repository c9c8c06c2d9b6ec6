-- What stands in a value at its place.
use Rattle.std.proofs.Common.{◌≡◌, ℕ, zero, suc, List, Option, Some, None, true, Ordering, Less, Equal, Greater, is_eq, nat_cmp, refl, sym, ap, ◌∙◌, subst}
use Rattle.std.proofs.lemmas.Map.Text.{is_eq-slice_cmp}
use Rattle.std.proofs.lemmas.Slice.Eq.{bytes_eq-Decides}
use Rattle.std.specs.Cmp.Lexicographic.{slice_cmp}
use Rattle.std.specs.Ordering.{match_ordering}
use Rattle.serde_json.specs.Data.{Data, null, boolean, number, string, array, object, Items, no_items, item, Members, no_members, member}
use Rattle.serde_json.specs.Find.{at, get, get_item, get_member}
use Rattle.control_docs.specs.declared.shape.Shape.{Shape}
use Rattle.control_docs.specs.Shape.{fits, has_members, item_shape, items_fit, member_shape, members_fit, passes}
use Rattle.control_docs.proofs.MemberLemmas.{both}

some_same : {A : Type 0} (x y : A) → Some x ≡ Some y → x ≡ y
some_same x y e = cc

-- a member that is found stands at its place
member_found : (shape : Shape) (ms : Members) (key : List ℕ) (d : Data) → members_fit shape ms ≡ true → get_member key ms ≡ Some d → passes (member_shape shape key) (λ inner. fits inner d) ≡ true
member_found shape no_members key d fit found = absurd cc
member_found shape (member l e ms) key d fit found =
    by (slice_cmp nat_cmp key l) refl found (member_found shape ms key d (both _ _ fit).1)
  where
    here : slice_cmp nat_cmp key l ≡ Equal → Some e ≡ Some d → passes (member_shape shape key) (λ inner. fits inner d) ≡ true
    here is same =
        let key_same : key ≡ l = (bytes_eq-Decides key l).0 (sym (is_eq-slice_cmp key l) ∙ ap is_eq is) in
        subst (λ k. passes (member_shape shape k) (λ inner. fits inner d) ≡ true) (sym key_same)
        (subst (λ x. passes (member_shape shape l) (λ inner. fits inner x) ≡ true) (some_same e d same) (both _ _ fit).0)

    by : (o : Ordering) → slice_cmp nat_cmp key l ≡ o → match_ordering o (get_member key ms) (Some e) (get_member key ms) ≡ Some d → (get_member key ms ≡ Some d → passes (member_shape shape key) (λ inner. fits inner d) ≡ true)
        → passes (member_shape shape key) (λ inner. fits inner d) ≡ true
    by Less is e later = later e
    by Equal is e later = here is e
    by Greater is e later = later e

pub members_given : (shape : Shape) (value inner : Data) (key : List ℕ) → fits shape value ≡ true → get key value ≡ Some inner → passes (member_shape shape key) (λ s. fits s inner) ≡ true
members_given shape null inner key fit found = absurd cc
members_given shape (boolean b) inner key fit found = absurd cc
members_given shape (number n) inner key fit found = absurd cc
members_given shape (string s) inner key fit found = absurd cc
members_given shape (array ds) inner key fit found = absurd cc
members_given shape (object ms) inner key fit found =
    member_found shape ms key inner (both (has_members shape) (members_fit shape ms) fit).1 found

-- an item that is found stands at its place
item_found : (shape : Shape) (ds : Items) (place : ℕ) (d : Data) → items_fit shape ds ≡ true → get_item place ds ≡ Some d → fits shape d ≡ true
item_found shape no_items place d fit found = absurd cc
item_found shape (item e ds) zero d fit found = subst (λ x. fits shape x ≡ true) (some_same e d found) (both _ _ fit).0
item_found shape (item e ds) (suc place) d fit found = item_found shape ds place d (both _ _ fit).1 found

items_found : (o : Option Shape) (ds : Items) (place : ℕ) (d : Data) → passes o (λ s. items_fit s ds) ≡ true → get_item place ds ≡ Some d → passes o (λ s. fits s d) ≡ true
items_found None ds place d fit found = fit
items_found (Some shape) ds place d fit found = item_found shape ds place d fit found

pub items_given : (shape : Shape) (value inner : Data) (place : ℕ) → fits shape value ≡ true → at place value ≡ Some inner → passes (item_shape shape) (λ s. fits s inner) ≡ true
items_given shape null inner place fit found = absurd cc
items_given shape (boolean b) inner place fit found = absurd cc
items_given shape (number n) inner place fit found = absurd cc
items_given shape (string s) inner place fit found = absurd cc
items_given shape (array ds) inner place fit found = items_found (item_shape shape) ds place inner fit found
items_given shape (object ms) inner place fit found = absurd cc
