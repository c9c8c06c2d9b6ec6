use Rattle.std.proofs.Common.{◌≡◌, ◌∙◌, ℕ, Option, Some, None, nat_le, sym, ap, subst}
use Rattle.std.specs.List.{position}
use Rattle.std.specs.Option.{MatchOption}
use Rattle.extent_map.specs.Extents.{ExtentsView, TakesEnd, TakesFront}
use Rattle.extent_map.proofs.extents.Extents.take.Goals as goal

pub returns-in-Some-clause-exact : goal.returns-in-Some-clause-exact
returns-in-Some-clause-exact c =
    let old = c.args.self.now in
    let new = c.take_front.new.self in
    let at = c.take_front.result in
    let n = c.from-len.result in
    let first : position (λ (r : ℕ × ℕ). nat_le n r.1) old.free ≡ Some c.in-Some.i = ap (λ (v : ExtentsView). position (λ (r : ℕ × ℕ). nat_le n r.1) v.free) (sym c.self.view_is) ∙ ap (position (λ (r : ℕ × ℕ). nat_le n r.1)) (sym c.as_slice.ensures.value) ∙ sym c.in-Some.ensures.first in
    let P : Option ℕ → Type 0 = λ o. MatchOption o (TakesEnd n at old new) (λ i. TakesFront i n at old new) in
    subst (λ (n : ℕ). MatchOption (position (λ (r : ℕ × ℕ). nat_le n r.1) old.free) (TakesEnd n at old new) (λ i. TakesFront i n at old new)) c.from-len.ensures
    (subst P (sym first) c.take_front.ensures.exact)

pub returns-in-None-clause-exact : goal.returns-in-None-clause-exact
returns-in-None-clause-exact c =
    let old = c.args.self.now in
    let new = c.take_end.new.self in
    let at = c.take_end.result in
    let n = c.from-len.result in
    let first : position (λ (r : ℕ × ℕ). nat_le n r.1) old.free ≡ None = ap (λ (v : ExtentsView). position (λ (r : ℕ × ℕ). nat_le n r.1) v.free) (sym c.self.view_is) ∙ ap (position (λ (r : ℕ × ℕ). nat_le n r.1)) (sym c.as_slice.ensures.value) ∙ sym c.in-None.ensures.first in
    let P : Option ℕ → Type 0 = λ o. MatchOption o (TakesEnd n at old new) (λ i. TakesFront i n at old new) in
    subst (λ (n : ℕ). MatchOption (position (λ (r : ℕ × ℕ). nat_le n r.1) old.free) (TakesEnd n at old new) (λ i. TakesFront i n at old new)) c.from-len.ensures
    (subst P (sym first) c.take_end.ensures.exact)
