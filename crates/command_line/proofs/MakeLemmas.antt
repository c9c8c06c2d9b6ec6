-- What values make, and readings that fail.
use Rattle.std.proofs.Common.{◌≡◌, ℕ, List, Option, Some, None, option_and_then, Err, refl, sym, ap, ◌∙◌}
use Rattle.std.proofs.lemmas.Option.{none-some, same_Some}
use Rattle.command_line.specs.declared.command.Command.{Command}
use Rattle.command_line.specs.declared.command.Command.TheVariants.{Serve}
use Rattle.command_line.specs.declared.fault.PlanFault.{PlanFault}
use Rattle.command_line.specs.declared.fault.PlanFault.TheVariants.{Usage, Memory}
use Rattle.command_line.specs.declared.home.Home.{Home}
use Rattle.command_line.specs.declared.make.Site.{Site}
use Rattle.command_line.specs.Command.{of_two, of_three}
use Rattle.command_line.specs.Fault.{IsReading}
use Rattle.command_line.specs.Make.{site}

pub two_first : {A B C : Type 0} (make : A → B → C) (a : Option A) (b : Option B) → a ≡ None → of_two make a b ≡ None
two_first make None b is = refl
two_first make (Some x) b is = absurd (none-some x (sym is))

pub two_second : {A B C : Type 0} (make : A → B → C) (a : Option A) (b : Option B) → b ≡ None → of_two make a b ≡ None
two_second make None b is = refl
two_second make (Some x) None is = refl
two_second make (Some x) (Some y) is = absurd (none-some y (sym is))

pub two_both : {A B C : Type 0} (make : A → B → C) (a : Option A) (b : Option B) (x : A) (y : B) → a ≡ Some x → b ≡ Some y → of_two make a b ≡ Some (make x y)
two_both make a b x y p q = λ i. of_two make (p i) (q i)

pub three_first : {A B C D : Type 0} (make : A → B → C → D) (a : Option A) (b : Option B) (c : Option C) → a ≡ None → of_three make a b c ≡ None
three_first make None b c is = refl
three_first make (Some x) b c is = absurd (none-some x (sym is))

pub three_second : {A B C D : Type 0} (make : A → B → C → D) (a : Option A) (b : Option B) (c : Option C) → b ≡ None → of_three make a b c ≡ None
three_second make None b c is = refl
three_second make (Some x) b c is = two_first (make x) b c is

pub three_third : {A B C D : Type 0} (make : A → B → C → D) (a : Option A) (b : Option B) (c : Option C) → c ≡ None → of_three make a b c ≡ None
three_third make None b c is = refl
three_third make (Some x) b c is = two_second (make x) b c is

pub three_all : {A B C D : Type 0} (make : A → B → C → D) (a : Option A) (b : Option B) (c : Option C) (x : A) (y : B) (z : C) → a ≡ Some x → b ≡ Some y → c ≡ Some z → of_three make a b c ≡ Some (make x y z)
three_all make a b c x y z p q r = λ i. of_three make (p i) (q i) (r i)

-- what a store makes
pub site_none : {D : Type 0} (make : Home → ℕ → ℕ → D) (a : Option Home) (b c : Option ℕ) → of_three site a b c ≡ None → of_three make a b c ≡ None
site_none make None b c is = refl
site_none make (Some x) None c is = refl
site_none make (Some x) (Some y) None is = refl
site_none make (Some x) (Some y) (Some z) is = absurd (none-some (site x y z) (sym is))

pub site_some : {D : Type 0} (make : Home → ℕ → ℕ → D) (a : Option Home) (b c : Option ℕ) (s : Site) → of_three site a b c ≡ Some s → of_three make a b c ≡ Some (make s.home s.sacks s.number)
site_some make None b c s is = absurd (none-some s is)
site_some make (Some x) None c s is = absurd (none-some s is)
site_some make (Some x) (Some y) None s is = absurd (none-some s is)
site_some make (Some x) (Some y) (Some z) s is = ap (λ (t : Site). Some (make t.home t.sacks t.number)) (same_Some (site x y z) s is)

-- where one reading fails, so does what stands on it
pub failed : {A B : Type 0} (from : Option A) (to : Option B) (fault : PlanFault) → (from ≡ None → to ≡ None) → IsReading from (Err fault) → IsReading to (Err fault)
failed from to Usage stands is = stands is
failed from to Memory stands is = tt

-- ---- a server

abbrev pub served : Home → ℕ → ℕ → List ℕ → ℕ → ℕ → Command
served home sacks number listen workers conns = Serve home sacks number listen workers conns

-- the server that readings make
abbrev pub serve_by : Option Home → Option ℕ → Option ℕ → Option (List ℕ) → Option ℕ → Option ℕ → Option Command
serve_by home sacks number listen workers conns =
    option_and_then (λ serve. of_three serve listen workers conns) (of_three served home sacks number)

-- where three readings never make anything, nothing is served
inner : (home : Option Home) (sacks number : Option ℕ) (listen : Option (List ℕ)) (workers conns : Option ℕ) → ((make : List ℕ → ℕ → ℕ → Command) → of_three make listen workers conns ≡ None) → serve_by home sacks number listen workers conns ≡ None
inner None b c listen workers conns none = refl
inner (Some x) None c listen workers conns none = refl
inner (Some x) (Some y) None listen workers conns none = refl
inner (Some x) (Some y) (Some z) listen workers conns none = none (served x y z)

pub serve_site : (home : Option Home) (sacks number : Option ℕ) (listen : Option (List ℕ)) (workers conns : Option ℕ) → of_three site home sacks number ≡ None → serve_by home sacks number listen workers conns ≡ None
serve_site None b c listen workers conns is = refl
serve_site (Some x) None c listen workers conns is = refl
serve_site (Some x) (Some y) None listen workers conns is = refl
serve_site (Some x) (Some y) (Some z) listen workers conns is = absurd (none-some (site x y z) (sym is))

pub serve_listen : (home : Option Home) (sacks number : Option ℕ) (listen : Option (List ℕ)) (workers conns : Option ℕ) → listen ≡ None → serve_by home sacks number listen workers conns ≡ None
serve_listen home sacks number listen workers conns is = inner home sacks number listen workers conns (λ make. three_first make listen workers conns is)

pub serve_workers : (home : Option Home) (sacks number : Option ℕ) (listen : Option (List ℕ)) (workers conns : Option ℕ) → workers ≡ None → serve_by home sacks number listen workers conns ≡ None
serve_workers home sacks number listen workers conns is = inner home sacks number listen workers conns (λ make. three_second make listen workers conns is)

pub serve_conns : (home : Option Home) (sacks number : Option ℕ) (listen : Option (List ℕ)) (workers conns : Option ℕ) → conns ≡ None → serve_by home sacks number listen workers conns ≡ None
serve_conns home sacks number listen workers conns is = inner home sacks number listen workers conns (λ make. three_third make listen workers conns is)

pub serve_all : (home : Option Home) (sacks number : Option ℕ) (listen : Option (List ℕ)) (workers conns : Option ℕ) (s : Site) (l : List ℕ) (w c : ℕ) → of_three site home sacks number ≡ Some s → listen ≡ Some l → workers ≡ Some w → conns ≡ Some c → serve_by home sacks number listen workers conns ≡ Some (Serve s.home s.sacks s.number l w c)
serve_all home sacks number listen workers conns s l w c is p q r =
    ap (option_and_then (λ serve. of_three serve listen workers conns)) (site_some served home sacks number s is)
    ∙ three_all (served s.home s.sacks s.number) listen workers conns l w c p q r
