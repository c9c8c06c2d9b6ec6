-- Steps of a reader that did not fail.
use Rattle.std.proofs.Common.{◌≡◌, Bool, true, false, cond, Result, Ok, Err, ◌⊎◌, inl, inr, refl}
use Rattle.measure_json.specs.declared.fault.Fault.{Fault}
use Rattle.measure_json.specs.Fault.{◌>>=◌}

-- what a step gave that did not fail
pub bind_ok : {A B : Type 0} (r : Result A Fault) (f : A → Result B Fault) (y : B) → (r >>= f) ≡ Ok y → (x : A) × (r ≡ Ok x) × (f x ≡ Ok y)
bind_ok (Ok x) f y e = (x, refl, e)
bind_ok (Err d) f y e = absurd cc

-- which way a test went
pub chosen : {A : Type 0} (b : Bool) (x y z : Result A Fault) → cond b x y ≡ z → ((b ≡ true) × (x ≡ z)) ⊎ ((b ≡ false) × (y ≡ z))
chosen true x y z e = inl (refl, e)
chosen false x y z e = inr (refl, e)

-- a test that has to hold
pub held : {A : Type 0} (b : Bool) (x : Result A Fault) (d : Fault) (z : A) → cond b x (Err d) ≡ Ok z → (b ≡ true) × (x ≡ Ok z)
held true x d z e = (refl, e)
held false x d z e = absurd cc

abbrev done : {A : Type 0} → A → Result A Fault
done x = Ok x

pub ok_is : {A : Type 0} (x y : A) → done x ≡ done y → x ≡ y
ok_is x y e = cc
