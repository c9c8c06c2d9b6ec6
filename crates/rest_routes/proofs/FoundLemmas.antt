-- What the router answers, as the table tells it.
use Rattle.std.proofs.Common.{◌≡◌, Bool, true, false, ℕ, suc, ◌<◌, List, [], ◌∷◌, length, Option, Some, None, refl, sym, ap, ◌∙◌, arith, get_or}
use Rattle.std.specs.Str.{IsUtf8, is_utf8}
use Rattle.std.proofs.lemmas.Str.{IsUtf8-from_is_utf8, is_utf8-from_IsUtf8}
use Rattle.matchit.specs.Level.{IsText}
use Rattle.matchit.specs.Seek.{first}
use Rattle.matchit.specs.Router.{RouteOf, map_key}
use Rattle.rest_routes.specs.Table.{table}
use Rattle.rest_routes.specs.Path.{RawRoute, segments, parameters_of, raw_route_of}
use Rattle.rest_routes.specs.Routes.{route_at}
use Rattle.rest_routes.specs.declared.kind.RouteKind.{RouteKind}
use Rattle.rest_routes.proofs.RouterLaw.{first-route, its_kind}
use Rattle.rest_routes.proofs.RowLemmas.{HasRoute-of_segments, parameters-HasRoute}

pub text : (xs : List ℕ) → ((i : ℕ) → i < length xs → get_or xs i 0 < 256) → IsText xs
text [] h = tt
text (x ∷ xs) h = (h 0 (omega arith), text xs (λ i l. h (suc i) (omega arith)))

pub found-route : (path : List ℕ) (r : RouteOf RouteKind) → IsText path → first table path ≡ Some r
    → raw_route_of path ≡ Some (r.value, parameters_of r.value (segments path))
found-route path r h q =
    by (raw_route_of path) refl (ap (λ z. map_key (λ r. r.value) z) (sym q) ∙ first-route path h)
  where
    by : (x : Option RawRoute) → raw_route_of path ≡ x → Some r.value ≡ its_kind x → x ≡ Some (r.value, parameters_of r.value (segments path))
    by None was e = cc
    by (Some (k, ps)) was e =
        let same : r.value ≡ k = cc in
        let at : ps ≡ parameters_of k (segments path) = parameters-HasRoute (segments path) (k, ps) (HasRoute-of_segments (segments path) (k, ps) was) in
        rw (same, at) refl

pub missing-route : (path : List ℕ) → IsText path → first table path ≡ None → raw_route_of path ≡ None
missing-route path h q =
    by (raw_route_of path) (ap (λ z. map_key (λ r. r.value) z) (sym q) ∙ first-route path h)
  where
    by : (x : Option RawRoute) → None ≡ its_kind x → x ≡ None
    by None e = refl
    by (Some f) e = cc

-- a path that is text has the route of its segments, another has none

pub text-there : (path : List ℕ) → IsUtf8 path → route_at path ≡ raw_route_of path
text-there path h = rw (is_utf8-from_IsUtf8 path h) refl

pub text-missing : (path : List ℕ) → ¬ IsUtf8 path → route_at path ≡ None
text-missing path n = by (is_utf8 path) refl
  where
    by : (v : Bool) → is_utf8 path ≡ v → route_at path ≡ None
    by true e = absurd (n (IsUtf8-from_is_utf8 path e))
    by false e = rw e refl
