-- The JSON value of a body.
use Rattle.std.proofs.Common.{◌≡◌, ℕ, List, Some, None, Bool, true, false, refl, IsUtf8}
use Rattle.std.specs.Str.{is_utf8}
use Rattle.std.proofs.lemmas.Str.{IsUtf8-from_is_utf8, is_utf8-from_IsUtf8}
use Rattle.serde_json.specs.Data.{Data}
use Rattle.serde_json.specs.Read.{read}
use Rattle.control_docs.specs.Body.{body_value}

pub value_there : (body : List ℕ) (d : Data) → IsUtf8 body → read body ≡ Some d → body_value body ≡ Some d
unfolding body_value
value_there body d text is = rw (is_utf8-from_IsUtf8 body text) is

pub value_missing : (body : List ℕ) → (IsUtf8 body → read body ≡ None) → body_value body ≡ None
unfolding body_value
value_missing body none = by (is_utf8 body) refl
  where
    by : (v : Bool) → is_utf8 body ≡ v → body_value body ≡ None
    by true e = rw e (none (IsUtf8-from_is_utf8 body e))
    by false e = rw e refl
