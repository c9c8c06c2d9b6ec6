-- Where the text of a string stands.
use Rattle.std.specs.Prelude.{ℕ, List}
use Rattle.measure_json.specs.declared.text.Spelled.{Spelled}
use Rattle.measure_json.specs.declared.text.Spelled.TheVariants.{InPlace, Unescaped}

-- the text itself, given what the vector for strings with escapes holds
abbrev pub spelled_text : Spelled → List ℕ → List ℕ
spelled_text (InPlace bytes) unescaped = bytes.now
spelled_text Unescaped unescaped = unescaped
