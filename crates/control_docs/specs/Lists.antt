-- Lists of documents, as they are written one document after another.
use Rattle.std.specs.Prelude.{ℕ, ◌==◌, if◌then◌else◌, List, [], ◌∷◌}
use Rattle.serde_json.specs.Data.{Data}
use Rattle.serde_json.specs.Written.{compact_text}
use Rattle.control_docs.specs.Texts.{with_commas}

-- the text of a list up to the last of these documents, without its closing bracket
abbrev pub list_front : List Data → List ℕ
list_front documents = 91 ∷ with_commas compact_text documents

-- what stands between so many documents and the next
abbrev pub separator : ℕ → List ℕ
separator count = if count == 0 then [] else 44 ∷ []
