-- The lines of a script.
use Rattle.std.specs.Prelude.{◌≡◌, ◌≢◌, ℕ, Bool, true, false, ◌==◌, ◌⊎◌, List, [], ◌∷◌, ◌++◌, All, codes}
use Rattle.rest_replies.specs.declared.script.ScriptLine.{ScriptLine}
use Rattle.rest_replies.specs.declared.script.ScriptLine.TheVariants.{Nothing, Work, Request, Bad}

-- what a line asks for: nothing, that the posts that wait are processed, a request
pub data LineMeaning : Type 0 where
  nothing : LineMeaning
  work : LineMeaning
  request : List ℕ → List ℕ → List ℕ → LineMeaning

-- the text begins with `#`
abbrev pub is_comment : List ℕ → Bool
is_comment [] = false
is_comment (b ∷ rest) = b == 35

-- the byte is a space
abbrev pub is_space : ℕ → Bool
is_space b = b == 32

-- what may be a method or a target: some bytes, none of them a space
pub record IsScriptWord (text : List ℕ) : Type 0 where
  pub some : text ≢ []
  pub no_space : All (λ b. b ≢ 32) text

-- a method, a space and a target, and then nothing, which is an empty body, or a space and the body
pub data IsRequestLine (line method target body : List ℕ) : Type 0 where
  alone : line ≡ method ++ (codes " " ++ target) → body ≡ [] → IsRequestLine line method target body
  with_body : line ≡ method ++ (codes " " ++ (target ++ (codes " " ++ body))) → IsRequestLine line method target body

-- what a line asks for that is a request
pub record IsRequest (line method target body : List ℕ) : Type 0 where
  pub no_comment : is_comment line ≡ false
  pub is_method : IsScriptWord method
  pub is_target : IsScriptWord target
  pub parts : IsRequestLine line method target body

-- which line asks for what: an empty one and a comment for nothing
abbrev pub Means : List ℕ → LineMeaning → Type 0
Means line nothing = (line ≡ []) ⊎ (is_comment line ≡ true)
Means line work = line ≡ codes "WORK"
Means line (request method target body) = IsRequest line method target body

-- what is read is what the line asks for; a bad line asks for nothing that there is
abbrev pub ReadsLine : List ℕ → ScriptLine → Type 0
ReadsLine line Nothing = Means line nothing
ReadsLine line Work = Means line work
ReadsLine line (Request method target body) = Means line (request method.now target.now body.now)
ReadsLine line Bad = (meaning : LineMeaning) → Means line meaning → ⊥

-- the text cut at its first space
pub record IsCut (text front rest : List ℕ) : Type 0 where
  pub no_space : All (λ b. b ≢ 32) front
  pub whole : text ≡ front ++ (codes " " ++ rest)

-- a text's target and body: cut at its first space, or all of it and nothing
pub data IsTargetAndBody (text target body : List ℕ) : Type 0 where
  uncut : All (λ b. b ≢ 32) text → target ≡ text → body ≡ [] → IsTargetAndBody text target body
  cut : IsCut text target body → IsTargetAndBody text target body
