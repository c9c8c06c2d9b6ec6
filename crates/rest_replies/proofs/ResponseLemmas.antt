-- The pieces of a response are its text.
use Rattle.std.proofs.Common.{◌≡◌, ◌==◌, not, ℕ, Bool, true, false, if◌then◌else◌, List, [], ◌∷◌, ◌++◌, length, Result, Ok, Err, OnOk, codes, ap, ◌∙◌, append_assoc, append-nil}
use Rattle.std.specs.List.{flat_map}
use Rattle.std.specs.Fmt.{decimal}
use Rattle.rest_replies.specs.declared.status.HttpStatus.{HttpStatus}
use Rattle.rest_replies.specs.Response.{has_allow, has_length, head_lines, head_text, line_if}
use Rattle.rest_replies.specs.Status.{line_end, status_line}

-- pieces that are there or not, each group of them a line
grouped : (a b c d : Bool) (e first p q allow t l digits sent : List ℕ) →
    (first ++ e)
    ++ ((if a then p ++ e else [])
    ++ ((if b then q else []) ++ ((if b then allow else []) ++ ((if b then e else [])
    ++ ((if c then t ++ e else [])
    ++ ((if d then l else []) ++ ((if d then digits else []) ++ ((if d then e else [])
    ++ (e ++ (sent ++ []))))))))))
    ≡ (flat_map (λ line. line ++ e) (first ∷ (line_if a p ++ line_if b (q ++ allow) ++ line_if c t ++ line_if d (l ++ digits))) ++ e) ++ sent
grouped true true true true e first p q allow t l digits sent = simp (append_assoc, append-nil)
grouped true true true false e first p q allow t l digits sent = simp (append_assoc, append-nil)
grouped true true false true e first p q allow t l digits sent = simp (append_assoc, append-nil)
grouped true true false false e first p q allow t l digits sent = simp (append_assoc, append-nil)
grouped true false true true e first p q allow t l digits sent = simp (append_assoc, append-nil)
grouped true false true false e first p q allow t l digits sent = simp (append_assoc, append-nil)
grouped true false false true e first p q allow t l digits sent = simp (append_assoc, append-nil)
grouped true false false false e first p q allow t l digits sent = simp (append_assoc, append-nil)
grouped false true true true e first p q allow t l digits sent = simp (append_assoc, append-nil)
grouped false true true false e first p q allow t l digits sent = simp (append_assoc, append-nil)
grouped false true false true e first p q allow t l digits sent = simp (append_assoc, append-nil)
grouped false true false false e first p q allow t l digits sent = simp (append_assoc, append-nil)
grouped false false true true e first p q allow t l digits sent = simp (append_assoc, append-nil)
grouped false false true false e first p q allow t l digits sent = simp (append_assoc, append-nil)
grouped false false false true e first p q allow t l digits sent = simp (append_assoc, append-nil)
grouped false false false false e first p q allow t l digits sent = simp (append_assoc, append-nil)

-- the pieces of a response, as they are written
abbrev pub pieces_of : Bool → HttpStatus → List ℕ → List ℕ → List ℕ
pieces_of close status allow sent =
    (status_line status ++ line_end)
    ++ ((if close then codes "Connection: close\r\n" else [])
    ++ ((if has_allow status then codes "Allow: " else []) ++ ((if has_allow status then allow else []) ++ ((if has_allow status then codes "\r\n" else [])
    ++ ((if not (length sent == 0) then codes "Content-Type: application/json\r\n" else [])
    ++ ((if has_length status then codes "Content-Length: " else []) ++ ((if has_length status then decimal (length sent) else []) ++ ((if has_length status then codes "\r\n" else [])
    ++ (codes "\r\n" ++ (sent ++ []))))))))))

pub response-pieces : (close : Bool) (status : HttpStatus) (allow sent : List ℕ) → pieces_of close status allow sent ≡ head_text (head_lines close status allow sent) ++ sent
response-pieces close status allow sent =
    grouped close (has_allow status) (not (length sent == 0)) (has_length status) line_end (status_line status) (codes "Connection: close") (codes "Allow: ") allow (codes "Content-Type: application/json") (codes "Content-Length: ") (decimal (length sent)) sent

-- what is appended is a text that the pieces come to
pub appended-as : {E : Type 0} (r : Result (Unit {0}) E) (old new pieces text : List ℕ) → OnOk r (new ≡ old ++ pieces) → pieces ≡ text → OnOk r (new ≡ old ++ text)
appended-as (Ok x) old new pieces text h e = h ∙ ap (λ t. old ++ t) e
appended-as (Err x) old new pieces text h e = tt

-- pieces that are the same come to the same
pub both_same : {a b x y : List ℕ} → a ≡ b → x ≡ y → a ++ x ≡ b ++ y
both_same e f = cc

-- a piece that isn't always there
pub when_same : {v w : Bool} {piece x y : List ℕ} → piece ≡ (if v then x else []) → v ≡ w → x ≡ y → piece ≡ (if w then y else [])
when_same e f g = cc
