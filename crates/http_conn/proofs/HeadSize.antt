-- A head within 16,384 bytes has no more header lines than there is room for.
use Rattle.std.proofs.Common.{◌≡◌, ℕ, ◌+◌, ◌*◌, ◌<◌, ◌≤◌, List, [], ◌∷◌, ◌++◌, length, length-append, arith, ap}
use Rattle.std.specs.List.{flat_map, AllByRecursion}
use Rattle.std.proofs.lemmas.List.Elements.{recursion_from_All}
use Rattle.httparse.specs.Grammar.{RequestHead, IsRequestHead, print_request, Field, IsField, print_field, print_section, LineEnd, crlf, lf, print_end, ReadsRequest}
use Rattle.httparse.specs.Spans.{RequestExceeds}

end_size : (e : LineEnd) → 1 ≤ length (print_end e)
end_size crlf = omega arith
end_size lf = omega arith

field_size : (f : Field) → IsField f → 3 ≤ length (print_field f)
field_size f h =
    let e : 1 ≤ length (print_end f.end) = end_size f.end in
    let n : 0 < length f.name = h.name.0 in
    omega (arith, length-append {A = ℕ})

fields_size : (fs : List Field) → AllByRecursion IsField fs → 3 * length fs ≤ length (flat_map print_field fs)
fields_size [] h = omega arith
fields_size (f ∷ fs) h =
    let a = field_size f h.0 in
    let b = fields_size fs h.1 in
    omega (arith, length-append (print_field f) (flat_map print_field fs))

-- a head takes at least 14 bytes, and 3 for each header line
head_size : (h : RequestHead) → IsRequestHead h → 3 * length h.fields + 14 ≤ length (print_request h)
unfolding print_request
head_size h ok =
    let section : List ℕ = print_section h.fields h.last in
    let fields : 3 * length h.fields ≤ length (flat_map print_field h.fields) = fields_size h.fields (recursion_from_All _ _ ok.fields) in
    let last : 1 ≤ length (print_end h.last) = end_size h.last in
    let line : 1 ≤ length (print_end h.line_end) = end_size h.line_end in
    let m : 0 < length h.method = ok.method.0 in
    let t : 0 < length h.target = ok.target.0 in
    omega (arith, length-append {A = ℕ})

pub few_lines : (buf : List ℕ) (room : ℕ) → length buf ≤ 16384 → room ≡ 5462 → RequestExceeds room buf → ⊥
few_lines buf room few is x =
    let front : List ℕ = x.0 in
    let rest : List ℕ = x.1 in
    let cut : buf ≡ front ++ rest = x.2 in
    let h : RequestHead = x.3 in
    let reads : ReadsRequest (front ++ print_end lf) h [] = x.4 in
    let many : room < length h.fields = x.5 in
    let large : 3 * length h.fields + 14 ≤ length (print_request h) = head_size h reads.0 in
    let whole : length (front ++ print_end lf) ≡ length (print_request h ++ []) = ap length reads.1 in
    let a = length-append front (print_end lf) in
    let b = length-append (print_request h) [] in
    let c : length buf ≡ length (front ++ rest) = ap length cut in
    let d = length-append front rest in
    omega arith
