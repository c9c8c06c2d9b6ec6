use Rattle.std.proofs.Common.{◌≡◌, ◌+◌, ◌-◌, ◌≤◌, ℕ, ◌++◌, length, take, drop, arith, sym, subst, refl, length-take, length-drop}
use Rattle.std.specs.Io.KnownBytes.{Consumes}
use Rattle.std.proofs.KnownBytes.{Consumes-trans}
use Rattle.http_conn.proofs.WindowLemmas.{filled, length-patched}
use Rattle.http_conn.proofs.body.read_full.Goals as goal

pub pieces-preserved : goal.pieces-preserved
pieces-preserved g c =
    let out = c.pieces.out in
    let ys = c.take.new.out in
    let count = c.pieces.count in
    let came = c.in-Ok.came in
    let n : ℕ = count + c.min.result - count in
    let more = drop n (drop count out) in
    let len : length ys ≡ length (take n (drop count out)) = c.take.auto.out in
    let whole : length (take count out ++ (ys ++ more)) ≡ length out = length-patched out ys count n c.pieces.invariant.room len in
    let few : came ≤ length ys = omega (arith, c.in-Ok.ensures.count) in
    let bytes : take (count + came) (take count out ++ (ys ++ more)) ≡ take count out ++ take came ys = filled out ys more (take count out) count came c.pieces.invariant.room few refl in
    record {
      taken = subst (Consumes (g.S.Source.left c.args.source.now) (g.S.Source.left c.take.new.self)) (sym bytes)
          (Consumes-trans _ _ _ (take count out) (take came ys) c.pieces.invariant.taken c.in-Ok.ensures.bytes.0);
      room = omega (arith, whole, c.in-Ok.ensures.count, length-take n (drop count out), length-drop count out);
      most = omega (arith, c.in-Ok.ensures.count, length-take n (drop count out), length-drop count out);
      unread = λ none. absurd (omega (arith, whole));
      later = omega (arith, c.in-Ok.ensures.later);
    }
