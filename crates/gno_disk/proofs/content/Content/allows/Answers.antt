use Rattle.std.proofs.Common.{◌≡◌, subst, sym, refl, arith}
use Rattle.gno_disk.specs.Content.{ContentView}
use Rattle.gno_disk.specs.Images.{State, IsImage, fresh, after_all}
use Rattle.gno_disk.specs.Inside.{state_of}
use Rattle.gno_disk.proofs.content.Content.allows.Goals as goal

pub returns : goal.returns
returns c =
    let l = c.self.inside in
    let s = state_of l.bytes.items l.since in
    let tracked = subst (λ (v : ContentView). after_all (fresh v.first) v.steps ≡ s) c.self.view_is c.self.invariant.tracked in
    let past = c.loop-place-test.false in
    let image : IsImage s c.args.image.now = record {
      least = c.if-len-self.false;
      greatest = c.if-len-self-2.false;
      firm = λ place lt firm. c.loop-place.invariant place (omega (arith, past)) firm;
    } in
    (λ _. subst (λ (t : State). IsImage t c.args.image.now) (sym tracked) image, λ _. refl)
