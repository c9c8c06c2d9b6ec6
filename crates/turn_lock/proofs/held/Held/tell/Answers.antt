use Rattle.std.proofs.Common.{length, rules, arith, sym, ap, subst}
use Rattle.turn_lock.specs.History.{entries_in}
use Rattle.turn_lock.proofs.Steps.{raises_list}
use Rattle.turn_lock.proofs.held.Held.tell.Goals as goal

pub fetch_add-requires : goal.fetch_add-requires
fetch_add-requires g c =
    let es = c.requires.told in
    let list = ap (λ h. h.pass.seen) c.self.view_is in (
      search rules,
      search rules,
      raises_list _ g.M.Told.told _ _ c.args.entries _ es.0 c.self.invariant.live c.self.invariant.holds es.1
          (omega (arith, ap length list, c.requires.room)) (subst (λ l. g.M.Told.told (entries_in l) es.0) (sym list) es.2),
    )
