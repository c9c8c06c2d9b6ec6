use Rattle.std.proofs.Common.{◌++◌, reverse, ap, ◌∙◌, arith}
use Rattle.front.specs.SoloView.{disks_of_sacks}
use Rattle.front.proofs.Backs.{all_put, many_more, put_more, wide_still}
use Rattle.front.proofs.back.put_sacks.Goals as goal

pub sacks-preserved : goal.sacks-preserved
sacks-preserved g c = record {
  all = ap (λ l. l ++ reverse (disks_of_sacks c.pop.new.self.items)) c.put_sack.ensures.put
      ∙ put_more c.sacks.disks.items c.sacks.sacks.items c.pop.new.self.items c.in-Some.sack c.into_disks.result c.in-Some.ensures.items c.into_disks.ensures ∙ c.sacks.invariant.all;
  many = many_more _ _ _ _ _ c.put_sack.ensures.more c.sacks.invariant.many c.in-Some.ensures.cases;
  wide = wide_still _ _ _ c.sacks.invariant.wide c.put_sack.ensures.room;
}

pub returns-clause-put : goal.returns-clause-put
returns-clause-put g c = all_put c.sacks.disks.items _ c.sacks.sacks.items c.sacks.invariant.all (let e = c.in_default.ensures.cases.0 in let k = c.sacks.sacks.ok.0 in omega (arith, e, k))
