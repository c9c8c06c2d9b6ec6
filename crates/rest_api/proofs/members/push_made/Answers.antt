use Rattle.rest_api.proofs.ListLemmas.{one_made}
use Rattle.rest_api.proofs.members.push_made.Goals as goal

pub returns-in_ok-push_metric-in-len1-up : goal.returns-in_ok-push_metric-in-len1-up
returns-in_ok-push_metric-in-len1-up c =
    one_made c.args.docs.now c.first-item.result c.args.count c.args.text.now.items c.push_metric.new.text.items c.in-len1-up.len_at_least c.first-item.is c.in_ok-push_metric-in-len1-up.ensures
