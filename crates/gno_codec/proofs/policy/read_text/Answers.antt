use Rattle.gno_codec.proofs.Policies.{text_read}
use Rattle.gno_codec.proofs.policy.read_text.Goals as goal

pub returns-in-Ok : goal.returns-in-Ok
returns-in-Ok c =
    text_read c.from.result c.args.len c.args.reader.now c.in_ok-text.text.now c.in-Ok.name c.bytes.new.self c.from.ensures c.in_ok-text.ensures.read c.in-Ok.ensures.ok.0 c.in-Ok.ensures.ok.1
