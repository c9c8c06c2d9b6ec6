use Rattle.std.proofs.Common.{◌++◌, [], ◌∷◌, ap, ◌∙◌}
use Rattle.uuid.specs.Text.{hyphenated_text, lower}
use Rattle.control_docs.specs.Documents.{id_text}
use Rattle.control_docs.proofs.AppendLemmas.{appended3}
use Rattle.control_docs.proofs.texts.push_id.Goals as goal

pub returns : goal.returns
returns c =
    let spelled = c.as_bytes.ensures.value ∙ c.encode_lower-spelled.ensures.text ∙ ap (hyphenated_text lower) (c.hyphenated.ensures ∙ c.from_u128.ensures) in
    appended3 c.args.text.now.items (34 ∷ []) (id_text c.args.id) (34 ∷ []) c.in_ok-push.ensures.items (c.in_ok-extend_from_slice.ensures.items ∙ ap (λ t. c.push.new.self.items ++ t) spelled) c.in_ok-push-2.ensures.items
