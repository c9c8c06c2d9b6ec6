use Rattle.std.proofs.Common.{◌≡◌, ◌==◌, not, [], ◌++◌, length, decimal, refl, ap, ◌∙◌}
use Rattle.rest_replies.specs.Response.{body_sent, response_text}
use Rattle.rest_replies.proofs.ResponseLemmas.{appended-as, both_same, pieces_of, response-pieces, when_same}
use Rattle.rest_replies.proofs.response.write_response.Goals as goal

pub returns-clause-ok : goal.returns-clause-ok
returns-clause-ok c =
    let answer = c.args.answer.now in
    let sent = body_sent c.args.is_head answer.status answer.body.items in
    let written = c.always.result.now ++ (c.when.result.now ++ (c.when-2.result.now ++ (c.when-3.result.now ++ (c.when-4.result.now ++ (c.when-5.result.now ++ (c.when-6.result.now ++ (c.when-7.result.now ++ (c.when-8.result.now ++ (c.always-2.result.now ++ (c.always-3.result.now ++ [])))))))))) in
    let names = c.has_allow-names_methods.ensures in
    let tells = c.has_length-tells_length.ensures in
    let same : written ≡ pieces_of c.args.close answer.status answer.allow.now sent =
    both_same (c.always.ensures ∙ c.line.ensures)
    (both_same c.when.ensures
    (both_same (when_same c.when-2.ensures names refl)
    (both_same (when_same c.when-3.ensures names c.allow_of.ensures)
    (both_same (when_same c.when-4.ensures names refl)
    (both_same (when_same c.when-5.ensures (ap not (c.is_empty.ensures ∙ ap (λ t. length t == 0) c.body_sent-body.ensures)) refl)
    (both_same (when_same c.when-6.ensures tells refl)
    (both_same (when_same c.when-7.ensures tells (c.as_bytes.ensures.value ∙ c.format.ensures.text ∙ ap (λ t. decimal (length t)) c.body_sent-body.ensures))
    (both_same (when_same c.when-8.ensures tells refl)
    (both_same c.always-2.ensures
    (ap (λ t. t ++ []) (c.always-3.ensures ∙ c.body_sent-body.ensures)))))))))))
    in
    appended-as c.append_all.result c.args.out.now.items c.append_all.new.out.items written (response_text c.args.is_head c.args.close answer.status answer.allow.now answer.body.items) c.append_all.ensures.ok (same ∙ response-pieces c.args.close answer.status answer.allow.now sent)
