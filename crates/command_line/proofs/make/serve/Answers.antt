use Rattle.std.proofs.Common.{sym, ◌∙◌}
use Rattle.std.proofs.lemmas.Result.{err_from_is_err_and}
use Rattle.command_line.specs.declared.verb.Verb.TheVariants as verbs
use Rattle.command_line.specs.Command.{command_from, of_three}
use Rattle.command_line.specs.Given.{conns_in, home_in, listen_in, number_in, sacks_in, workers_in}
use Rattle.command_line.specs.Make.{site}
use Rattle.command_line.specs.Setting.{settings_of}
use Rattle.command_line.proofs.MakeLemmas.{failed, serve_all, serve_conns, serve_listen, serve_site, serve_workers}
use Rattle.command_line.proofs.make.serve.Goals as goal

pub returns-in_err-home : goal.returns-in_err-home
returns-in_err-home c =
    let s = settings_of c.args.chosen.now in
    let p = err_from_is_err_and c.from_residual.result c.from_residual.ensures.1 in
    rw (p.1, p.2) (failed (of_three site (home_in s) (sacks_in s) (number_in s)) (command_from verbs.Serve s) c.in_err-home.field-0.0
    (serve_site (home_in s) (sacks_in s) (number_in s) (listen_in s) (workers_in s) (conns_in s)) c.in_err-home.ensures)

pub returns-in_err-listen : goal.returns-in_err-listen
returns-in_err-listen c =
    let s = settings_of c.args.chosen.now in
    let p = err_from_is_err_and c.from_residual-in_err-listen.result c.from_residual-in_err-listen.ensures.1 in
    rw (p.1, p.2) (failed (listen_in s) (command_from verbs.Serve s) c.in_err-listen.field-0.0
    (serve_listen (home_in s) (sacks_in s) (number_in s) (listen_in s) (workers_in s) (conns_in s)) c.in_err-listen.ensures)

pub returns-in_default : goal.returns-in_default
returns-in_default c =
    let s = settings_of c.args.chosen.now in
    serve_workers (home_in s) (sacks_in s) (number_in s) (listen_in s) (workers_in s) (conns_in s) (sym c.workers_in.ensures ∙ c.in_default.is)

pub returns-in_default-conns_in : goal.returns-in_default-conns_in
returns-in_default-conns_in c =
    let s = settings_of c.args.chosen.now in
    serve_conns (home_in s) (sacks_in s) (number_in s) (listen_in s) (workers_in s) (conns_in s) (sym c.conns_in.ensures ∙ c.in_default-conns_in.is)

pub returns : goal.returns
returns c =
    let s = settings_of c.args.chosen.now in
    serve_all (home_in s) (sacks_in s) (number_in s) (listen_in s) (workers_in s) (conns_in s) _ c.in_ok-listen.listen c.in-Some.workers c.in-Some-conns_in.conns
    c.in_ok-home.ensures c.in_ok-listen.ensures (sym c.workers_in.ensures ∙ c.in-Some.is) (sym c.conns_in.ensures ∙ c.in-Some-conns_in.is)
