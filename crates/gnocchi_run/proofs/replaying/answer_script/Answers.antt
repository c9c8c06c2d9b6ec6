use Rattle.std.proofs.Common.{List, ℕ, Option, refl, subst}
use Rattle.gnocchi_run.proofs.Starved.{no_script}
use Rattle.rest_script.specs.declared.script_end.ScriptEnd.TheVariants as scripts
use Rattle.rest_script.specs.Serving.{ServesScript}
use Rattle.gnocchi_run.proofs.Complete.{done_or_starved, refused_or_starved}
use Rattle.gnocchi_run.proofs.replaying.answer_script.Goals as goal

pub returns-in_default-clause-answers : goal.returns-in_default-clause-answers
returns-in_default-clause-answers g c = record {
  end = scripts.Memory;
  status_is = refl;
  serves = no_script g.F.Histories.stands c.args.front.now (g.S.Source.left c.args.source.now) (g.K.Sink.taken c.args.sink.now);
}

pub returns-clause-answers : goal.returns-clause-answers
returns-clause-answers g c = record { end = c.serve_script.result; status_is = c.status_of_script.ensures.value; serves = c.serve_script.ensures.serves }

pub returns-clause-complete : goal.returns-clause-complete
returns-clause-complete g c input lines left whole short un =
    done_or_starved c.serve_script.result c.status_of_script.result c.status_of_script.ensures.value un
    (c.whole_scripts_are_answered.ensures.complete c.args.front.now c.serve_script.new.front input lines (g.S.Source.left c.serve_script.new.source) (g.K.Sink.taken c.args.sink.now) (g.K.Sink.taken c.serve_script.new.sink) c.serve_script.result
    (subst (λ (l : Option (List ℕ)). ServesScript g.F.Histories.stands c.args.front.now c.serve_script.new.front l (g.S.Source.left c.serve_script.new.source) (g.K.Sink.taken c.args.sink.now) (g.K.Sink.taken c.serve_script.new.sink) c.serve_script.result)
    left c.serve_script.ensures.serves) whole short)

pub returns-clause-refused : goal.returns-clause-refused
returns-clause-refused g c input lines left whole short un =
    refused_or_starved c.serve_script.result c.status_of_script.result c.status_of_script.ensures.value un
    (c.whole_scripts_are_answered.ensures.refused c.args.front.now c.serve_script.new.front input lines (g.S.Source.left c.serve_script.new.source) (g.K.Sink.taken c.args.sink.now) (g.K.Sink.taken c.serve_script.new.sink) c.serve_script.result
    (subst (λ (l : Option (List ℕ)). ServesScript g.F.Histories.stands c.args.front.now c.serve_script.new.front l (g.S.Source.left c.serve_script.new.source) (g.K.Sink.taken c.args.sink.now) (g.K.Sink.taken c.serve_script.new.sink) c.serve_script.result)
    left c.serve_script.ensures.serves) whole short)
