-- Nothing is answered for want of memory.
use Rattle.std.proofs.Common.{ℕ, List, [], Option, refl}
use Rattle.std.proofs.KnownBytes.{Appends-nil, Consumes-nil}
use Rattle.std.proofs.lemmas.List.Elements.{All-nil}
use Rattle.front_api.specs.Seen.{SeenBooks}
use Rattle.http_conn.specs.declared.head.HeadEnd.TheVariants as heads
use Rattle.rest_api.specs.Message.{Converses, GoesOnBehind}
use Rattle.rest_api.specs.Session.{EndsSo, Serves}
use Rattle.rest_api.specs.declared.conn_end.ConnEnd.TheVariants as connections
use Rattle.rest_script.specs.Lines.{IsLine}
use Rattle.rest_script.specs.Replying.{AnswersLines}
use Rattle.rest_script.specs.Serving.{ServesScript}
use Rattle.rest_script.specs.declared.script_end.ScriptEnd.TheVariants as scripts

module _ {F : Type 0} (stands : F → SeenBooks → Type 0) where
  pub no_script : (front : F) (left taken : Option (List ℕ)) → ServesScript stands front front left left taken taken scripts.Memory
  no_script front left taken = record {
    input = [];
    lines = [];
    behind = [];
    answered = [];
    last = [];
    from_source = Consumes-nil left;
    whole = refl;
    each = All-nil IsLine;
    ends = refl;
    written = Appends-nil taken;
    leads = λ old is. (old, is, record { mid = old; lines_are = AnswersLines.nothing old; rest = (refl, refl) });
  }

  pub no_connection : (front : F) (left taken : Option (List ℕ)) → Serves stands front front left left taken taken connections.Memory
  no_connection front left taken = record {
    input = [];
    messages = [];
    behind = [];
    answered = [];
    last = [];
    from_source = Consumes-nil left;
    whole = refl;
    each = All-nil GoesOnBehind;
    written = Appends-nil taken;
    leads = λ old is. (old, is, record { mid = old; messages_are = Converses.nothing old; ends = EndsSo.no_head heads.Memory old refl tt });
  }
