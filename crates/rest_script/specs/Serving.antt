-- A script from its first byte to its end.
use Rattle.std.specs.Prelude.{◌≡◌, ℕ, ◌+◌, List, [], ◌++◌, length, Option}
use Rattle.std.specs.List.{All, flat_map}
use Rattle.std.specs.Io.KnownBytes.{Appends, Consumes}
use Rattle.front_api.specs.Seen.{LeadsTo, SeenBooks}
use Rattle.http_conn.specs.Bytes.{GivesOut, Held}
use Rattle.rest_script.specs.Lines.{BeginsWithLine, EndsBehind, IsLine, ended}
use Rattle.rest_script.specs.Replying.{AnswersLines, Replies}
use Rattle.rest_script.specs.declared.script_end.ScriptEnd.{ScriptEnd}
use Rattle.rest_script.specs.declared.script_end.ScriptEnd.TheVariants.{Ended, TooLong, Cut, TooMuch, ReadFault, WriteFault, Memory}

-- the first bytes of the reply to the line at the front of these
pub record WritesFrontOfReply (behind text : List ℕ) (old new : SeenBooks) : Type 0 where
  pub line : List ℕ
  pub more : List ℕ
  pub begins : BeginsWithLine behind line
  pub replies : Replies line (text ++ more) old new

-- nothing is done, and nothing is written
abbrev pub WritesNothing : List ℕ → SeenBooks → SeenBooks → Type 0
WritesNothing text old new = (text ≡ []) × (new ≡ old)

-- What was done and written for the bytes behind the lines whose replies were written: nothing, but where the sink failed
-- the next line was answered, and only the first bytes of its reply were written.
abbrev pub WritesBehind : ScriptEnd → List ℕ → List ℕ → SeenBooks → SeenBooks → Type 0
WritesBehind Ended behind text old new = WritesNothing text old new
WritesBehind TooLong behind text old new = WritesNothing text old new
WritesBehind Cut behind text old new = WritesNothing text old new
WritesBehind TooMuch behind text old new = WritesNothing text old new
WritesBehind ReadFault behind text old new = WritesNothing text old new
WritesBehind WriteFault behind text old new = WritesFrontOfReply behind text old new
WritesBehind Memory behind text old new = WritesNothing text old new

-- the lines, which were answered, and what was done and written for the bytes behind them
pub record Transcribes (lines : List (List ℕ)) (behind : List ℕ) (end : ScriptEnd) (answered last : List ℕ) (old new : SeenBooks) : Type 0 where
  pub mid : SeenBooks
  pub lines_are : AnswersLines lines answered old mid
  pub rest : WritesBehind end behind last mid new

-- A script from its first byte to its end: the bytes taken are lines, each with its end, and then others; the replies to the
-- lines were written in order, and where the sink failed, the first bytes of the next one.
pub record ServesScript {F : Type 0} (stands : F → SeenBooks → Type 0) (old new : F) (left_before left_after taken_before taken_after : Option (List ℕ)) (end : ScriptEnd) : Type 0 where
  pub input : List ℕ
  pub lines : List (List ℕ)
  pub behind : List ℕ
  pub answered : List ℕ
  pub last : List ℕ
  pub from_source : Consumes left_before left_after input
  pub whole : input ≡ flat_map ended lines ++ behind
  pub each : All IsLine lines
  pub ends : EndsBehind end (length input) behind left_after
  pub written : Appends taken_before taken_after (answered ++ last)
  pub leads : LeadsTo stands old new (Transcribes lines behind end answered last)

-- ---- one line more, or the end

-- a line was taken, and its reply was written
pub record ServesLine {F : Type 0} (stands : F → SeenBooks → Type 0) (old new : F) (before after : Held) (left_before left_after taken_before taken_after : Option (List ℕ)) : Type 0 where
  pub line : List ℕ
  pub reply : List ℕ
  pub is_line : IsLine line
  pub out : GivesOut before after left_before left_after (ended line)
  pub written : Appends taken_before taken_after reply
  pub leads : LeadsTo stands old new (Replies line reply)

-- no more lines are answered
pub record StopsScript {F : Type 0} (stands : F → SeenBooks → Type 0) (old new : F) (before after : Held) (left_before left_after taken_before taken_after : Option (List ℕ)) (end : ScriptEnd) : Type 0 where
  pub last : List ℕ
  pub out : GivesOut before after left_before left_after []
  pub ends : EndsBehind end (after.given + length after.bytes) after.bytes left_after
  pub written : Appends taken_before taken_after last
  pub leads : LeadsTo stands old new (WritesBehind end after.bytes last)

-- a line was answered, and its reply was written
pub record WritesReply {F : Type 0} (stands : F → SeenBooks → Type 0) (old new : F) (line : List ℕ) (taken_before taken_after : Option (List ℕ)) : Type 0 where
  pub reply : List ℕ
  pub written : Appends taken_before taken_after reply
  pub leads : LeadsTo stands old new (Replies line reply)

-- the sink failed, and only the first bytes of it were written
pub record WritesReplyFront {F : Type 0} (stands : F → SeenBooks → Type 0) (old new : F) (line : List ℕ) (taken_before taken_after : Option (List ℕ)) : Type 0 where
  pub text : List ℕ
  pub more : List ℕ
  pub written : Appends taken_before taken_after text
  pub leads : LeadsTo stands old new (Replies line (text ++ more))
