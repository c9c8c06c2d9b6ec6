-- Why a reading of a known number of bytes ended before.
use Rattle.http_conn.specs.declared.head.HeadEnd.{HeadEnd}
use Rattle.http_conn.specs.declared.head.HeadEnd.TheVariants.{End, Cut, BadHead, HeadTooLarge, Coding, NoLength, BodyTooLarge, TooMuch, ReadFault, Memory}

-- the fact that an end comes with: the source is at its end, as many bytes came as may, it failed
abbrev pub IsEndOf : HeadEnd → Type 0 → Type 0 → Type 0 → Type 0
IsEndOf End at_end most failed = ⊥
IsEndOf Cut at_end most failed = at_end
IsEndOf BadHead at_end most failed = ⊥
IsEndOf HeadTooLarge at_end most failed = ⊥
IsEndOf Coding at_end most failed = ⊥
IsEndOf NoLength at_end most failed = ⊥
IsEndOf BodyTooLarge at_end most failed = ⊥
IsEndOf TooMuch at_end most failed = most
IsEndOf ReadFault at_end most failed = failed
IsEndOf Memory at_end most failed = ⊥
