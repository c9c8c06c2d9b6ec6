-- The numbers and the lines of statuses.
use Rattle.std.specs.Prelude.{ℕ, List, [], ◌++◌, codes}
use Rattle.std.specs.Fmt.{decimal}
use Rattle.command_line.specs.declared.status.Status.{Status}
use Rattle.command_line.specs.declared.status.Status.TheVariants.{Done, Usage, Input, Read, Write, Disk, Damaged, Memory, Thread, Listen, Exists, TooMuch, Spent}

-- the number of a status
abbrev pub status_number : Status → ℕ
status_number Done = 0
status_number Usage = 2
status_number Input = 3
status_number Read = 4
status_number Write = 5
status_number Disk = 6
status_number (Damaged disk at) = 7
status_number Memory = 8
status_number Thread = 9
status_number Listen = 10
status_number Exists = 11
status_number TooMuch = 12
status_number (Spent _ at) = 13

-- the line with this text
abbrev pub line_of : List ℕ → List ℕ
line_of text = codes "gnocchi: " ++ (text ++ codes "\n")

-- what standard error shows of a status: a line, or nothing where the run is done
abbrev pub status_line : Status → List ℕ
status_line Done = []
status_line Usage = line_of (codes "usage")
status_line Input = line_of (codes "input")
status_line Read = line_of (codes "read fault")
status_line Write = line_of (codes "write fault")
status_line Disk = line_of (codes "disk fault")
status_line (Damaged disk at) = line_of (codes "damaged " ++ (decimal disk ++ (codes " at " ++ decimal at)))
status_line Memory = line_of (codes "memory")
status_line Thread = line_of (codes "no thread")
status_line Listen = line_of (codes "listener fault")
status_line Exists = line_of (codes "store exists")
status_line TooMuch = line_of (codes "too much input")
status_line (Spent _ at) = line_of (codes "spent")
