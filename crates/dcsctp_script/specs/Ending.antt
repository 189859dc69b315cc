-- How a run ends.
use Rattle.std.specs.Prelude.{ℕ, List, [], ◌++◌, codes}
use Rattle.std.specs.Fmt.{decimal}
use Rattle.std.specs.declared.io.ErrorKind.{ErrorKind}
use Rattle.std.specs.declared.io.ErrorKind.TheVariants as kinds
use Rattle.dcsctp_script.specs.declared.failure.Status.{Status}
use Rattle.dcsctp_script.specs.declared.failure.Status.TheVariants as ends
use Rattle.dcsctp_script.specs.declared.failure.Failure.{Failure}
use Rattle.dcsctp_script.specs.declared.failure.Failure.TheVariants.{BadLine, OutOfMemory, Broken}

-- the exit status
abbrev pub exit_code : Status → ℕ
exit_code ends.Done = 0
exit_code ends.Broken = 1
exit_code ends.BadLine = 2
exit_code ends.OutOfMemory = 3

-- how a run ends that failed so
abbrev pub status_of : Failure → Status
status_of (BadLine number) = ends.BadLine
status_of OutOfMemory = ends.OutOfMemory
status_of Broken = ends.Broken

-- the last line that is printed then; 10 is the line feed
abbrev pub last_line : Failure → List ℕ
last_line (BadLine number) = codes "line " ++ decimal number ++ codes ": bad\n"
last_line OutOfMemory = codes "out of memory\n"
last_line Broken = []

-- how a run fails after a read with this error; out of memory is the library's error
abbrev pub failure_of : ErrorKind → Failure
failure_of kinds.OutOfMemory = OutOfMemory
failure_of _ = Broken
