-- What the program writes for two files' bytes.
use Rattle.std.specs.Prelude.{ℕ, List}
use Rattle.rules.specs.Head.{base_limits}
use Rattle.files.specs.Files.{base_bounds, judge_files}
use Rattle.line.specs.Line.{line_of}

-- the line of the verdict, which is judged in a workspace of 32,768 places
abbrev pub verdict_line : List ℕ → List ℕ → List ℕ
verdict_line s c = line_of (judge_files base_limits base_bounds s c 32768)
