-- The line for two files' bytes.
-- Assumes nothing.
use Prim.Native.Nat.{ℕ}
use mathlib.Core.Path.{◌≡◌, subst, ap, ◌∙◌}
use mathlib.Core.List.{List}
use lib.ListN.{length}
use Rattle.rules.specs.Head.{base_limits}
use Rattle.rules.specs.Verdict.{answer_of}
use Rattle.std.specs.Prelude.{Result}
use Rattle.rules.specs.declared.Answer.{Answer}
use Rattle.rules.specs.declared.refusals.Refusal.{Refusal}
use Rattle.files.specs.Files.{base_bounds, judge_files, Judged}
use Rattle.line.specs.Line.{line_of}
use Rattle.writing.specs.Room.{Lined}
use Rattle.gustvane.specs.Program.{verdict_line}

pub verdict : (s c w w' out out' : List ℕ) (a : Result Answer Refusal) (r : ℕ) → length w ≡ 32768
    → Judged base_limits base_bounds s c w w' a → Lined (line_of (answer_of a)) out out' r → Lined (verdict_line s c) out out' r
verdict s c w w' out out' a r e j l =
    let x : answer_of a ≡ judge_files base_limits base_bounds s c 32768 = j.answered ∙ ap (judge_files base_limits base_bounds s c) e in
    subst (λ v. Lined (line_of v) out out' r) x l
