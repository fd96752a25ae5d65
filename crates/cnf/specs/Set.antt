-- The set that an argument names, and the head line's count of variables.
use Rattle.std.specs.Prelude.{ℕ, ◌-◌, ◌≡◌, ◌&&◌, List, length, get_or, leb, eqb}
use Rattle.base.specs.Pick.{pick}
use Rattle.rules.specs.Head.{base_limits}
use Rattle.rules.specs.Formula.{Formula}
use Rattle.rules.specs.Sheet.{Sheet}
use Rattle.rules.specs.Certificate.{Which.keep}
use Rattle.rules.specs.Clauses.{clause_set, variables}
use Rattle.rules.specs.Verdict.{Translation.written}
use Rattle.files.specs.Files.{base_bounds, translate_files}

-- one byte, `1` to `3`; any other name is that of set 0, which is not there
unfoldable pub set_named : List ℕ → ℕ
set_named name = pick (eqb (length name) 1 && leb 49 (get_or name 0 0) && leb (get_or name 0 0) 51) (get_or name 0 0 - 48) 0

-- where set 2 is written, the count is that of all variables of the sheet and the invariant
abbrev pub CountsVariables : List ℕ → List ℕ → ℕ → ℕ → Type 0
CountsVariables s c room n =
    (t : Sheet) (inv : Formula) → translate_files base_limits base_bounds 2 s c room ≡ written (clause_set t inv keep) → n ≡ variables t inv
