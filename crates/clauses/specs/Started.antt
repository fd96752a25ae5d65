-- The START records of a sheet, and what it is to have written the unit clauses of its start values.
use Rattle.std.specs.Prelude.{ℕ, ◌+◌, ◌≤◌, ◌<◌, ◌≡◌, false, ◌&&◌, List, ◌++◌, map, length, get_or, drop, eqb}
use Rattle.base.specs.Pick.{pick}
use Rattle.base.specs.Lists.{each}
use Rattle.rules.specs.Kind
use Rattle.rules.specs.Record.{number}
use Rattle.rules.specs.Sheet.{Start}
use Rattle.rules.specs.WriteSheet.{write_start, RisesFrom}
use Rattle.rules.specs.Clauses.{start_units}
use Rattle.clauses.specs.declared.starts.Begun.{Begun}
use Rattle.clauses.specs.Emits.{Emitted}

-- coil c's start value by the record at the front of bytes, which stand at place p
unfoldable pub start_at : List ℕ → ℕ → ℕ → Begun
start_at bs p c =
    pick (eqb (get_or bs 0 0) Kind.START && eqb (number bs 1) c)
    (record { on = eqb (get_or bs 3 0) 1; at = p + 4 })
    (record { on = false; at = p })

-- after HEAD the bytes are those of the STARTs ss, whose coils rise, then a byte of another kind
pub record Started (s : List ℕ) (coils : ℕ) (ss : List Start) (rest : List ℕ) : Type 0 where
  pub headed : 7 ≤ length s
  pub bytes : drop 7 s ≡ each write_start ss ++ rest
  pub ends : eqb (get_or rest 0 0) Kind.START ≡ false
  pub rises : RisesFrom 0 (map (λ (x : Start). x.coil) ss)
  pub few : coils < 32768

-- there are such STARTs
pub record StartsAt (s : List ℕ) (coils : ℕ) : Type 0 where
  pub starts : List Start
  pub rest : List ℕ
  pub started : Started s coils starts rest

-- whatever STARTs stand there, their unit clauses were written
pub record StartsWritten (s : List ℕ) (coils : ℕ) (out out' : List ℕ) (r : ℕ) : Type 0 where
  pub of : (ss : List Start) (rest : List ℕ) → Started s coils ss rest → Emitted out 0 (start_units ss 0 coils) out' r
