-- The records of rungs at a place of bytes, and what it is to have written their clauses.
use Rattle.std.specs.Prelude.{ℕ, ◌+◌, ◌*◌, ◌≤◌, ◌<◌, ◌≡◌, List, ◌++◌, length, get_or, drop}
use Rattle.base.specs.Lists.{All, each}
use Rattle.rules.specs.Sheet.{Rung}
use Rattle.rules.specs.ReadFormula.{Bounds}
use Rattle.rules.specs.WriteSheet.{write_rung, sizes, Fits}
use Rattle.rules.specs.Clauses.{rung_clauses, after_rungs}
use Rattle.records.specs.Found.{number_at}
use Rattle.clauses.specs.declared.Wrote.{Wrote}
use Rattle.clauses.specs.Stack.{vars_of}
use Rattle.clauses.specs.Formed.{Mapped, Written}

-- the RUNG record at a place names a coil that the map has
pub record CoilAt (s : List ℕ) (at : ℕ) (map : List ℕ) : Type 0 where
  pub within : number_at s at 1 < length map

-- from place `at` on the bytes are those of the rungs rs; their first record has variable g, their first clause number n
pub record Runged (s : List ℕ) (at rungs : ℕ) (map : List ℕ) (base g : ℕ) (stack : List ℕ) (n : ℕ) (b : Bounds) (rs : List Rung) (rest : List ℕ) : Type 0 where
  pub bytes : drop at s ≡ each write_rung rs ++ rest
  pub counted : length rs ≡ rungs
  pub fits : All (λ (r : Rung). Fits b r.formula) rs
  pub named : All (λ (r : Rung). r.coil < b.coils) rs
  pub mapped : Mapped map base stack b
  pub numbered : g + sizes rs ≤ 32768
  pub few : n + 3 * sizes rs < 9223372036854775808

-- there are such rungs
pub record RungsAt (s : List ℕ) (at rungs : ℕ) (map : List ℕ) (base g : ℕ) (stack : List ℕ) (n : ℕ) : Type 0 where
  pub bounds : Bounds
  pub rungs_are : List Rung
  pub rest : List ℕ
  pub runged : Runged s at rungs map base g stack n bounds rungs_are rest

-- the clauses of rs were written, and the map has the coils' variables after them
pub record Closed (at : ℕ) (map : List ℕ) (base g n : ℕ) (rs : List Rung) (out map' out' : List ℕ) (r : Wrote) : Type 0 where
  pub written : Written at g n (length (each write_rung rs)) (sizes rs) (rung_clauses (vars_of map base) g rs) out out' r
  pub after : vars_of map' base ≡ after_rungs (vars_of map base) g rs
  pub small : (j : ℕ) → get_or map' j 0 < 32768

-- whatever rungs stand there, their clauses were written
pub record RungsWritten (s : List ℕ) (at rungs : ℕ) (map : List ℕ) (base g : ℕ) (stack out : List ℕ) (n : ℕ) (map' out' : List ℕ) (r : Wrote) : Type 0 where
  pub of : (b : Bounds) (rs : List Rung) (rest : List ℕ) → Runged s at rungs map base g stack n b rs rest → Closed at map base g n rs out map' out' r
