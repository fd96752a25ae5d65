-- A formula's records at a place of bytes, and what it is to have written its clauses.
use Rattle.std.specs.Prelude.{ℕ, ◌+◌, ◌*◌, ◌/◌, ◌≤◌, ◌<◌, ◌≡◌, Bool, false, List, ◌++◌, length, get_or, drop}
use Rattle.rules.specs.Record.{one_of}
use Rattle.rules.specs.Formula.{Formula, size}
use Rattle.rules.specs.ReadFormula.{Bounds, formula_kinds}
use Rattle.rules.specs.WriteSheet.{write_formula, Fits}
use Rattle.rules.specs.Clauses.{Clause, top, defining}
use Rattle.clauses.specs.declared.Wrote.{Wrote}
use Rattle.clauses.specs.Emits.{emits, signed}
use Rattle.clauses.specs.Stack.{vars_of}

-- a byte that no formula record has as its kind
abbrev pub Closes : List ℕ → Type 0
Closes rest = one_of formula_kinds (get_or rest 0 0) ≡ false

-- inputs and coils up to these bounds have variables whose literals fit 16 bits, and the stack is as high as they say
pub record Mapped (map : List ℕ) (base : ℕ) (stack : List ℕ) (b : Bounds) : Type 0 where
  pub inputs_fit : base + b.inputs ≤ 32768
  pub coils_fit : b.coils ≤ length map
  pub deep : b.depth ≤ length stack
  pub small : (j : ℕ) → get_or map j 0 < 32768

-- from place `at` on the bytes are those of f, then a byte that closes it; its first record has variable g, its first clause number n
pub record Formed (s : List ℕ) (at : ℕ) (map : List ℕ) (base g : ℕ) (stack : List ℕ) (n : ℕ) (b : Bounds) (f : Formula) (rest : List ℕ) : Type 0 where
  pub bytes : drop at s ≡ write_formula f ++ rest
  pub closes : Closes rest
  pub fits : Fits b f
  pub mapped : Mapped map base stack b
  pub numbered : g + size f ≤ 32768
  pub few : n + 3 * size f < 9223372036854775808

-- there is such a formula
pub record FormulaAt (s : List ℕ) (at : ℕ) (map : List ℕ) (base g : ℕ) (stack : List ℕ) (n : ℕ) : Type 0 where
  pub bounds : Bounds
  pub formula : Formula
  pub rest : List ℕ
  pub formed : Formed s at map base g stack n bounds formula rest

-- so many bytes were read, with so many records, and these clauses written
pub record Written (at g n bytes records : ℕ) (cs : List Clause) (out out' : List ℕ) (r : Wrote) : Type 0 where
  pub at_is : r.at ≡ at + bytes
  pub g_is : r.g ≡ g + records
  pub n_is : r.n ≡ n + length cs
  pub out_is : out' ≡ emits out n cs

-- whatever formula stands there, its clauses were written
pub record FormulaWritten (s : List ℕ) (at : ℕ) (map : List ℕ) (base g : ℕ) (stack out : List ℕ) (n : ℕ) (out' : List ℕ) (r : Wrote) : Type 0 where
  pub of : (b : Bounds) (f : Formula) (rest : List ℕ) → Formed s at map base g stack n b f rest
      → Written at g n (length (write_formula f)) (size f) (defining (vars_of map base) g f) out out' r

-- the same with the unit clause of its top after them
pub record TopWritten (on : Bool) (s : List ℕ) (at : ℕ) (map : List ℕ) (base g : ℕ) (stack out : List ℕ) (n : ℕ) (out' : List ℕ) (r : Wrote) : Type 0 where
  pub of : (b : Bounds) (f : Formula) (rest : List ℕ) → Formed s at map base g stack n b f rest
      → Written at g n (length (write_formula f)) (size f) (defining (vars_of map base) g f ++ signed on (top g f)) out out' r

-- nothing was written, and the answer is the variable after its records
pub record FormulaPassed (s : List ℕ) (at : ℕ) (map : List ℕ) (base g : ℕ) (stack out out' : List ℕ) (r : ℕ) : Type 0 where
  pub same : out' ≡ out
  pub of : (b : Bounds) (f : Formula) (rest : List ℕ) → Formed s at map base g stack (length out / 3) b f rest → r ≡ g + size f
