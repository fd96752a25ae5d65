-- What evaluating a formula's bytes promises.
use Rattle.std.specs.Prelude.{ℕ, ◌+◌, ◌-◌, ◌≤◌, ◌<◌, ◌≡◌, false, List, ◌++◌, length, get_or, drop}
use Rattle.rules.specs.Record.{one_of}
use Rattle.rules.specs.Formula.{Leaf.input, Leaf.coil, Leaf.constant, Formula, Entry, Entry.put, Entry.NOT, Entry.AND, Entry.OR, value}
use Rattle.rules.specs.ReadFormula.{Bounds, formula_kinds, arity}
use Rattle.rules.specs.WriteSheet.{write_formula, Fits}
use Rattle.formulas.specs.Part.{entry_for}
use Rattle.formulas.specs.declared.Part.{Part}
use Rattle.formulas.specs.declared.Part.TheVariants.{Closing}
use Rattle.ladder.specs.declared.Evaluated.{Evaluated}
use Rattle.ladder.specs.Values.{on, values, act}

-- a record's contact is among the lent places
unfoldable pub Named : Bounds → Entry → Type 0
Named b (put (input n)) = n < b.inputs
Named b (put (coil n)) = n < b.coils
Named b (put (constant c)) = Unit {0}
Named b NOT = Unit {0}
Named b AND = Unit {0}
Named b OR = Unit {0}

-- a formula record that can be applied to a stack of d values
pub record Fitting (b : Bounds) (e : Entry) (d : ℕ) : Type 0 where
  pub enough : arity e ≤ d
  pub room : d - arity e < b.depth
  pub named : Named b e

pub record Applicable (part : Part) (inputs coils depth d : ℕ) : Type 0 where
  pub some : part ≡ Closing → ⊥
  pub fitting : Fitting (record { inputs = inputs; coils = coils; depth = depth; records = 0 }) (entry_for part) d
  pub low : d ≤ depth

pub record Applied (part : Part) (inputs coils w w' : List ℕ) (d r : ℕ) : Type 0 where
  pub height : r ≡ d - arity (entry_for part) + 1
  pub long : length w' ≡ length w
  pub stacked : values w' r ≡ act (on inputs) (on coils) (entry_for part) (values w d)

-- what the lent places allow a formula
abbrev pub bounds_for : List ℕ → List ℕ → List ℕ → Bounds
bounds_for inputs coils stack = record { inputs = length inputs; coils = length coils; depth = length stack; records = 0 }

-- a formula's bytes stand at place p, and then a record that closes it
pub record FormulaAt (s : List ℕ) (p : ℕ) (b : Bounds) : Type 0 where
  pub formula : Formula
  pub rest : List ℕ
  pub bytes : drop p s ≡ write_formula formula ++ rest
  pub closes : one_of formula_kinds (get_or rest 0 0) ≡ false
  pub fits : Fits b formula

-- the value is the formula's, and the place is that of the closing record
pub record EvaluatedAs (f : Formula) (p : ℕ) (inputs coils w w' : List ℕ) (r : Evaluated) : Type 0 where
  pub is : r.on ≡ value (on inputs) (on coils) f
  pub ends : r.at ≡ p + length (write_formula f)
  pub long : length w' ≡ length w

abbrev pub Evaluates : List ℕ → ℕ → List ℕ → List ℕ → List ℕ → List ℕ → Evaluated → Type 0
Evaluates s p inputs coils w w' r = (h : FormulaAt s p (bounds_for inputs coils w)) → EvaluatedAs h.formula p inputs coils w w' r
