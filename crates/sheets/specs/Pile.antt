-- What the code keeps of a stack of formulas: its height, and how many formula records were read.
use Rattle.std.specs.Prelude.{ℕ, ◌≡◌, Result, Ok, Err, List, length}
use Rattle.rules.specs.Formula.{Entry}
use Rattle.rules.specs.ReadFormula.{Faults, Bounds, Stack, Pushed, Pushed.fine, Pushed.fault, arity, push, formula_record}
use Rattle.sheets.specs.declared.Scope.{Scope}
use Rattle.sheets.specs.declared.Pile.{Pile}
use Rattle.sheets.specs.declared.FormulaFault.{FormulaFault}
use Rattle.sheets.specs.declared.FormulaFault.TheVariants.{Range, Operands, Depth, Records}

abbrev pub scope_of : Scope → Bounds
scope_of b = record { inputs = b.inputs; coils = b.coils; depth = b.depth; records = b.records }

-- the number of a fault, among those of a sheet or of a certificate
abbrev pub fault_in : Faults → FormulaFault → ℕ
fault_in n Range = n.range
fault_in n Operands = n.operands
fault_in n Depth = n.depth
fault_in n Records = n.records

pub record Piled (p : Pile) (st : Stack) : Type 0 where
  pub height : p.depth ≡ length st.values
  pub counted : p.count ≡ st.count

-- the rules put a value too, and the pile is that of their stack
pub record Grown (p : Pile) (x : Pushed) : Type 0 where
  pub to : Stack
  pub pushed : x ≡ fine to
  pub piled : Piled p to

-- the code's answer is that of the rules
unfoldable pub Adds : Faults → Pushed → Result Pile FormulaFault → Type 0
Adds n x (Ok p) = Grown p x
Adds n x (Err f) = x ≡ fault (fault_in n f)

-- of every stack that has this pile, and every record that takes so many values
abbrev pub Pushes : Scope → Pile → ℕ → Result Pile FormulaFault → Type 0
Pushes b p taken r = (n : Faults) (st : Stack) (e : Entry) → Piled p st → arity e ≡ taken → Adds n (push n (scope_of b) st e) r

-- of every stack that has this pile, and the record of kind k at the front of bytes
abbrev pub Puts : Scope → Pile → List ℕ → ℕ → Result Pile FormulaFault → Type 0
Puts b p bs k r = (n : Faults) (st : Stack) → Piled p st → Adds n (formula_record n (scope_of b) st k bs) r
