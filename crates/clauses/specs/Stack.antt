-- A stack of variables in lent places, and what one formula record does to it.
use Rattle.std.specs.Prelude.{ℕ, zero, suc, ◌+◌, ◌-◌, ◌≤◌, ◌<◌, ◌≡◌, Option, Some, None, List, [], ◌∷◌, length, get_or, drop}
use Rattle.rules.specs.Clauses.{Vars, Clause, contact_clauses, not_clauses, and_clauses, or_clauses}
use Rattle.formulas.specs.declared.Part.{Part}
use Rattle.formulas.specs.declared.Part.TheVariants.{Input, Coil, Constant, Not, And, Or, Closing}
use Rattle.clauses.specs.declared.gates.Gate.{Gate}
use Rattle.clauses.specs.declared.gates.Gate.TheVariants.{Same, Fixed, Inverse, Both, Either}
use Rattle.clauses.specs.Emits.{emits, signed}

-- the lowest d places, the highest first
unfoldable pub stk : List ℕ → ℕ → List ℕ
stk w zero = []
stk w (suc d) = get_or w d 0 ∷ stk w d

-- the variable that was put on the stack k values before the last
abbrev pub operand : List ℕ → ℕ → ℕ
operand st k = get_or st k 0

-- the variables of inputs and coils, from the first input's and a map of the coils'
abbrev pub vars_of : List ℕ → ℕ → Vars
vars_of map base = record { input = λ j. base + j; coil = λ c. get_or map c 0 }

-- the defining clauses of record g over a stack of variables
unfoldable pub part_clauses : Vars → ℕ → Part → List ℕ → List Clause
part_clauses vs g (Input j) st = contact_clauses g (vs.input j)
part_clauses vs g (Coil c) st = contact_clauses g (vs.coil c)
part_clauses vs g (Constant on) st = signed on g
part_clauses vs g Not st = not_clauses g (operand st 0)
part_clauses vs g And st = and_clauses g (operand st 1) (operand st 0)
part_clauses vs g Or st = or_clauses g (operand st 1) (operand st 0)
part_clauses vs g Closing st = []

-- how many values it takes
unfoldable pub takes : Part → ℕ
takes (Input j) = 0
takes (Coil c) = 0
takes (Constant on) = 0
takes Not = 1
takes And = 2
takes Or = 2
takes Closing = 0

-- what a record says of its own variable; a closing record says nothing
unfoldable pub gate_of : Vars → Part → List ℕ → Option Gate
gate_of vs (Input j) st = Some (Same (vs.input j))
gate_of vs (Coil c) st = Some (Same (vs.coil c))
gate_of vs (Constant on) st = Some (Fixed on)
gate_of vs Not st = Some (Inverse (operand st 0))
gate_of vs And st = Some (Both (operand st 1) (operand st 0))
gate_of vs Or st = Some (Either (operand st 1) (operand st 0))
gate_of vs Closing st = None

-- a record that takes k values has its operands, and room for its own variable g
pub record Ready (k g : ℕ) (stack : List ℕ) (depth n : ℕ) : Type 0 where
  pub few : n < 9223372036854775808
  pub g_fits : g < 32768
  pub enough : k ≤ depth
  pub room : depth - k < length stack
  pub within : depth ≤ length stack
  pub small : (j : ℕ) → j < depth → get_or stack j 0 < 32768

-- it wrote the clauses cs, and put g in the place of the k values
pub record Put (k : ℕ) (cs : List Clause) (g : ℕ) (stack : List ℕ) (depth : ℕ) (out : List ℕ) (n : ℕ) (stack' : List ℕ) (depth' : ℕ) (out' : List ℕ) (r : Option ℕ) : Type 0 where
  pub goes_on : r ≡ Some (n + length cs)
  pub height : depth' ≡ depth - k + 1
  pub wrote : out' ≡ emits out n cs
  pub held : stk stack' (depth - k + 1) ≡ g ∷ drop k (stk stack depth)
  pub small : (j : ℕ) → j < depth - k + 1 → get_or stack' j 0 < 32768

-- a contact names an input whose variable fits, or a coil that the map has
unfoldable pub Reaches : Part → List ℕ → ℕ → Type 0
Reaches (Input j) map base = base + j < 32768
Reaches (Coil c) map base = c < length map
Reaches (Constant on) map base = Unit {0}
Reaches Not map base = Unit {0}
Reaches And map base = Unit {0}
Reaches Or map base = Unit {0}
Reaches Closing map base = Unit {0}

-- and the stack has the record's operands
pub record Reached (p : Part) (map : List ℕ) (base : ℕ) (stack : List ℕ) (depth : ℕ) : Type 0 where
  pub reaches : Reaches p map base
  pub enough : takes p ≤ depth
  pub within : depth ≤ length stack

pub record Enterable (p : Part) (map : List ℕ) (base g : ℕ) (stack : List ℕ) (depth n : ℕ) : Type 0 where
  pub ready : (p ≡ Closing → ⊥) → Ready (takes p) g stack depth n
  pub reaches : Reaches p map base
  pub within : depth ≤ length stack
  pub mapped : (j : ℕ) → get_or map j 0 < 32768

-- a closing record leaves all as it was
pub record Ended (out out' : List ℕ) (r : Option ℕ) : Type 0 where
  pub ends : r ≡ None
  pub same : out' ≡ out

pub record Entered (p : Part) (map : List ℕ) (base g : ℕ) (stack : List ℕ) (depth : ℕ) (out : List ℕ) (n : ℕ) (stack' : List ℕ) (depth' : ℕ) (out' : List ℕ) (r : Option ℕ) : Type 0 where
  pub on : (p ≡ Closing → ⊥) → Put (takes p) (part_clauses (vars_of map base) g p (stk stack depth)) g stack depth out n stack' depth' out' r
  pub closed : p ≡ Closing → Ended out out' r
  pub tall : length stack' ≡ length stack
