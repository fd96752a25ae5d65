-- Well formed, without a reader: the bytes of a sheet, and what it is to be within the limits.
use Rattle.std.specs.Prelude.{ℕ, ◌+◌, ◌≤◌, ◌<◌, ◌≡◌, Bool, false, List, [], ◌∷◌, ◌++◌, map, length, get_or}
use Rattle.base.specs.Pick.{pick}
use Rattle.base.specs.Lists.{All, each}
use Rattle.rules.specs.declared.Limits.{Limits}
use Rattle.rules.specs.Kind
use Rattle.rules.specs.Record.{two_bytes, one_of}
use Rattle.rules.specs.Formula.{Leaf.input, Leaf.coil, Leaf.constant, Formula, Formula.leaf, Formula.inverse, Formula.both, Formula.either, Entry, Entry.put, Entry.NOT, Entry.AND, Entry.OR, postfix, size, height}
use Rattle.rules.specs.ReadFormula.{Bounds}
use Rattle.rules.specs.ReadSheet.{sheet_bounds}
use Rattle.rules.specs.Sheet.{Start, Rung, Sheet}

-- one byte, 0 or 1
abbrev pub bit : Bool → ℕ
bit b = pick b 1 0

unfoldable pub write_entry : Entry → List ℕ
write_entry (put (input n)) = Kind.INPUT ∷ two_bytes n
write_entry (put (coil n)) = Kind.COIL ∷ two_bytes n
write_entry (put (constant b)) = Kind.CONSTANT ∷ bit b ∷ []
write_entry NOT = Kind.NOT ∷ []
write_entry AND = Kind.AND ∷ []
write_entry OR = Kind.OR ∷ []

unfoldable pub write_formula : Formula → List ℕ
write_formula f = each write_entry (postfix f)

unfoldable pub write_start : Start → List ℕ
write_start s = Kind.START ∷ (two_bytes s.coil ++ (bit s.on ∷ []))

unfoldable pub write_rung : Rung → List ℕ
write_rung r = write_formula r.formula ++ (Kind.RUNG ∷ two_bytes r.coil)

unfoldable pub write_sheet : Sheet → List ℕ
write_sheet t =
    (Kind.HEAD ∷ (two_bytes t.inputs ++ (two_bytes t.coils ++ two_bytes (length t.rungs))))
    ++ (each write_start t.starts
    ++ (each write_rung t.rungs
    ++ (write_formula t.condition ++ (Kind.CONDITION ∷ Kind.END ∷ []))))

-- every element is a byte
abbrev pub Bytes : List ℕ → Type 0
Bytes bs = (k : ℕ) → get_or bs k 0 < 256

-- every limit fits the two bytes of a number
pub record Narrow (l : Limits) : Type 0 where
  pub inputs_fit : l.inputs < 65536
  pub coils_fit : l.coils < 65536

-- each number above the one before, the first at least m
unfoldable pub RisesFrom : ℕ → List ℕ → Type 0
RisesFrom m [] = Unit {0}
RisesFrom m (n ∷ ns) = (m ≤ n) × RisesFrom (n + 1) ns

-- no number twice
unfoldable pub Once : List ℕ → Type 0
Once [] = Unit {0}
Once (n ∷ ns) = (one_of ns n ≡ false) × Once ns

-- every contact names an input or a coil that is there
unfoldable pub Names : Bounds → Formula → Type 0
Names b (leaf (input n)) = n < b.inputs
Names b (leaf (coil n)) = n < b.coils
Names b (leaf (constant c)) = Unit {0}
Names b (inverse f) = Names b f
Names b (both f g) = Names b f × Names b g
Names b (either f g) = Names b f × Names b g

-- a formula within its bounds, but for the count of records
pub record Fits (b : Bounds) (f : Formula) : Type 0 where
  pub names : Names b f
  pub low : height f ≤ b.depth

unfoldable pub sizes : List Rung → ℕ
sizes [] = 0
sizes (r ∷ rs) = size r.formula + sizes rs

pub record WithinSheet (l : Limits) (t : Sheet) : Type 0 where
  pub inputs_fit : t.inputs ≤ l.inputs
  pub some_coil : 1 ≤ t.coils
  pub coils_fit : t.coils ≤ l.coils
  pub rungs_drive : length t.rungs ≤ t.coils
  pub rungs_fit : length t.rungs ≤ l.rungs
  pub starts_rise : RisesFrom 0 (map (λ (s : Start). s.coil) t.starts)
  pub starts_named : All (λ (s : Start). s.coil < t.coils) t.starts
  pub coils_once : Once (map (λ (r : Rung). r.coil) t.rungs)
  pub coils_named : All (λ (r : Rung). r.coil < t.coils) t.rungs
  pub rungs_within : All (λ (r : Rung). Fits (sheet_bounds l t) r.formula) t.rungs
  pub condition_within : Fits (sheet_bounds l t) t.condition
  pub records_fit : sizes t.rungs + size t.condition ≤ l.records
