-- A clause set as DIMACS text: a head line with the counts of variables and clauses, then a line for each clause.
use Rattle.std.specs.Prelude.{ℕ, zero, suc, ◌+◌, ◌-◌, ◌*◌, ◌/◌, ◌≤◌, ◌≡◌, ◌&&◌, List, [], ◌∷◌, ◌++◌, length, get_or, leb}
use Rattle.base.specs.Pick.{pick}
use Rattle.base.specs.Lists.{All, each}
use Rattle.rules.specs.Formula.{Formula}
use Rattle.rules.specs.Sheet.{Sheet}
use Rattle.rules.specs.Head.{base_limits}
use Rattle.rules.specs.WriteSheet.{WithinSheet}
use Rattle.rules.specs.WriteCertificate.{WithinInvariant}
use Rattle.rules.specs.Certificate.{Which, Which.keep}
use Rattle.rules.specs.Clauses.{Lit, Lit.plain, Lit.negated, Clause, clause_set, variables, places}
use Rattle.solving.specs.Places.{unplace, Placeable}
use Rattle.writing.specs.Decimal.{decimal}
use Rattle.writing.specs.Room.{feed, numbered, pair_line}

abbrev pub minus : List ℕ
minus = 0x2D ∷ []

abbrev pub space : List ℕ
space = 0x20 ∷ []

-- `p cnf `
abbrev pub words_head : List ℕ
words_head = 0x70 ∷ 0x20 ∷ 0x63 ∷ 0x6E ∷ 0x66 ∷ 0x20 ∷ []

-- `p cnf VARIABLES CLAUSES`
abbrev pub head_line : ℕ → ℕ → List ℕ
head_line v n = pair_line words_head v space n

-- a literal is its variable, with a minus before it where it is negated
unfoldable pub literal_text : Lit → List ℕ
literal_text (plain v) = decimal v
literal_text (negated v) = numbered minus v

-- literals, each with a space after it
unfoldable pub literals_text : Clause → List ℕ
literals_text c = each (λ (x : Lit). literal_text x ++ space) c

-- `0` ends a clause
abbrev pub clause_line : Clause → List ℕ
clause_line c = literals_text c ++ (0x30 ∷ feed)

-- the whole text of a set, v the number of all variables of sheet and invariant
abbrev pub dimacs : ℕ → List Clause → List ℕ
dimacs v cs = head_line v (length cs) ++ each clause_line cs

-- the clause whose three places are number k in a room
abbrev pub clause_in : List ℕ → ℕ → Clause
clause_in w k = unplace (get_or w (3 * k) 0) ++ (unplace (get_or w (3 * k + 1) 0) ++ unplace (get_or w (3 * k + 2) 0))

-- the lines of n clauses of a room, from number k on
unfoldable pub lines_in : List ℕ → ℕ → ℕ → List ℕ
lines_in w k zero = []
lines_in w k (suc n) = clause_line (clause_in w k) ++ lines_in w (k + 1) n

-- the variable of the first literal of the last of n clauses in a room, 0 where they are not there
unfoldable pub last_variable : List ℕ → ℕ → ℕ
last_variable w n = pick (leb 1 n && leb n (length w / 3)) (get_or w (3 * (n - 1)) 0 / 2) 0

-- places enough for any set of a sheet and an invariant within the limits
abbrev pub largest_set : ℕ
largest_set = 14100

-- line by line out of the room that the translator filled, the text is the set's; set 2's last clause names the last of all variables
pub record TextIsTheSets : Type 0 where
  pub lines : (n : ℕ) (cs : List Clause) (rest : List ℕ) → All (Placeable n) cs → lines_in (places cs ++ rest) 0 (length cs) ≡ each clause_line cs
  pub last : (t : Sheet) (inv : Formula) (rest : List ℕ)
      → last_variable (places (clause_set t inv keep) ++ rest) (length (clause_set t inv keep)) ≡ variables t inv
  pub fits : (t : Sheet) (inv : Formula) → WithinSheet base_limits t → WithinInvariant base_limits t inv → (w : Which) → 3 * length (clause_set t inv w) ≤ largest_set
