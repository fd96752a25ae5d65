-- A sheet, and the meaning of its ladder: initialise, then for ever read the inputs and run the rungs in order.
use Rattle.std.specs.Prelude.{ℕ, ◌<◌, ◌≡◌, Bool, true, false, List, [], ◌∷◌, eqb}
use Rattle.base.specs.Pick.{pick}
use Rattle.rules.specs.Formula.{Inputs, Coils, Formula, value}

pub record Start : Type 0 where
  pub coil : ℕ
  pub on : Bool

pub record Rung : Type 0 where
  pub coil : ℕ
  pub formula : Formula

pub record Sheet : Type 0 where
  pub inputs : ℕ
  pub coils : ℕ
  pub starts : List Start
  pub rungs : List Rung
  pub condition : Formula

-- the same values, but for one place
unfoldable pub with : {A : Type 0} → (ℕ → A) → ℕ → A → ℕ → A
with f c x n = pick (eqb n c) x (f n)

-- a coil without START starts off
unfoldable pub start_of : List Start → Coils
start_of [] c = false
start_of (s ∷ ss) c = pick (eqb c s.coil) s.on (start_of ss c)

-- an allowed start
unfoldable pub Begins : Sheet → Coils → Type 0
Begins t k = (c : ℕ) → c < t.coils → k c ≡ start_of t.starts c

-- the rungs in order: a contact on a coil reads this scan's new value if its rung has run, else the old one
unfoldable pub run : Inputs → Coils → List Rung → Coils
run i k [] = k
run i k (r ∷ rs) = run i (with k r.coil (value i k r.formula)) rs

-- the coils after one scan; a coil without a rung keeps its value
unfoldable pub scan : Sheet → Inputs → Coils → Coils
scan t i k = run i k t.rungs

-- the coils after some scans, each with inputs of its own
unfoldable pub scans : Sheet → Coils → List Inputs → Coils
scans t k [] = k
scans t k (i ∷ is) = scans t (scan t i k) is

-- the condition after a scan reads that scan's inputs and the coils after it
unfoldable pub holds_after : Sheet → Inputs → Coils → Bool
holds_after t i k = value i (scan t i k) t.condition

-- from any allowed start the condition holds after every scan, the first included, whatever the inputs
unfoldable pub Safe : Sheet → Type 0
Safe t = (k : Coils) → Begins t k → (is : List Inputs) (i : Inputs) → holds_after t i (scans t k is) ≡ true
