-- Certificates and traces, and their reading.
use Rattle.std.specs.Prelude.{ℕ, ◌+◌, List, [], ◌∷◌, ◌++◌, length, drop, ltb, leb, eqb}
use Rattle.base.specs.Pick.{pick}
use Rattle.rules.specs.declared.Limits.{Limits}
use Rattle.rules.specs.Kind
use Rattle.rules.specs.Record.{number, one_of}
use Rattle.rules.specs.Walk.{Move, Move.go, Move.mark, Move.no, Move.done, Reader, Reading, reading}
use Rattle.rules.specs.Formula.{Inputs, Formula}
use Rattle.rules.specs.Sheet.{Sheet}
use Rattle.rules.specs.ReadFormula.{certificate_faults, Bounds, Stack, empty, operand, Pushed.fine, Pushed.fault, formula_record}
use Rattle.rules.specs.ReadSheet.{one}

-- a STEP names two clauses and a pivot
pub record Step : Type 0 where
  pub first : ℕ
  pub second : ℕ
  pub pivot : ℕ

-- the three clause sets, and so the three refutations, in their order
pub data Which : Type 0 where
  start keep safe : Which

pub record Certificate : Type 0 where
  pub invariant : Formula
  pub steps : Which → List Step

-- the inputs that are on, scan by scan
abbrev pub Trace : Type 0
Trace = List (List ℕ)

-- unnamed inputs are off
abbrev pub named : List ℕ → Inputs
named on n = one_of on n

-- the first record: one of these kinds
unfoldable pub opening : List ℕ → Reader (Unit {0}) ⊥ ℕ
opening kinds = record {
  ends = certificate_faults.ends;
  strange = certificate_faults.strange;
  allowed = λ t. kinds;
  move = λ t k bs. done k;
}

-- an invariant is a formula over coils and constants
abbrev pub invariant_bounds : Limits → Sheet → Bounds
invariant_bounds l t = record { inputs = 0; coils = t.coils; depth = l.depth; records = l.invariant }

-- a formula record: 14 to 17; INVARIANT: 15
unfoldable pub invariant_move : Limits → Sheet → Stack → ℕ → List ℕ → Move Stack ⊥ Formula
invariant_move l t st k bs =
    pick (eqb k Kind.INVARIANT) (pick (one st) (done (operand st.values 0)) (no certificate_faults.operands))
    (elim (formula_record certificate_faults (invariant_bounds l t) st k bs) [ fault n ↦ no n | fine u ↦ go u ])

unfoldable pub invariant_reader : Limits → Sheet → Reader Stack ⊥ Formula
invariant_reader l t = record {
  ends = certificate_faults.ends;
  strange = certificate_faults.strange;
  allowed = λ st. Kind.INVARIANT ∷ Kind.COIL ∷ Kind.CONSTANT ∷ Kind.NOT ∷ Kind.AND ∷ Kind.OR ∷ [];
  move = invariant_move l t;
}

-- the invariant of a certificate, whose first record has been read
unfoldable pub read_invariant : Limits → Sheet → List ℕ → Reading ⊥ Formula
read_invariant l t bs = reading (invariant_reader l t) (drop 1 bs) 1 empty

-- three refutations, each of STEPs then QED; END. The state counts the QEDs
pub data Mark : Type 0 where
  step : Step → Mark
  qed : Mark

unfoldable pub steps_move : ℕ → ℕ → List ℕ → Move ℕ Mark (Unit {0})
steps_move n k bs =
    pick (eqb k Kind.STEP) (mark (step (record { first = number bs 1; second = number bs 3; pivot = number bs 5 })) n)
    (pick (eqb k Kind.QED) (mark qed (n + 1)) (done tt))

unfoldable pub steps_reader : Reader ℕ Mark (Unit {0})
steps_reader = record {
  ends = certificate_faults.ends;
  strange = certificate_faults.strange;
  allowed = λ n. pick (ltb n 3) (Kind.STEP ∷ Kind.QED ∷ []) (Kind.END ∷ []);
  move = steps_move;
}

-- the steps of a certificate, from a place on
unfoldable pub read_steps : List ℕ → ℕ → Reading Mark (Unit {0})
read_steps bs p = reading steps_reader (drop p bs) p 0

-- a trace's reading: the inputs named since the last SCAN, the lowest that may be named next, and the scans so far
pub record Scanning : Type 0 where
  pub on : List ℕ
  pub least : ℕ
  pub count : ℕ

-- INPUT-ON: 14, 23
unfoldable pub read_input_on : Sheet → Scanning → ℕ → Move Scanning (List ℕ) (Unit {0})
read_input_on t st n =
    pick (ltb n t.inputs)
    (pick (ltb n st.least) (no 23)
    (go (record { on = st.on ++ (n ∷ []); least = n + 1; count = st.count })))
    (no 14)

-- any INPUT-ON with rising inputs, then SCAN; END. One scan too many, or none: 24
unfoldable pub scans_move : Limits → Sheet → Scanning → ℕ → List ℕ → Move Scanning (List ℕ) (Unit {0})
scans_move l t st k bs =
    pick (eqb k Kind.INPUT_ON) (read_input_on t st (number bs 1))
    (pick (eqb k Kind.SCAN)
    (pick (leb l.scans st.count) (no 24) (mark st.on (record { on = []; least = 0; count = st.count + 1 })))
    (pick (eqb st.count 0) (no 24) (done tt)))

-- END may not follow INPUT-ON
unfoldable pub scans_reader : Limits → Sheet → Reader Scanning (List ℕ) (Unit {0})
scans_reader l t = record {
  ends = certificate_faults.ends;
  strange = certificate_faults.strange;
  allowed = λ st. Kind.INPUT_ON ∷ Kind.SCAN ∷ pick (eqb (length st.on) 0) (Kind.END ∷ []) [];
  move = scans_move l t;
}

-- the scans of a trace, whose first record has been read
unfoldable pub read_scans : Limits → Sheet → List ℕ → Reading (List ℕ) (Unit {0})
read_scans l t bs = reading (scans_reader l t) (drop 1 bs) 1 (record { on = []; least = 0; count = 0 })
