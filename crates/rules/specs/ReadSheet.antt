-- Reading a sheet: HEAD; STARTs with rising coils; each rung as a formula, then RUNG; the condition as a formula,
-- then CONDITION; END. The sheet is built as its records are walked.
use Rattle.std.specs.Prelude.{ℕ, ◌+◌, Bool, false, ◌&&◌, ◌||◌, List, [], ◌∷◌, ◌++◌, length, get_or, ltb, leb, eqb}
use Rattle.base.specs.Pick.{pick}
use Rattle.rules.specs.declared.Limits.{Limits}
use Rattle.rules.specs.Head.{head_fits}
use Rattle.rules.specs.Kind
use Rattle.rules.specs.Record.{number}
use Rattle.rules.specs.Walk.{Refusal, ◌at◌, Move, Move.go, Move.no, Move.done, Reader, Reading, Reading.stopped, Reading.marked, Reading.closed, reading}
use Rattle.rules.specs.Formula.{Leaf.constant, Formula, Formula.leaf}
use Rattle.rules.specs.Sheet.{Start, Rung, Sheet}
use Rattle.rules.specs.ReadFormula.{sheet_faults, Bounds, formula_kinds, Stack, empty, operand, Pushed.fine, Pushed.fault, formula_record}

-- where a sheet's reading stands
pub data Spot : Type 0 where
  at_head at_starts at_rungs at_end : Spot

-- a sheet as far as it was read, the stack, as many rungs as HEAD says, and the lowest coil that the next START may name
pub record Draft : Type 0 where
  pub spot : Spot
  pub sheet : Sheet
  pub stack : Stack
  pub promised : ℕ
  pub least : ℕ

-- a sheet with nothing in it yet
abbrev pub headed_sheet : ℕ → ℕ → Sheet
headed_sheet i c = record { inputs = i; coils = c; starts = []; rungs = []; condition = leaf (constant false) }

abbrev pub add_start : Sheet → Start → Sheet
add_start s x = record { inputs = s.inputs; coils = s.coils; starts = s.starts ++ (x ∷ []); rungs = s.rungs; condition = s.condition }

abbrev pub add_rung : Sheet → Rung → Sheet
add_rung s r = record { inputs = s.inputs; coils = s.coils; starts = s.starts; rungs = s.rungs ++ (r ∷ []); condition = s.condition }

abbrev pub set_condition : Sheet → Formula → Sheet
set_condition s f = record { inputs = s.inputs; coils = s.coils; starts = s.starts; rungs = s.rungs; condition = f }

abbrev pub blank : Draft
blank = record { spot = at_head; sheet = headed_sheet 0 0; stack = empty; promised = 0; least = 0 }

unfoldable pub spot_kinds : Spot → List ℕ
spot_kinds at_head = Kind.HEAD ∷ []
spot_kinds at_starts = Kind.START ∷ Kind.RUNG ∷ Kind.CONDITION ∷ formula_kinds
spot_kinds at_rungs = Kind.RUNG ∷ Kind.CONDITION ∷ formula_kinds
spot_kinds at_end = Kind.END ∷ []

abbrev pub SheetMove : Type 0
SheetMove = Move Draft ⊥ Sheet

-- HEAD: 4
unfoldable pub read_head : Limits → List ℕ → SheetMove
read_head l bs =
    pick (head_fits l (number bs 1) (number bs 3) (number bs 5))
    (go (record { spot = at_starts; sheet = headed_sheet (number bs 1) (number bs 3); stack = empty; promised = number bs 5; least = 0 }))
    (no 4)

-- START: 4, 5
unfoldable pub read_start : Draft → List ℕ → SheetMove
read_start t bs =
    pick (ltb (number bs 1) t.sheet.coils && ltb (get_or bs 3 0) 2)
    (pick (ltb (number bs 1) t.least) (no 5)
    (go (record {
      spot = at_starts;
      sheet = add_start t.sheet (record { coil = number bs 1; on = eqb (get_or bs 3 0) 1 });
      stack = t.stack;
      promised = t.promised;
      least = number bs 1 + 1;
    })))
    (no 4)

abbrev pub sheet_bounds : Limits → Sheet → Bounds
sheet_bounds l s = record { inputs = s.inputs; coils = s.coils; depth = l.depth; records = l.records }

-- a formula record: 4, 6, 7, 8
unfoldable pub read_entry : Limits → Draft → ℕ → List ℕ → SheetMove
read_entry l t k bs =
    elim (formula_record sheet_faults (sheet_bounds l t.sheet) t.stack k bs) [
      | fault n ↦ no n
      | fine st ↦ go (record { spot = at_rungs; sheet = t.sheet; stack = st; promised = t.promised; least = t.least })
    ]

-- does one of the rungs drive coil c?
abbrev pub driven : List Rung → ℕ → Bool
driven [] c = false
driven (r ∷ rs) c = eqb c r.coil || driven rs c

-- a closing record finds exactly one value
abbrev pub one : Stack → Bool
one st = eqb (length st.values) 1

-- what a closing record leaves: no value, and the count
abbrev pub cleared : Stack → Stack
cleared st = record { values = []; count = st.count }

-- RUNG: 4, 6, 9, 10
unfoldable pub read_rung : Draft → List ℕ → SheetMove
read_rung t bs =
    pick (ltb (number bs 1) t.sheet.coils)
    (pick (one t.stack)
    (pick (driven t.sheet.rungs (number bs 1)) (no 9)
    (pick (leb t.promised (length t.sheet.rungs)) (no 10)
    (go (record {
      spot = at_rungs;
      sheet = add_rung t.sheet (record { coil = number bs 1; formula = operand t.stack.values 0 });
      stack = cleared t.stack;
      promised = t.promised;
      least = t.least;
    }))))
    (no 6))
    (no 4)

-- CONDITION: 6, 10
unfoldable pub read_condition : Draft → SheetMove
read_condition t =
    pick (one t.stack)
    (pick (ltb (length t.sheet.rungs) t.promised) (no 10)
    (go (record {
      spot = at_end;
      sheet = set_condition t.sheet (operand t.stack.values 0);
      stack = cleared t.stack;
      promised = t.promised;
      least = t.least;
    })))
    (no 6)

unfoldable pub sheet_move : Limits → Draft → ℕ → List ℕ → SheetMove
sheet_move l t k bs =
    pick (eqb k Kind.HEAD) (read_head l bs)
    (pick (eqb k Kind.START) (read_start t bs)
    (pick (eqb k Kind.RUNG) (read_rung t bs)
    (pick (eqb k Kind.CONDITION) (read_condition t)
    (pick (eqb k Kind.END) (done t.sheet)
    (read_entry l t k bs)))))

unfoldable pub sheet_reader : Limits → Reader Draft ⊥ Sheet
sheet_reader l = record {
  ends = sheet_faults.ends;
  strange = sheet_faults.strange;
  allowed = λ t. spot_kinds t.spot;
  move = sheet_move l;
}

-- a sheet, or why not
pub data SheetRead : Type 0 where
  good : Sheet → SheetRead
  bad : Refusal → SheetRead

-- END is the last byte, else 11
unfoldable pub judge_sheet : List ℕ → Reading ⊥ Sheet → SheetRead
judge_sheet bs (stopped x) = bad x
judge_sheet bs (marked p m r) = absurd m
judge_sheet bs (closed p t) = pick (ltb (p + 1) (length bs)) (bad (sheet_faults.after at p + 1)) (good t)

unfoldable pub read_sheet : Limits → List ℕ → SheetRead
read_sheet l bs = judge_sheet bs (reading (sheet_reader l) bs 0 blank)
