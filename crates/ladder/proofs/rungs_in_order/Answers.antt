-- Every case, by computation.
-- Assumes nothing.
use mathlib.Core.Path.{refl}
use Rattle.rules.specs.Head.{head_fits}
use Rattle.rules.specs.Record.{rows, body_length, front, record_length}
use Rattle.rules.specs.Walk.{move_at, past, walk}
use Rattle.rules.specs.Formula.{reads, value, postfix}
use Rattle.rules.specs.Sheet.{with, run, scan, holds_after}
use Rattle.rules.specs.ReadFormula.{in_range, entry, arity, build, push, formula_record}
use Rattle.rules.specs.ReadSheet.{spot_kinds, read_head, read_start, read_entry, read_rung, read_condition, sheet_move, sheet_reader, judge_sheet, read_sheet}
use Rattle.rules.specs.WriteSheet.{write_entry, write_formula, write_start, write_rung, write_sheet}
use Rattle.ladder.specs.Scan.{closed_rung, run_places}
use Rattle.ladder.specs.Scanned.{answer_for, coils_for, scan_of, coils_after}
use Rattle.ladder.proofs.rungs_in_order.Goals as goal

pub returns : goal.returns
unfolding head_fits rows body_length front record_length move_at past walk reads value postfix with run scan holds_after in_range entry arity build push formula_record spot_kinds read_head read_start read_entry read_rung read_condition sheet_move sheet_reader judge_sheet read_sheet write_entry write_formula write_start write_rung write_sheet closed_rung run_places answer_for coils_for scan_of coils_after
returns c = (
  record { means = (refl, (refl, tt)); answers = refl; leaves = refl },
  (
    record { means = (refl, (refl, tt)); answers = refl; leaves = refl },
    (
      record { means = (refl, (refl, tt)); answers = refl; leaves = refl },
      (record { means = (refl, (refl, tt)); answers = refl; leaves = refl }, tt),
    ),
  ),
)
