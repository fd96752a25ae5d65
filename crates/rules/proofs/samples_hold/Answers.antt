-- Every sample of the two lists, by computation.
-- Assumes nothing.
use mathlib.Core.Path.{refl}
use Rattle.rules.specs.Head.{head_fits}
use Rattle.rules.specs.Record.{rows, body_length, front, record_length}
use Rattle.rules.specs.Walk.{move_at, past, walk}
use Rattle.rules.specs.Formula.{reads, value, size}
use Rattle.rules.specs.Sheet.{with, start_of, run, scan, holds_after}
use Rattle.rules.specs.ReadFormula.{in_range, entry, arity, build, push, formula_record}
use Rattle.rules.specs.ReadSheet.{spot_kinds, read_head, read_start, read_entry, read_rung, read_condition, sheet_move, sheet_reader, judge_sheet, read_sheet}
use Rattle.rules.specs.WriteSheet.{sizes}
use Rattle.rules.specs.Certificate.{opening, invariant_move, invariant_reader, read_invariant, steps_move, steps_reader, read_steps, read_input_on, scans_move, scans_reader, read_scans}
use Rattle.rules.specs.Clauses.{leaf_clauses, defining, rung_clauses, after_rungs, start_units, clause_set}
use Rattle.rules.specs.Resolution.{has, without, once, resolvent, is_there, derive, is_empty}
use Rattle.rules.specs.Verdict.{following, judge_steps, judge_safe, replayed, judge_scans, judge_opened, judge_certificate, judge}
use Rattle.rules.proofs.samples_hold.Goals as goal

pub returns : goal.returns
unfolding head_fits rows body_length front record_length move_at past walk reads value size with start_of run scan holds_after in_range entry arity build push formula_record spot_kinds read_head read_start read_entry read_rung read_condition sheet_move sheet_reader judge_sheet read_sheet sizes opening invariant_move invariant_reader read_invariant steps_move steps_reader read_steps read_input_on scans_move scans_reader read_scans leaf_clauses defining rung_clauses after_rungs start_units clause_set has without once resolvent is_there derive is_empty following judge_steps judge_safe replayed judge_scans judge_opened judge_certificate judge
returns c = record {
  bench = (refl, (refl, (refl, (refl, (refl, (refl, (refl, (refl, (refl, (refl, (refl, (refl, tt))))))))))));
  limits = (refl, (refl, (refl, (refl, (refl, (refl, (refl, (refl, (refl, (refl, (refl, (refl, tt))))))))))));
}
