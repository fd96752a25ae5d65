use Rattle.std.proofs.Common.{rules}
use Rattle.sheets.proofs.InvariantLaws.{part_no}
use Rattle.sheets.proofs.certificate.read_part.Goals as goal

pub returns-in-Err : goal.returns-in-Err
returns-in-Err c = part_no _ _ _ c.args.p c.args.whole _ c.formula_record.ensures (search rules) c.in-Err.fault _ c.in-Err.is c.invariant_fault.ensures
