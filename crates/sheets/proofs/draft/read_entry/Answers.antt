use Rattle.sheets.proofs.StepLaws.{entry_no}
use Rattle.sheets.proofs.draft.read_entry.Goals as goal

pub returns-in-Err : goal.returns-in-Err
returns-in-Err c =
    entry_no _ _ _ _ _ _ c.formula_record.ensures c.in-Err.fault _ c.in-Err.is c.sheet_fault.ensures
