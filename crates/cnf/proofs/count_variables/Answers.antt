use Rattle.cnf.proofs.SetLaws.{none_written}
use Rattle.cnf.proofs.count_variables.Goals as goal

pub returns-in-Err : goal.returns-in-Err
returns-in-Err c = none_written _ _ _ _ _ c.translate_files.ensures c.in-Err.field-0 c.in-Err.is
