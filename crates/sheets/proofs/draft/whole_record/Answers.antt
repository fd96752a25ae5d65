use Rattle.sheets.proofs.RecordLaws.{whole_rung}
use Rattle.sheets.proofs.draft.whole_record.Goals as goal

pub returns-in-Rung : goal.returns-in-Rung
returns-in-Rung c = whole_rung _ _ _ _ c.args.whole _ _ c.in-Rung.is c.read_rung.ensures
