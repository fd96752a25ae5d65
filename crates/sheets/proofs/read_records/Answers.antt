use Rattle.sheets.proofs.SheetLaws.{turn_no, turn_go, turn_less, turn_inside, turn_done}
use Rattle.sheets.proofs.read_records.Goals as goal

pub loop-e-smaller : goal.loop-e-smaller
loop-e-smaller c =
    turn_less _ _ _ _ _ c.loop-e.d c.one_record.result c.loop-e.invariant c.one_record.ensures c.one_record.auto.marks c.in-Ok-Some.e
    (rw c.in-Ok-Some.field-0-is at c.in-Ok-Some.is)

pub loop-e-preserved : goal.loop-e-preserved
loop-e-preserved c =
    turn_go _ _ _ _ _ c.loop-e.d c.one_record.result c.loop-e.invariant c.one_record.ensures c.one_record.auto.marks c.in-Ok-Some.e
    (rw c.in-Ok-Some.field-0-is at c.in-Ok-Some.is)

pub ended-requires : goal.ended-requires
ended-requires c =
    turn_inside _ _ _ _ _ c.loop-e.d c.one_record.result c.loop-e.invariant c.one_record.ensures c.one_record.auto.marks
    (rw c.in-Ok-None.field-0-is at c.in-Ok-None.is)

pub returns-in-Ok-None : goal.returns-in-Ok-None
returns-in-Ok-None c =
    turn_done _ _ _ _ _ c.loop-e.d c.one_record.result c.loop-e.invariant c.one_record.ensures c.one_record.auto.marks
    (rw c.in-Ok-None.field-0-is at c.in-Ok-None.is) _ c.ended.ensures

pub returns-in-Err : goal.returns-in-Err
returns-in-Err c =
    rw c.at.ensures
    (turn_no _ _ _ _ _ c.loop-e.d c.one_record.result c.loop-e.invariant c.one_record.ensures c.one_record.auto.marks c.in-Err.fault c.in-Err.is)
