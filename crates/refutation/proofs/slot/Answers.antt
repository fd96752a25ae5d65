use Rattle.std.proofs.Common.{rules}
use native.Mathlib.Omega.{arith}
use Rattle.refutation.proofs.SlotLaws.{slot_room, slotted}
use Rattle.refutation.proofs.slot.Goals as goal

pub overflow_mul-result : goal.overflow_mul-result
overflow_mul-result c = omega (arith, slot_room _ _ _ _ _ c.requires.0 c.requires.1)

pub overflow_add-result-2 : goal.overflow_add-result-2
overflow_add-result-2 c = omega (arith, slot_room _ _ _ _ _ c.requires.0 c.requires.1)

pub returns : goal.returns
returns c = search (rules, slotted)
