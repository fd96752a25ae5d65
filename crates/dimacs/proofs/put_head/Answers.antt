use Rattle.std.proofs.Common.{arith, rules, ℕ, ◌≤◌, List, length, Fits, w64}
use Rattle.writing.specs.Room.{enough}
use Rattle.writing.proofs.RoomLaws.{pair_fits}
use Rattle.dimacs.specs.Dimacs.{words_head, space, head_line}
use Rattle.dimacs.proofs.put_head.Goals as goal

head_fits : (w : List ℕ) (v n : ℕ) → enough ≤ length w → Fits w64 v → Fits w64 n → length (head_line v n) ≤ length w
head_fits w v n h f g = omega (arith, pair_fits words_head v space n f g)

pub put_pair-requires : goal.put_pair-requires
put_pair-requires c = search (rules, head_fits)
