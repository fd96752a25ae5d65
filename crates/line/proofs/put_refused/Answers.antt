use Rattle.std.proofs.Common.{arith, rules, ℕ, ◌≤◌, List, length, Fits, w64}
use Rattle.writing.specs.Room.{enough}
use Rattle.writing.proofs.RoomLaws.{pair_fits}
use Rattle.line.specs.Line.{word_refused, word_at, refused_line}
use Rattle.line.proofs.put_refused.Goals as goal

refused_fits : (w : List ℕ) (n m : ℕ) → enough ≤ length w → Fits w64 n → Fits w64 m → length (refused_line n m) ≤ length w
refused_fits w n m h f g = omega (arith, pair_fits word_refused n word_at m f g)

pub put_pair-requires : goal.put_pair-requires
put_pair-requires c = search (rules, refused_fits)
