use Rattle.std.proofs.Common.{rules, arith, [], ◌∷◌}
use Rattle.refutation.proofs.EndLaws.{end_refused, end_late, end_right}
use Rattle.refutation.proofs.end_at.Goals as goal

pub returns-in-Ok : goal.returns-in-Ok
returns-in-Ok c = rw c.at.ensures (end_late _ _ _ (c.in-Ok.ensures.by (0x2F ∷ []) (λ k b h. search rules)) (omega arith))

pub returns-in-Ok-2 : goal.returns-in-Ok-2
returns-in-Ok-2 c = end_right _ _ _ (c.in-Ok.ensures.by (0x2F ∷ []) (λ k b h. search rules)) (omega arith)

pub returns-in-Err : goal.returns-in-Err
returns-in-Err c = rw c.at-in-Err.ensures (end_refused _ _ _ (c.in-Err.ensures.by (0x2F ∷ []) (λ k b h. search rules)))
