-- A set is its defining clauses and its unit clauses, merged.
-- Assumes nothing.
use mathlib.Core.Logic.{◌↔◌, ◌⊎◌, ◌⊎◌.inl, ◌⊎◌.inr, ⊎_elim}
use mathlib.Core.List.{List, [], ◌∷◌, ◌++◌}
use Rattle.rules.specs.Formula.{Formula}
use Rattle.rules.specs.Sheet.{Sheet}
use Rattle.rules.specs.Certificate.{Which, Which.start, Which.keep, Which.safe}
use Rattle.rules.specs.Clauses.{Lit.plain, Lit.negated, Clause, top, condition_at, before_at, after_at, start_units, ladder, condition, invariant_before, invariant_after, unit, clause_set}
use Rattle.solving.specs.Solution.{Assignment, Holds, ◌among◌, Merged, Merged.none, Merged.left, Merged.right}
use Rattle.solving.specs.Parts.{defining_part, unit_part}
use Rattle.solving.specs.Statements.{Parts}

lefts : (us : List Clause) {xs ys zs : List Clause} → Merged xs ys zs → Merged (us ++ xs) ys (us ++ zs)
lefts [] m = m
lefts (u ∷ us) m = left (lefts us m)

rights : (us : List Clause) {xs ys zs : List Clause} → Merged xs ys zs → Merged xs (us ++ ys) (us ++ zs)
rights [] m = m
rights (u ∷ us) m = right (rights us m)

only : (ys : List Clause) → Merged [] ys ys
only [] = none
only (y ∷ ys) = right (only ys)

then : (xs ys : List Clause) → Merged xs ys (xs ++ ys)
then [] ys = only ys
then (x ∷ xs) ys = left (then xs ys)

merged : (t : Sheet) (inv : Formula) (w : Which) → Merged (defining_part t inv w) (unit_part t inv w) (clause_set t inv w)
unfolding defining_part unit_part clause_set
merged t inv start = rights (start_units t.starts 0 t.coils) (then (invariant_before t inv) (unit (negated (top (before_at t) inv))))
merged t inv keep =
    lefts (ladder t) (lefts (invariant_before t inv) (rights (unit (plain (top (before_at t) inv))) (then (invariant_after t inv) (unit (negated (top (after_at t inv) inv))))))
merged t inv safe =
    lefts (ladder t) (lefts (condition t) (then (invariant_before t inv) (unit (plain (top (before_at t) inv)) ++ unit (negated (top (condition_at t) t.condition)))))

members : {xs ys zs : List Clause} → Merged xs ys zs → (x : Clause) → (x among zs) ↔ ((x among xs) ⊎ (x among ys))
unfolding ◌among◌
members none x = (λ h. inl h, ⊎_elim (λ h. h) (λ h. h))
members (left m) x =
    let e = members m x in (
      ⊎_elim (λ h. inl (inl h)) (λ h. ⊎_elim (λ p. inl (inr p)) (λ p. inr p) (e.0 h)),
      ⊎_elim (⊎_elim (λ h. inl h) (λ h. inr (e.1 (inl h)))) (λ h. inr (e.1 (inr h))),
    )
members (right m) x =
    let e = members m x in (
      ⊎_elim (λ h. inr (inl h)) (λ h. ⊎_elim (λ p. inl p) (λ p. inr (inr p)) (e.0 h)),
      ⊎_elim (λ h. inr (e.1 (inl h))) (⊎_elim (λ h. inl h) (λ h. inr (e.1 (inr h)))),
    )

pub parts : Parts
parts t inv w = record { members = members (merged t inv w); merged = merged t inv w }

both : {xs ys zs : List Clause} → Merged xs ys zs → (a : Assignment) → Holds a zs ↔ (Holds a xs × Holds a ys)
both none a = (λ h. (tt, tt), λ h. tt)
both (left m) a = let e = both m a in (λ h. ((h.0, (e.0 h.1).0), (e.0 h.1).1), λ h. (h.0.0, e.1 (h.0.1, h.1)))
both (right m) a = let e = both m a in (λ h. ((e.0 h.1).0, (h.0, (e.0 h.1).1)), λ h. (h.1.0, e.1 (h.0, h.1.1)))

-- a set holds when both of its parts do
pub parts_hold : (t : Sheet) (inv : Formula) (w : Which) (a : Assignment)
    → Holds a (clause_set t inv w) ↔ (Holds a (defining_part t inv w) × Holds a (unit_part t inv w))
parts_hold t inv w a = both (merged t inv w) a
