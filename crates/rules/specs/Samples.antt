-- The samples from the bench that are shown of the rules themselves, and those that pin each limit and two orders of faults.
use Rattle.std.specs.Prelude.{ℕ, zero, suc, ◌+◌, ◌*◌, ◌≡◌, List, [], ◌∷◌, ◌++◌, take, replicate}
use Rattle.base.specs.Lists.{All, each}
use Rattle.rules.specs.declared.Limits.{Limits}
use Rattle.rules.specs.Walk.{◌at◌}
use Rattle.rules.specs.Verdict.{Verdict, Verdict.accepted, Verdict.confirmed, Verdict.refused, judge}

pub record Sample : Type 0 where
  pub sheet : List ℕ
  pub certificate : List ℕ
  pub workspace : ℕ
  pub says : Verdict

abbrev pub ◌∥◌says◌ : List ℕ → List ℕ → Verdict → Sample
s ∥ c says v = record { sheet = s; certificate = c; workspace = 32768; says = v }

infix 68 ◌∥◌says◌
-- the rules say what the sample says
abbrev pub Right : Limits → Sample → Type 0
Right l x = judge l x.sheet x.certificate x.workspace ≡ x.says

abbrev pub head_s : List ℕ
head_s = 0x01 ∷ 0x01 ∷ 0x00 ∷ 0x01 ∷ 0x00 ∷ 0x01 ∷ 0x00 ∷ 0x02 ∷ 0x00 ∷ 0x00 ∷ 0x01 ∷ 0x10 ∷ 0x00 ∷ 0x00 ∷ 0x20 ∷ 0x00 ∷ 0x00 ∷ []

-- a := b, a starts on, condition b equals a
abbrev pub S : List ℕ
S =
    head_s
    ++ (0x10 ∷ 0x00 ∷ 0x00 ∷ 0x11 ∷ 0x00 ∷ 0x00 ∷ 0x14 ∷ 0x10 ∷ 0x00 ∷ 0x00 ∷ 0x13 ∷ 0x11 ∷ 0x00 ∷ 0x00 ∷ 0x13 ∷ 0x14 ∷ 0x15 ∷ 0x21 ∷ 0x2F ∷ [])

abbrev pub P : List ℕ
P = head_s ++ (0x11 ∷ 0x00 ∷ 0x00 ∷ 0x21 ∷ 0x2F ∷ [])

abbrev pub N : List ℕ
N = head_s ++ (0x11 ∷ 0x00 ∷ 0x00 ∷ 0x13 ∷ 0x21 ∷ 0x2F ∷ [])

abbrev pub ◌and◌by◌ : ℕ → ℕ → ℕ → List ℕ
a and b by p = 0x40 ∷ a ∷ 0x00 ∷ b ∷ 0x00 ∷ p ∷ 0x00 ∷ []

infix 70 ◌and◌by◌
abbrev pub Q : List ℕ
Q =
    (0x50 ∷ 0x12 ∷ 0x01 ∷ 0x51 ∷ [])
    ++ (2 and 3 by 13 ++ (0x41 ∷ []))
    ++ (5 and 6 by 14 ++ (0x41 ∷ []))
    ++ 21 and 26 by 12 ++ 22 and 26 by 12 ++ 9 and 27 by 6 ++ 20 and 28 by 11 ++ 4 and 29 by 4 ++ 6 and 31 by 5 ++ 2 and 32 by 3
    ++ 13 and 30 by 8 ++ 17 and 34 by 10 ++ 35 and 10 by 7 ++ 36 and 14 by 9 ++ 37 and 1 by 3 ++ 38 and 33 by 2
    ++ (0x41 ∷ 0x2F ∷ [])

abbrev pub starred : List Sample
starred =
    S ∥ Q says accepted
    ∷ S ∥ (take 112 Q) says (refused (12 at 112))
    ∷ S ∥ (Q ++ (0x00 ∷ [])) says (refused (26 at 113))
    ∷ (take 35 S) ∥ Q says (refused (2 at 35))
    ∷ [] ∥ Q says (refused (2 at 0))
    ∷ S ∥ [] says (refused (12 at 0))
    ∷ S ∥ (0x50 ∷ 0x12 ∷ 0x01 ∷ 0x51 ∷ 0x41 ∷ []) says (refused (22 at 4))
    ∷ P ∥ (0x60 ∷ 0x62 ∷ 0x2F ∷ []) says (confirmed 1)
    ∷ P ∥ (0x60 ∷ 0x61 ∷ 0x00 ∷ 0x00 ∷ 0x62 ∷ 0x2F ∷ []) says (refused (25 at 5))
    ∷ P ∥ (0x60 ∷ 0x61 ∷ 0x00 ∷ 0x00 ∷ 0x62 ∷ 0x62 ∷ 0x2F ∷ []) says (confirmed 2)
    ∷ P ∥ (0x60 ∷ 0x62 ∷ 0x61 ∷ 0x00 ∷ 0x00 ∷ 0x62 ∷ 0x2F ∷ []) says (refused (25 at 6))
    ∷ N ∥ (0x60 ∷ 0x62 ∷ 0x2F ∷ []) says (refused (25 at 2))
    ∷ []

-- the same bytes n times over
abbrev pub times : ℕ → List ℕ → List ℕ
times n bs = each (λ (x : ℕ). bs) (replicate n 0)

-- one coil
abbrev pub head_one : List ℕ
head_one = 0x01 ∷ 0x00 ∷ 0x00 ∷ 0x01 ∷ 0x00 ∷ 0x01 ∷ 0x00 ∷ []

-- n steps from j on, each deriving a clause one literal wider: over S, with an invariant of ORs, the next OR's third clause
-- is joined with the widest clause so far
abbrev pub widening : ℕ → ℕ → List ℕ
widening zero j = []
widening (suc n) j = (4 * j + 2) and (93 + j) by (11 + 2 * j) ++ widening n (j + 1)

-- each limit, met and one past it; a workspace one short; the orders 25 before 26 and 9 before 10
abbrev pub pinned : List Sample
pinned =
    (0x01 ∷ 0x01 ∷ 0x01 ∷ 0x01 ∷ 0x00 ∷ 0x00 ∷ 0x00 ∷ []) ∥ [] says (refused (4 at 0))
    ∷ (0x01 ∷ 0x00 ∷ 0x00 ∷ 0x01 ∷ 0x01 ∷ 0x00 ∷ 0x00 ∷ []) ∥ [] says (refused (4 at 0))
    ∷ (0x01 ∷ 0x00 ∷ 0x01 ∷ 0x00 ∷ 0x01 ∷ 0x00 ∷ 0x01 ∷ []) ∥ [] says (refused (2 at 7))
    ∷ (head_one ++ times 33 (0x12 ∷ 0x00 ∷ [])) ∥ [] says (refused (7 at 71))
    ∷ (head_one ++ (0x12 ∷ 0x00 ∷ replicate 1024 0x13)) ∥ [] says (refused (8 at 1032))
    ∷ S ∥ (0x50 ∷ 0x12 ∷ 0x01 ∷ replicate 256 0x13) says (refused (17 at 258))
    ∷ S ∥ ((0x50 ∷ 0x12 ∷ 0x01 ∷ 0x51 ∷ []) ++ times 513 (2 and 3 by 13)) says (refused (21 at 3588))
    ∷ S ∥ ((0x50 ∷ 0x12 ∷ 0x00 ∷ []) ++ (times 23 (0x12 ∷ 0x00 ∷ 0x15 ∷ []) ++ ((0x51 ∷ []) ++ 10 and 6 by 15 ++ widening 21 3))) says (refused (20 at 220))
    ∷ P ∥ (0x60 ∷ replicate 65 0x62) says (refused (24 at 65))
    ∷ record { sheet = S; certificate = Q; workspace = 32767; says = refused (1 at 0) }
    ∷ P ∥ (0x60 ∷ 0x61 ∷ 0x00 ∷ 0x00 ∷ 0x62 ∷ 0x2F ∷ 0x00 ∷ []) says (refused (25 at 5))
    ∷ (head_one ++ times 2 (0x12 ∷ 0x00 ∷ 0x20 ∷ 0x00 ∷ 0x00 ∷ [])) ∥ [] says (refused (9 at 14))
    ∷ []

-- all of them at once
pub record Hold (l : Limits) : Type 0 where
  pub bench : All (Right l) starred
  pub limits : All (Right l) pinned
