-- How lent memory holds clauses: base clauses of three places each from place 0 on, and from a place on the slots of the derived ones.
use Rattle.std.specs.Prelude.{ℕ, ◌+◌, ◌*◌, ◌≤◌, ◌<◌, ◌≡◌, ◌&&◌, List, [], length, get_or, take, drop, ltb}
use Rattle.rules.specs.declared.Limits.{Limits}
use Rattle.rules.specs.Record.{one_of}
use Rattle.rules.specs.Clauses.{Lit, Clause, place}
use Rattle.rules.specs.Resolution.{has, NoneTwice}

-- k places from place s on
abbrev pub part : List ℕ → ℕ → ℕ → List ℕ
part w s k = take k (drop s w)

-- these places stand for the clause: a literal is in it exactly when its code is among them; 0 is the filler
pub record Means (bs : List ℕ) (c : Clause) : Type 0 where
  pub members : (x : Lit) → has c x ≡ (ltb 0 (place x) && one_of bs (place x))

-- the slot at place a holds the clause: its size, then its literals, in any order
pub record Slot (w : List ℕ) (a : ℕ) (c : Clause) : Type 0 where
  pub size : get_or w a 0 ≡ length c
  pub set : NoneTwice c
  pub literals : Means (part w (a + 1) (get_or w a 0)) c

-- where derived clause number j stands, counted from 0
abbrev pub slot_at : Limits → ℕ → ℕ → ℕ
slot_at l from j = from + j * (l.width + 1)

-- memory holds these clauses: n base ones, then m derived ones
pub record Held (l : Limits) (w : List ℕ) (n from m : ℕ) (cs : List Clause) : Type 0 where
  pub count : length cs ≡ n + m
  pub base : (i : ℕ) → i < n → Means (part w (3 * i) 3) (get_or cs i [])
  pub derived : (j : ℕ) → j < m → Slot w (slot_at l from j) (get_or cs (n + j) [])

-- there is room for the base clauses, for a slot for each step that is allowed, and for one more, which is made before it is refused
pub record Room (l : Limits) (w : List ℕ) (n from : ℕ) : Type 0 where
  pub below : 3 * n ≤ from
  pub room : slot_at l from (l.steps + 1) ≤ length w
  pub narrow : l.width < 65536

-- m derived clauses are there, none over the width
pub record Fit (l : Limits) (w : List ℕ) (n from m : ℕ) : Type 0 where
  pub space : Room l w n from
  pub few : m ≤ l.steps
  pub small : (j : ℕ) → j < m → get_or w (slot_at l from j) 0 ≤ l.width

-- the places before a and those from b on are as they were
pub record Outside (a b : ℕ) (w w' : List ℕ) : Type 0 where
  pub front : take a w' ≡ take a w
  pub rest : drop b w' ≡ drop b w
