-- A whole reading of steps has three refutations, each of STEPs then QED, and nothing after them.
-- Assumes nothing.
use Prim.Native.Nat.{ℕ, zero, suc, ◌+◌, ◌<◌, ◌≤◌}
use mathlib.Core.Path.{◌≡◌, refl, sym, ap, ◌∙◌}
use mathlib.Core.Bool.{Bool, true, false, ◌||◌, false≢true, or-false}
use mathlib.Core.List.{List, [], ◌∷◌, ◌++◌, map, append_assoc}
use native.Mathlib.Omega.{arith}
use lib.ListN.{length, get_or, drop}
use lib.Dec.{ltb, eqb}
use borrow.Author.Tests.{ltb-true, ltb-false, eqb-true}
use Rattle.base.specs.Pick.{pick}
use Rattle.rules.specs.Kind
use Rattle.rules.specs.Record.{record_length, number, one_of}
use Rattle.rules.specs.Walk.{Move, Move.go, Move.mark, Move.no, Move.done, Reading, Reading.closed, move_at, past, walk}
use Rattle.rules.specs.Formula.{Formula}
use Rattle.rules.specs.Certificate.{Step, Which, Which.start, Which.keep, Which.safe, Mark, Mark.step, Mark.qed, steps_move, steps_reader, read_steps}
use Rattle.reading.specs.Readings.{marks, final}
use Rattle.reading.specs.Certificates.{refutation, refutations}
use Rattle.reading.proofs.WalkLaws.{Took, move_took, walk_mark, walk_no, walk_done}

abbrev StepsMove : Type 0
StepsMove = Move ℕ Mark (Unit {0})

-- what a record does after c QEDs
data Read (c : ℕ) : StepsMove → Type 0 where
  stepping : (q : Step) → c < 3 → Read c (mark (step q) c)
  proving : c < 3 → Read c (mark qed (c + 1))
  ending : 3 ≤ c → Read c (done tt)

module _ (c k : ℕ) (bs : List ℕ) where
  stated : Step
  stated = record { first = number bs 1; second = number bs 3; pivot = number bs 5 }

  abbrev chosen : Bool → Bool → StepsMove
  chosen a b = pick a (mark (step stated) c) (pick b (mark qed (c + 1)) (done tt))

  before_three : (a b : Bool) → c < 3 → (a || (b || false)) ≡ true → Read c (chosen a b)
  before_three true b h e = stepping stated h
  before_three false true h e = proving h
  before_three false false h e = absurd (false≢true e)

  at_end : (eqb k Kind.END || false) ≡ true → 3 ≤ c → Read c (chosen (eqb k Kind.STEP) (eqb k Kind.QED))
  at_end e h = let f : k ≡ Kind.END = eqb-true k Kind.END (sym (or-false (eqb k Kind.END)) ∙ e) in rw f (ending h)

  by_kind : (b : Bool) → ltb c 3 ≡ b → one_of (pick b (Kind.STEP ∷ Kind.QED ∷ []) (Kind.END ∷ [])) k ≡ true
      → Read c (chosen (eqb k Kind.STEP) (eqb k Kind.QED))
  by_kind true h o = before_three (eqb k Kind.STEP) (eqb k Kind.QED) (ltb-true c 3 h) o
  by_kind false h o = at_end o (ltb-false c 3 h)

read : (c : ℕ) (bs : List ℕ) {m : StepsMove} → Took steps_reader c bs m → Read c m
unfolding steps_reader steps_move stated
read c bs h = rw h.moved at (by_kind c (get_or bs 0 0) bs (ltb c 3) refl h.allowed_kind)

-- k refutations
abbrev pub Split : ℕ → List Mark → Type 0
Split zero ms = ms ≡ []
Split (suc k) ms = (qs : List Step) × (rest : List Mark) × (ms ≡ map step qs ++ (qed ∷ rest)) × Split k rest

split_step : (k : ℕ) (q : Step) (ms : List Mark) → Split (suc k) ms → Split (suc k) (step q ∷ ms)
split_step k q ms s = (q ∷ s.0, s.1, ap (λ (ns : List Mark). step q ∷ ns) s.2, s.3)

split_qed : (k : ℕ) (ms : List Mark) → Split k ms → Split (suc k) (qed ∷ ms)
split_qed k ms s = ([], ms, refl, s)

by_told : (k c : ℕ) → c + k ≡ 3 → {m : Mark} {u : ℕ} → Read c (mark m u) → (ms : List Mark)
    → ((j : ℕ) → u + j ≡ 3 → Split j ms) → Split k (m ∷ ms)
by_told zero c e (stepping q h) ms f = absurd (omega arith)
by_told zero c e (proving h) ms f = absurd (omega arith)
by_told (suc k) c e (stepping q h) ms f = split_step k q ms (f (suc k) e)
by_told (suc k) c e (proving h) ms f = split_qed k ms (f k (omega arith))

by_ended : (k c : ℕ) → c + k ≡ 3 → {x : Unit {0}} → Read c (done x) → Split k []
by_ended zero c e (ending h) = refl
by_ended (suc k) c e (ending h) = absurd (omega arith)

by_went : (c : ℕ) {u : ℕ} → Read c (go u) → ⊥
by_went c = elim [ ]

module _ (n : ℕ) (bs : List ℕ) (p c k : ℕ) (e : c + k ≡ 3) (q : ℕ) (x : Unit {0}) where
  rest : ℕ → Reading Mark (Unit {0})
  rest u = walk steps_reader n (past bs) (p + record_length (get_or bs 0 0)) u

  by_move : (y : StepsMove) → move_at steps_reader c bs ≡ y → final (walk steps_reader (suc n) bs p c) ≡ closed q x
      → ((u j : ℕ) → u + j ≡ 3 → final (rest u) ≡ closed q x → Split j (marks (rest u))) → Split k (marks (walk steps_reader (suc n) bs p c))
  unfolding marks final rest
  by_move (go u) f h ih = absurd (by_went c (read c bs (move_took steps_reader c bs (go u) f tt)))
  by_move (mark m u) f h ih =
      let s = walk_mark steps_reader c bs n p m u f in
      rw s (by_told k c e (read c bs (move_took steps_reader c bs (mark m u) f tt)) (marks (rest u)) (λ j i. ih u j i (rw s at h)))
  by_move (no i) f h ih = let z : ◌≡◌ {A = ℕ} 0 1 = cc (walk_no steps_reader c bs n p i f) in absurd (omega arith)
  by_move (done y) f h ih =
      rw (walk_done steps_reader c bs n p y f) (by_ended k c e (read c bs (move_took steps_reader c bs (done y) f tt)))

split_whole : (n : ℕ) (bs : List ℕ) (p c k : ℕ) → c + k ≡ 3 → (q : ℕ) (x : Unit {0}) → final (walk steps_reader n bs p c) ≡ closed q x
    → Split k (marks (walk steps_reader n bs p c))
unfolding walk final rest
split_whole zero bs p c k e q x h = let z : ◌≡◌ {A = ℕ} 0 1 = cc in absurd (omega arith)
split_whole (suc n) bs p c k e q x h =
    by_move n bs p c k e q x (move_at steps_reader c bs) refl h (λ u j i. split_whole n (past bs) (p + record_length (get_or bs 0 0)) u j i q x)

-- one list of steps for each set
abbrev pub each_set : List Step → List Step → List Step → Which → List Step
each_set a b c start = a
each_set a b c keep = b
each_set a b c safe = c

three_sets : (inv : Formula) (ms : List Mark) → Split 3 ms → (qs : Which → List Step) × (ms ≡ refutations (record { invariant = inv; steps = qs }))
unfolding refutation refutations
three_sets inv ms s = (
  each_set s.0 s.3.0 s.3.3.0,
  s.2 ∙ rw (s.3.2, s.3.3.2, s.3.3.3) (simp append_assoc),
)

pub three_refutations : (inv : Formula) (bs : List ℕ) (p q : ℕ) (x : Unit {0}) → final (read_steps bs p) ≡ closed q x
    → (qs : Which → List Step) × (marks (read_steps bs p) ≡ refutations (record { invariant = inv; steps = qs }))
unfolding read_steps
three_refutations inv bs p q x h = three_sets inv (marks (read_steps bs p)) (split_whole (suc (length (drop p bs))) (drop p bs) p 0 3 refl q x h)
