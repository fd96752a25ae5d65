-- One refutation over its clause set, and the three of a certificate one after the other.
-- Assumes nothing.
use Prim.Native.Nat.{ℕ, ◌+◌, ◌-◌, ◌*◌, ◌≤◌, ◌<◌}
use mathlib.Core.Path.{◌≡◌, refl, sym, ap, ◌∙◌, subst}
use mathlib.Core.Bool.{false}
use mathlib.Core.List.{List, ◌++◌}
use native.Mathlib.Omega.{arith}
use lib.ListN.{length, take, drop, length-append, length-drop}
use lib.Seq.{length-take-le}
use Rattle.std.specs.Prelude.{Result, Ok, Err}
use Rattle.rules.specs.declared.Limits.{Limits}
use Rattle.rules.specs.declared.Answer.{Answer}
use Rattle.rules.specs.declared.refusals.Refusal.{Refusal}
use Rattle.rules.specs.Certificate.{Which, Which.start, Which.keep, Which.safe}
use Rattle.rules.specs.Clauses.{Clause, places, variables, clause_set}
use Rattle.rules.specs.Verdict.{following, answer_of}
use Rattle.solving.proofs.Counted.{sets_placeable}
use Rattle.clauses.specs.declared.Layout.{Layout}
use Rattle.clauses.specs.Emits.{Emitted}
use Rattle.clauses.specs.Sets.{SetThere, SetWritten}
use Rattle.refutation.specs.Memory.{slot_at, Room, Held}
use Rattle.refutation.specs.Judging.{verdict, Ends, Judged, Ended}
use Rattle.refutation.proofs.PlaceLaws.{held_places}
use Rattle.refutation.proofs.CaseLaws.{next_case, fault_is, done_is, end_is}
use Rattle.checker.specs.Refuted.{clause_room, SafeAt, before_it, begun, Refutes, Follows}
use Rattle.clauses.proofs.PlacesLaws.{places_length, emits_places}
use Rattle.checker.proofs.CountLaws.{set_fits, filled_front, shorts}

module _ (l : Limits) (s c : List ℕ) (h : Layout) (work : List ℕ) (a : SafeAt l s c h work) where
  pub set_there : SetThere s c h
  set_there = record { limits = l; sheet = a.sheet; invariant = a.invariant; rest = a.rest; given = a.given }

  room_inside : clause_room l ≤ length work
  room_inside = let r = a.room in omega arith

  pub part_long : (from : ℕ) → from ≡ clause_room l → from ≡ length (take from work)
  part_long from e = let r = room_inside in sym (length-take-le from work (omega arith))

  -- the set's clauses, written at the front of the work places
  module _ (w : Which) (from : ℕ) (e : from ≡ clause_room l) (x : List ℕ) (n : ℕ) (z : SetWritten w s c h (take from work) x n) where
    abbrev cs : List Clause
    cs = clause_set a.sheet a.invariant w

    emitted : Emitted (take from work) 0 cs x n
    emitted = z.of l a.sheet a.invariant a.rest a.given

    few : 3 * length cs ≤ clause_room l
    few = set_fits l a.sheet a.invariant a.given.within a.given.invariant_within w

    fits_part : 3 * length cs ≤ length (take from work)
    fits_part = let p = part_long from e in let f = few in omega arith

    counted : n ≡ length cs
    counted = let k = emitted.counted in omega arith

    written_long : length x ≡ from
    written_long =
        let p = part_long from e in
        let f = fits_part in
        let y : length x ≡ 3 * length cs + (length (take from work) - 3 * length cs) =
        ap length (emitted.wrote ∙ emits_places (take from work) cs f) ∙ length-append (places cs) (drop (3 * length cs) (take from work))
        ∙ rw (places_length cs, length-drop (3 * length cs) (take from work)) in
        omega arith

    pub room_there : Room l (x ++ drop from work) n from
    room_there =
        let m = counted in
        let f = few in
        let y = written_long in
        let g : length (x ++ drop from work) ≡ length x + (length work - from) = length-append x (drop from work) ∙ ap (λ (k : ℕ). length x + k) (length-drop from work) in
        let r = a.room in
        let i = room_inside in
        let b : slot_at l from (l.steps + 1) ≡ slot_at l (clause_room l) (l.steps + 1) = ap (λ (k : ℕ). slot_at l k (l.steps + 1)) e in
        record { below = omega arith; room = omega arith; narrow = a.limited.width_few }

    held : Held l (x ++ drop from work) n from 0 cs
    held =
        subst (λ (k : ℕ). Held l (x ++ drop from work) k from 0 cs) (sym counted)
        (held_places l (x ++ drop from work) from cs
        (shorts (variables a.sheet a.invariant) cs (sets_placeable l a.sheet a.invariant a.given.within a.given.invariant_within w))
        (ap (λ (y : List ℕ). take (3 * length cs) (y ++ drop from work)) emitted.wrote ∙ filled_front (take from work) cs (drop from work) fits_part))

    few_before : (w : Which) → before_it w < 3
    unfolding before_it
    few_before start = omega arith
    few_before keep = omega arith
    few_before safe = omega arith

    pub refuted_so : (p : ℕ) (y : List ℕ) (r : Result ℕ Refusal) → Judged l c p (x ++ drop from work) n from y r → (fuel : ℕ) → length (drop p c) < fuel
        → Ends l c p (begun a.sheet a.invariant c w fuel) r
    refuted_so p y r d fuel k = d.ends (begun a.sheet a.invariant c w fuel) (record { few = few_before w; held = held; enough = k })

module _ (l : Limits) (s c : List ℕ) (h : Layout) (work : List ℕ) where
  pub refute_ends : (w : Which) (from : ℕ) → from ≡ clause_room l → (x : List ℕ) (n : ℕ) → SetWritten w s c h (take from work) x n
      → (p : ℕ) (y : List ℕ) (r : Result ℕ Refusal) → Judged l c p (x ++ drop from work) n from y r → Refutes l w s c h p work r
  refute_ends w from e x n z p y r d a fuel k = refuted_so l s c h work a w from e x n z p y r d fuel k

pub ruleset refute_cases = (set_there, part_long, room_there, refute_ends)

-- only the length of the work places matters
pub safe_again : (l : Limits) (s c : List ℕ) (h : Layout) (work work' : List ℕ) → length work' ≡ length work → SafeAt l s c h work → SafeAt l s c h work'
safe_again l s c h work work' e a = record {
  sheet = a.sheet;
  invariant = a.invariant;
  rest = a.rest;
  given = a.given;
  limited = a.limited;
  room = rw e a.room;
}

module _ (l : Limits) (s c : List ℕ) (h : Layout) (p : ℕ) (work : List ℕ) where
  -- the refutation that follows, and the one before it
  pub passed : (w w' : Which) (work' : List ℕ) (q : ℕ) (r : Result Answer Refusal) → length work' ≡ length work → Refutes l w s c h p work (Ok q)
      → following w ≡ w' → before_it w + 1 ≡ before_it w' → Follows w' l s c h q work' r → Follows w l s c h p work r
  unfolding safe_again
  passed w w' work' q r ew d ef eq f a fuel b =
      sym
      (done_is l c p (begun a.sheet a.invariant c w fuel) q (answer_of r) (d a fuel b)
      (λ f' b'.
      subst (λ (y : Which). verdict l c q 0 false (record { sheet = a.sheet; invariant = a.invariant; bytes = c; which = y; clauses = clause_set a.sheet a.invariant y; qeds = before_it w + 1; fuel = f' }) ≡ answer_of r) (sym ef)
      (subst (λ (n : ℕ). verdict l c q 0 false (record { sheet = a.sheet; invariant = a.invariant; bytes = c; which = w'; clauses = clause_set a.sheet a.invariant w'; qeds = n; fuel = f' }) ≡ answer_of r) (sym eq)
      (sym (f (safe_again l s c h work work' ew a) f' b')))))

  pub start_passed : (work' : List ℕ) (q : ℕ) (r : Result Answer Refusal) → length work' ≡ length work → Refutes l start s c h p work (Ok q)
      → Follows keep l s c h q work' r → Follows start l s c h p work r
  unfolding following before_it
  start_passed work' q r e d f = passed start keep work' q r e d refl refl f

  pub keep_passed : (work' : List ℕ) (q : ℕ) (r : Result Answer Refusal) → length work' ≡ length work → Refutes l keep s c h p work (Ok q)
      → Follows safe l s c h q work' r → Follows keep l s c h p work r
  unfolding following before_it
  keep_passed work' q r e d f = passed keep safe work' q r e d refl refl f

  pub faulty : (w : Which) (f : Refusal) → Refutes l w s c h p work (Err f) → Follows w l s c h p work (Err f)
  unfolding answer_of
  faulty w f d a fuel b = sym (fault_is l c p (begun a.sheet a.invariant c w fuel) f (d a fuel b))

  pub ended : (q : ℕ) (r : Result Answer Refusal) → Refutes l safe s c h p work (Ok q) → Ended c q r → Follows safe l s c h p work r
  unfolding before_it
  ended q r d e a fuel b =
      sym
      (done_is l c p (begun a.sheet a.invariant c safe fuel) q (answer_of r) (d a fuel b)
      (λ f b'. end_is l c q (next_case (begun a.sheet a.invariant c safe fuel) f) r e refl refl b'))
