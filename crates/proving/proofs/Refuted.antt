-- A refutation that is judged to its QED is a refutation by the rule, and the other way round.
-- Assumes nothing.
use Prim.Native.Nat.{ℕ, ◌+◌, ◌≤◌}
use mathlib.Core.Path.{◌≡◌, refl, sym, ◌∙◌}
use mathlib.Core.Logic.{◌↔◌}
use mathlib.Core.Bool.{true, false≢true}
use mathlib.Core.List.{List, [], ◌∷◌, ◌++◌, map, append_assoc}
use native.Mathlib.Omega.{arith}
use lib.ListN.{length}
use Rattle.rules.specs.declared.Limits.{Limits}
use Rattle.rules.specs.Formula.{Formula}
use Rattle.rules.specs.Sheet.{Sheet}
use Rattle.rules.specs.Certificate.{Step, Which, Which.start, Which.keep, Which.safe, Certificate, Mark, Mark.step, Mark.qed}
use Rattle.rules.specs.Clauses.{Clause, clause_set}
use Rattle.rules.specs.Resolution.{has, Run, Run.ready, Run.next, Refutes, latest, is_empty}
use Rattle.rules.specs.Verdict.{Refuting, refuting, following}
use Rattle.reading.specs.Certificates.{refutation, refutations}
use Rattle.proving.specs.Grounds.{Matching, Deduced}
use Rattle.proving.proofs.Literals.{alike_empty}
use Rattle.proving.proofs.Derived.{derive_deduced, deduced_derive}
use Rattle.proving.proofs.Matched.{matching_self, matching_snoc, matching_latest, latest_snoc, matching_rule}
use Rattle.proving.proofs.Passed.{grown, Passes}

-- a refutation under way knows whether its latest step derived the empty clause
abbrev Tracks : Refuting → Type 0
Tracks g = (g.emptied ≡ true) ↔ ((1 ≤ g.steps) × (latest g.clauses [] ≡ []))

tracks_first : (t : Sheet) (inv : Formula) (w : Which) → Tracks (refuting t inv w)
tracks_first t inv w = (λ e. absurd (false≢true e), λ h. let k = h.0 in absurd (omega arith))

empty_is : (e : Clause) → (is_empty e ≡ true) ↔ (e ≡ [])
unfolding is_empty
empty_is [] = (λ h. refl, λ h. refl)
empty_is (x ∷ e) = (λ h. absurd (false≢true h), λ h. let z : ◌≡◌ {A = ℕ} 0 1 = cc in absurd (omega arith))

tracks_grown : (g : Refuting) (e : Clause) → Tracks (grown g e)
tracks_grown g e = (
  λ h. (omega arith, latest_snoc g.clauses e [] ∙ (empty_is e).0 h),
  λ h. (empty_is e).1 (sym (latest_snoc g.clauses e []) ∙ h.1),
)

-- steps from a refutation under way to a right QED
record Ended (l : Limits) (cs : List Clause) (n : ℕ) (qs : List Step) : Type 0 where
  pub out : List Clause
  pub runs : Run l cs qs out
  pub some : 1 ≤ n + length qs
  pub few : n + length qs ≤ l.steps
  pub ends : latest out [] ≡ []

ended_step : (l : Limits) (cs : List Clause) (n : ℕ) (q : Step) (qs : List Step) (e : Clause) → Deduced l cs n q e
    → Ended l (cs ++ (e ∷ [])) (n + 1) qs → Ended l cs n (q ∷ qs)
ended_step l cs n q qs e d h = record {
  out = h.out;
  runs = next d.rule d.narrow h.runs;
  some = omega arith;
  few = let k = h.few in omega arith;
  ends = h.ends;
}

module _ (l : Limits) (t : Sheet) (inv : Formula) where
  abbrev Later : Refuting → List Mark → Type 0
  Later g ms = Passes l t inv (refuting t inv (following g.which)) ms

  passes_ended : (qs : List Step) (g : Refuting) (ms : List Mark) → Tracks g → g.steps ≤ l.steps → Passes l t inv g (map step qs ++ (qed ∷ ms))
      → Ended l g.clauses g.steps qs × Later g ms
  passes_ended [] g ms k b p =
      let h = k.0 p.0 in
      (record { out = g.clauses; runs = ready; some = let a = h.0 in omega arith; few = omega arith; ends = h.1 }, p.1)
  passes_ended (q ∷ qs) g ms k b p =
      let d = derive_deduced l g.clauses g.steps q p.0 p.1 in
      let s = passes_ended qs (grown g p.0) ms (tracks_grown g p.0) (let a = d.early in omega arith) p.2 in
      (ended_step l g.clauses g.steps q qs p.0 d s.0, s.1)

  run_passes : (g : Refuting) (ms : List Mark) {cs : List Clause} {qs : List Step} {out : List Clause} → Run l cs qs out → Matching cs g.clauses → Tracks g
      → 1 ≤ g.steps + length qs → g.steps + length qs ≤ l.steps → latest out [] ≡ [] → Later g ms → Passes l t inv g (map step qs ++ (qed ∷ ms))
  unfolding has
  run_passes g ms (ready {cs = cs}) m k a b e p =
      let h : latest g.clauses [] ≡ [] = alike_empty (latest g.clauses []) (rw e at (matching_latest cs g.clauses [] [] m (λ x. refl))) in
      (k.1 (omega arith, h), p)
  run_passes g ms (next {cs = cs} {q = q} {qs = qs} {e = e} r w s) m k a b z p =
      let d : Deduced l g.clauses g.steps q e = record { rule = matching_rule cs g.clauses m q e r; narrow = w; early = omega arith } in
      let f = deduced_derive l g.clauses g.steps q e d in
      (f.0, f.1, run_passes (grown g f.0) ms s (matching_snoc cs g.clauses e f.0 m f.2) (tracks_grown g f.0) (omega arith) (omega arith) z p)

  -- one refutation, from its set
  set_passes : (w : Which) (qs : List Step) (ms : List Mark) → Passes l t inv (refuting t inv w) (map step qs ++ (qed ∷ ms))
      ↔ (Refutes l (clause_set t inv w) qs × Passes l t inv (refuting t inv (following w)) ms)
  set_passes w qs ms = (there, back)
    where
      there : Passes l t inv (refuting t inv w) (map step qs ++ (qed ∷ ms)) → Refutes l (clause_set t inv w) qs × Passes l t inv (refuting t inv (following w)) ms
      there p =
          let h = passes_ended qs (refuting t inv w) ms (tracks_first t inv w) (omega arith) p in
          let a = h.0.some in
          let b = h.0.few in
          (record { out = h.0.out; runs = h.0.runs; some = omega arith; few = omega arith; ends = h.0.ends }, h.1)

      back : Refutes l (clause_set t inv w) qs × Passes l t inv (refuting t inv (following w)) ms → Passes l t inv (refuting t inv w) (map step qs ++ (qed ∷ ms))
      back h =
          let a = h.0.some in
          let b = h.0.few in
          run_passes (refuting t inv w) ms h.0.runs (matching_self (clause_set t inv w)) (tracks_first t inv w) (omega arith) (omega arith) h.0.ends h.1

  -- all three
  pub all_pass : (d : Certificate) → Passes l t inv (refuting t inv start) (refutations d) ↔ ((w : Which) → Refutes l (clause_set t inv w) (d.steps w))
  unfolding refutation refutations following
  all_pass d = (λ p. there (rw listed at p), λ h. rw listed (back h))
    where
      third : List Mark
      third = map step (d.steps safe) ++ (qed ∷ [])

      second : List Mark
      second = map step (d.steps keep) ++ (qed ∷ third)

      listed : refutations d ≡ map step (d.steps start) ++ (qed ∷ second)
      listed = simp append_assoc

      there : Passes l t inv (refuting t inv start) (map step (d.steps start) ++ (qed ∷ second)) → (w : Which) → Refutes l (clause_set t inv w) (d.steps w)
      there p start = ((set_passes start (d.steps start) second).0 p).0
      there p keep = ((set_passes keep (d.steps keep) third).0 ((set_passes start (d.steps start) second).0 p).1).0
      there p safe = ((set_passes safe (d.steps safe) []).0 ((set_passes keep (d.steps keep) third).0 ((set_passes start (d.steps start) second).0 p).1).1).0

      back : ((w : Which) → Refutes l (clause_set t inv w) (d.steps w)) → Passes l t inv (refuting t inv start) (map step (d.steps start) ++ (qed ∷ second))
      back h =
          (set_passes start (d.steps start) second).1
          (h start, (set_passes keep (d.steps keep) third).1 (h keep, (set_passes safe (d.steps safe) []).1 (h safe, tt)))
