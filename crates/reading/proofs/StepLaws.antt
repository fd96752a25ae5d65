-- A certificate's steps: the marks of their reading are those of three refutations, and marks and bytes determine each other.
-- Assumes nothing.
use Prim.Native.Nat.{ℕ, ◌+◌, ◌≤◌, ◌<◌}
use mathlib.Core.Path.{◌≡◌, refl, sym, ap, ◌∙◌}
use mathlib.Core.Bool.{Bool, true, false}
use mathlib.Core.List.{List, [], ◌∷◌, ◌++◌, map, append-nil, append_assoc, map-append}
use native.Mathlib.Omega.{arith}
use lib.ListN.{length, get_or, drop, length-append}
use lib.Dec.{ltb, eqb}
use borrow.Author.Tests.{ltb-true, ltb-false, lt-ltb}
use Rattle.base.specs.Pick.{pick}
use Rattle.base.specs.Lists.{All, each}
use Rattle.rules.specs.Kind
use Rattle.rules.specs.Record.{rows, body_length, record_length, number, two_bytes, one_of}
use Rattle.rules.specs.Walk.{Move.go, Move.mark, Move.done, Reading.closed, reading}
use Rattle.rules.specs.WriteSheet.{Bytes}
use Rattle.rules.specs.Certificate.{Step, Mark, Mark.step, Mark.qed, steps_move, steps_reader, read_steps}
use Rattle.rules.specs.WriteCertificate.{write_step, write_refutation, WithinStep}
use Rattle.reading.specs.Readings.{marks, final}
use Rattle.reading.specs.Certificates.{refutation}
use Rattle.reading.proofs.FrontLaws.{Whole}
use Rattle.reading.proofs.WholeLaws.{record_at, bytes_drop, Arrived, arrives}
use Rattle.reading.proofs.ClipLaws.{Local}
use Rattle.reading.proofs.AlikeLaws.{pick_same, alike_at, number_alike}
use Rattle.reading.proofs.ByteLaws.{number_back, bare_bytes, numbers_bytes, one_of_all, each_snoc, each_more}
use Rattle.reading.proofs.RecordLaws.{bare_record, step_record}
use Rattle.reading.proofs.ListLaws.{all_snoc}
use Rattle.reading.proofs.LeadLaws.{Leads, leads_none, leads_then, leads_mark, reads_done}

-- the kinds that may come after n QEDs
pub data StepKind (n : ℕ) : ℕ → Type 0 where
  a_step : n < 3 → StepKind n 0x40
  a_qed : n < 3 → StepKind n 0x41
  an_end : 3 ≤ n → StepKind n 0x2F

step_kind : (n k : ℕ) → one_of (pick (ltb n 3) (0x40 ∷ 0x41 ∷ []) (0x2F ∷ [])) k ≡ true → StepKind n k
step_kind n k e = by (ltb n 3) refl e
  where
    by : (x : Bool) → ltb n 3 ≡ x → one_of (pick x (0x40 ∷ 0x41 ∷ []) (0x2F ∷ [])) k ≡ true → StepKind n k
    by true f g = let h = ltb-true n 3 f in one_of_all (StepKind n) (0x40 ∷ 0x41 ∷ []) k (a_step h, (a_qed h, tt)) g
    by false f g = one_of_all (StepKind n) (0x2F ∷ []) k (an_end (ltb-false n 3 f), tt) g

-- a mark's bytes, and its numbers in two bytes each
unfoldable pub write_mark : Mark → List ℕ
write_mark (step q) = write_step q
write_mark qed = Kind.QED ∷ []

unfoldable pub WithinMark : Mark → Type 0
WithinMark (step q) = WithinStep q
WithinMark qed = Unit {0}

-- what the steps' reading keeps: the bytes so far are those of the marks, which are whole refutations and then steps
pub record Stepped (n : ℕ) (ms : List Mark) (ws : List ℕ) : Type 0 where
  pub written : ws ≡ each write_mark ms
  pub within : All WithinMark ms
  pub over : List (List Step)
  pub under_way : List Step
  pub shaped : ms ≡ each refutation over ++ map step under_way
  pub counted : length over ≡ n
  pub most : n ≤ 3
  pub at_rest : 3 ≤ n → under_way ≡ []

step_shape : (ms : List Mark) (o : List (List Step)) (u : List Step) (q : Step) → ms ≡ each refutation o ++ map step u
    → ms ++ (step q ∷ []) ≡ each refutation o ++ map step (u ++ (q ∷ []))
step_shape ms o u q e = rw (e, map-append) (append_assoc (each refutation o) (map step u) (step q ∷ []))

qed_shape : (ms : List Mark) (o : List (List Step)) (u : List Step) → ms ≡ each refutation o ++ map step u → ms ++ (qed ∷ []) ≡ each refutation (o ++ (u ∷ [])) ++ []
unfolding refutation
qed_shape ms o u e =
    rw (e, append-nil (each refutation (o ++ (u ∷ []))), each_snoc refutation o u) (append_assoc (each refutation o) (map step u) (qed ∷ []))

module _ (n : ℕ) (ms : List Mark) (ws bs : List ℕ) (h : Bytes bs) (i : Stepped n ms ws) where
  goes : (u : ℕ) (k : ℕ) → StepKind n k → steps_move n k bs ≡ go u → Stepped u ms (ws ++ record_at bs)
  unfolding steps_move
  goes u k (a_step l) e = let z : ◌≡◌ {A = ℕ} 0 1 = cc in absurd (omega arith)
  goes u k (a_qed l) e = let z : ◌≡◌ {A = ℕ} 0 1 = cc in absurd (omega arith)
  goes u k (an_end l) e = let z : ◌≡◌ {A = ℕ} 0 1 = cc in absurd (omega arith)

  marking : (m : Mark) (u : ℕ) (k : ℕ) → Whole k bs → StepKind n k → steps_move n k bs ≡ mark m u → Stepped u (ms ++ (m ∷ [])) (ws ++ record_at bs)
  unfolding rows body_length record_length steps_move write_mark WithinMark write_step refutation
  marking m u k w (a_step l) e =
      let q : Step = record { first = number bs 1; second = number bs 3; pivot = number bs 5 } in
      let made : n ≡ u = cc in
      let same : step q ≡ m = cc in
      rw (← made, ← same) (record {
        written = each_more write_mark [] ws (record_at bs) ms (step q) i.written (numbers_bytes Kind.STEP bs w h refl);
        within = all_snoc WithinMark ms (step q) i.within
            (record { first_fits = omega (arith, h 1, h 2); second_fits = omega (arith, h 3, h 4); pivot_fits = omega (arith, h 5, h 6) });
        over = i.over;
        under_way = i.under_way ++ (q ∷ []);
        shaped = step_shape ms i.over i.under_way q i.shaped;
        counted = i.counted;
        most = i.most;
        at_rest = λ g. absurd (omega arith);
      })
  marking m u k w (a_qed l) e =
      let made : n + 1 ≡ u = cc in
      let same : qed ≡ m = cc in
      rw (← made, ← same) (record {
        written = each_more write_mark [] ws (record_at bs) ms qed i.written (bare_bytes Kind.QED bs w refl);
        within = all_snoc WithinMark ms qed i.within tt;
        over = i.over ++ (i.under_way ∷ []);
        under_way = [];
        shaped = qed_shape ms i.over i.under_way i.shaped;
        counted = rw length-append (omega (arith, i.counted));
        most = omega arith;
        at_rest = λ g. refl;
      })
  marking m u k w (an_end l) e = let z : ◌≡◌ {A = ℕ} 0 1 = cc in absurd (omega arith)

  closing : (k : ℕ) → Whole k bs → StepKind n k → steps_move n k bs ≡ done tt → (3 ≤ n) × Whole Kind.END bs
  unfolding steps_move
  closing k w (a_step l) e = let z : ◌≡◌ {A = ℕ} 0 1 = cc in absurd (omega arith)
  closing k w (a_qed l) e = let z : ◌≡◌ {A = ℕ} 0 1 = cc in absurd (omega arith)
  closing k w (an_end l) e = (l, w)

-- three refutations, and nothing else
pub record Three (ms : List Mark) : Type 0 where
  pub starting : List Step
  pub keeping : List Step
  pub saving : List Step
  pub shaped : ms ≡ refutation starting ++ (refutation keeping ++ refutation saving)

three : (n : ℕ) (ms : List Mark) (ws : List ℕ) → Stepped n ms ws → 3 ≤ n → Three ms
three n ms ws i h = by i.over i.under_way i.shaped (i.counted ∙ omega (arith, i.most)) (i.at_rest h)
  where
    by : (o : List (List Step)) (u : List Step) → ms ≡ each refutation o ++ map step u → length o ≡ 3 → u ≡ [] → Three ms
    by [] u e l r = absurd (omega arith)
    by (a ∷ []) u e l r = absurd (omega arith)
    by (a ∷ b ∷ []) u e l r = absurd (omega arith)
    by (a ∷ b ∷ c ∷ []) u e l r = record {
      starting = a;
      keeping = b;
      saving = c;
      shaped = e ∙ rw r (simp append-nil);
    }
    by (a ∷ b ∷ c ∷ d ∷ o) u e l r = absurd (omega arith)

-- steps as they were read: their marks, their bytes, and END after them
pub record StepsWritten (bs : List ℕ) (p q : ℕ) (ms : List Mark) : Type 0 where
  pub refutations_three : Three ms
  pub within : All WithinMark ms
  pub left : List ℕ
  pub bytes : drop p bs ≡ each write_mark ms ++ left
  pub ended : Whole Kind.END left
  pub place : q ≡ p + length (each write_mark ms)

pub steps_written : (bs : List ℕ) (p q : ℕ) → Bytes bs → final (read_steps bs p) ≡ closed q tt → StepsWritten bs p q (marks (read_steps bs p))
unfolding read_steps steps_reader
steps_written bs p q b e =
    let a : Arrived steps_reader Stepped (marks (read_steps bs p)) [] (drop p bs) p q tt =
    arrives steps_reader Stepped
    (λ n u ms ws cs h i k. goes n ms ws cs h i u (get_or cs 0 0) (step_kind n (get_or cs 0 0) k.allowed_kind) k.moved)
    (λ n u m ms ws cs h i k. marking n ms ws cs h i m u (get_or cs 0 0) k.whole_kind (step_kind n (get_or cs 0 0) k.allowed_kind) k.moved)
    0 [] [] (drop p bs) p q tt (bytes_drop p bs b)
    (record { written = refl; within = tt; over = []; under_way = []; shaped = refl; counted = refl; most = omega arith; at_rest = λ g. refl }) e in
    let k = a.closes in
    let c = closing a.state _ _ a.left a.bytes a.held (get_or a.left 0 0) k.whole_kind (step_kind a.state (get_or a.left 0 0) k.allowed_kind) k.moved in
    record {
      refutations_three = three a.state _ _ a.held c.0;
      within = a.held.within;
      left = a.left;
      bytes = a.split ∙ ap (λ (z : List ℕ). z ++ a.left) a.held.written;
      ended = c.1;
      place = a.place ∙ ap (λ (z : List ℕ). p + length z) a.held.written;
    }

-- written steps lead back to their marks
step_leads : (n : ℕ) (q : Step) → n < 3 → Leads steps_reader n (write_step q) (step q ∷ []) n
unfolding steps_reader steps_move write_step
step_leads n q h =
    leads_mark steps_reader n Kind.STEP (two_bytes q.first ++ (two_bytes q.second ++ two_bytes q.pivot)) (step_record q.first q.second q.pivot) (step q) n
    (rw (lt-ltb n 3 h)) (λ rest. rw (number_back q.first, number_back q.second, number_back q.pivot))

steps_lead : (n : ℕ) (qs : List Step) → n < 3 → Leads steps_reader n (each write_step qs) (map step qs) n
steps_lead n [] h = leads_none steps_reader n
steps_lead n (q ∷ qs) h = leads_then steps_reader n n n (write_step q) (each write_step qs) (step q ∷ []) (map step qs) (step_leads n q h) (steps_lead n qs h)

pub refutation_leads : (n : ℕ) (qs : List Step) → n < 3 → Leads steps_reader n (write_refutation qs) (refutation qs) (n + 1)
unfolding rows body_length steps_reader steps_move write_refutation refutation
refutation_leads n qs h =
    leads_then steps_reader n n (n + 1) (each write_step qs) (Kind.QED ∷ []) (map step qs) (qed ∷ [])
    (steps_lead n qs h)
    (leads_mark steps_reader n Kind.QED [] (bare_record Kind.QED refl) qed (n + 1) (rw (lt-ltb n 3 h)) (λ rest. refl))

pub end_reads : (p : ℕ) → reading steps_reader (Kind.END ∷ []) p 3 ≡ closed p tt
unfolding rows body_length steps_reader steps_move
end_reads p = reads_done steps_reader 3 Kind.END [] (bare_record Kind.END refl) tt [] p refl refl

-- a refutation's marks and its bytes
pub refutation_bytes : (qs : List Step) → each write_mark (refutation qs) ≡ write_refutation qs
unfolding write_mark refutation write_refutation
refutation_bytes [] = refl
refutation_bytes (q ∷ qs) = rw (refutation_bytes qs) (sym (append_assoc (write_step q) (each write_step qs) (Kind.QED ∷ [])))

pub refutation_within : (qs : List Step) (ms : List Mark) → All WithinMark (refutation qs ++ ms) → All WithinStep qs × All WithinMark ms
unfolding WithinMark refutation
refutation_within [] ms a = (tt, a.1)
refutation_within (q ∷ qs) ms a = let r = refutation_within qs ms a.1 in ((a.0, r.0), r.1)

pub steps_local : Local steps_reader
unfolding rows body_length record_length steps_reader steps_move
steps_local n k bs cs a =
    pick_same (eqb k Kind.STEP) _ _ _ _
    (λ e.
    let b = alike_at k bs cs a Kind.STEP e in
    rw (number_alike 7 bs cs b 1 (omega arith), number_alike 7 bs cs b 3 (omega arith), number_alike 7 bs cs b 5 (omega arith)))
    (λ e. refl)
