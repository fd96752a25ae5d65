-- Formulas read and written: what formula records keep of the stack, and that a written formula leads to its own value on it.
-- Assumes nothing.
use Prim.Native.Nat.{ℕ, ◌+◌, ◌≤◌, ◌<◌}
use mathlib.Core.Path.{◌≡◌, refl, ap, ◌∙◌}
use mathlib.Core.Bool.{true}
use mathlib.Core.List.{List, [], ◌∷◌, ◌++◌}
use native.Mathlib.Omega.{arith}
use lib.ListN.{length}
use lib.Dec.{eqb}
use borrow.Author.Tests.{eqb-true}
use Rattle.rules.specs.Record.{one_of}
use Rattle.rules.specs.Walk.{Move.go, Reader}
use Rattle.rules.specs.Formula.{Formula, Formula.leaf, Formula.inverse, Formula.both, Formula.either, Entry, Entry.put, Entry.NOT, Entry.AND, Entry.OR, size, height}
use Rattle.rules.specs.ReadFormula.{Faults, Bounds, arity, operand, build, Stack, Pushed.fine, formula_record}
use Rattle.rules.specs.WriteSheet.{Bytes, write_entry, write_formula, Names, Fits}
use Rattle.reading.proofs.FrontLaws.{Whole}
use Rattle.reading.proofs.WholeLaws.{record_at}
use Rattle.reading.proofs.EntryLaws.{FormulaKind, EntryNames, entry_names, entry_written, kind_of, body_of, entry_shape, written_entry, entry_back, range_back}
use Rattle.reading.proofs.StackLaws.{grown, Grows, record_grows, grows_push, write_stack, stack_size, StackFits, write_leaf, write_inverse, write_both, write_either, grown_written, grown_size, grown_fits}
use Rattle.reading.proofs.LeadLaws.{Leads, leads_then, leads_go}

-- a stack as formula records build it: before is how many were read before its oldest formula
pub record Stacked (b : Bounds) (before : ℕ) (st : Stack) : Type 0 where
  pub fits : StackFits b st.values
  pub counted : st.count ≡ before + stack_size st.values
  pub few : st.count ≤ b.records

-- a formula record keeps it, and adds its bytes
module _ (n : Faults) (b : Bounds) (before : ℕ) (st u : Stack) (k : ℕ) (bs : List ℕ)
    (s : Stacked b before st) (h : Bytes bs) (w : Whole k bs) (x : FormulaKind k) (e : formula_record n b st k bs ≡ fine u) where
  pub record_stacked : Stacked b before u
  record_stacked =
      let g = record_grows n b st k bs u e in
      rw (← g.2) (record {
        fits = grown_fits b _ st.values g.1.enough g.1.room (entry_names b k bs x g.0) s.fits;
        counted = let i = grown_size _ st.values g.1.enough in let j = s.counted in omega arith;
        few = let i = g.1.few in omega arith;
      })

  pub record_written : write_stack u.values ≡ write_stack st.values ++ record_at bs
  record_written =
      let g = record_grows n b st k bs u e in
      rw (← g.2) (grown_written _ st.values g.1.enough ∙ ap (λ (z : List ℕ). write_stack st.values ++ z) (entry_written b k bs x g.0 h w))

-- a closing record finds exactly one value
module _ (b : Bounds) (before : ℕ) (st : Stack) (s : Stacked b before st) (e : eqb (length st.values) 1 ≡ true) where
  single : (fs : List Formula) → length fs ≡ 1 → fs ≡ operand fs 0 ∷ []
  single [] h = absurd (omega arith)
  single (f ∷ []) h = refl
  single (f ∷ g ∷ fs) h = absurd (omega arith)

  alone : st.values ≡ operand st.values 0 ∷ []
  alone = single st.values (eqb-true (length st.values) 1 e)

  pub one_fits : Fits b (operand st.values 0)
  unfolding StackFits
  one_fits =
      let f : StackFits b (operand st.values 0 ∷ []) = rw alone at s.fits in
      record { names = f.0; low = omega arith }

  pub one_counted : st.count ≡ before + size (operand st.values 0)
  unfolding stack_size
  one_counted = s.counted ∙ ap (λ (fs : List Formula). before + stack_size fs) alone ∙ omega arith

  pub one_written : write_stack st.values ≡ write_formula (operand st.values 0)
  unfolding write_stack
  one_written = ap write_stack alone

height_some : (f : Formula) → 1 ≤ height f
unfolding height
height_some (leaf x) = omega arith
height_some (inverse f) = height_some f
height_some (both f g) = omega (arith, height_some f)
height_some (either f g) = omega (arith, height_some f)

-- a stack with one formula more
abbrev pub stacked_on : Stack → Formula → Stack
stacked_on st f = record { values = f ∷ st.values; count = st.count + size f }

-- a reader that takes formula records: from each state that is ready with a stack, a record in range leads to the state of the grown stack
pub record Takes {S M X : Type 0} (r : Reader S M X) (n : Faults) (b : Bounds) (Ready : Stack → S → Type 0) (state : Stack → S) : Type 1 where
  pub ready : (st : Stack) → Ready st (state st)
  pub allows : (st : Stack) (t : S) (e : Entry) → Ready st t → EntryNames b e → one_of (r.allowed t) (kind_of e) ≡ true
  pub moves : (st u : Stack) (t : S) (e : Entry) (bs : List ℕ) → Ready st t → formula_record n b st (kind_of e) bs ≡ fine u
      → r.move t (kind_of e) bs ≡ go (state u)

module _ {S M X : Type 0} (r : Reader S M X) (n : Faults) (b : Bounds) (Ready : Stack → S → Type 0) (state : Stack → S)
    (k : Takes r n b Ready state) where
  entry_leads : (st : Stack) (t : S) (e : Entry) → Ready st t → EntryNames b e → Grows b st e → Leads r t (write_entry e) [] (state (grown st e))
  unfolding formula_record
  entry_leads st t e h i g =
      rw entry_shape
      (leads_go r t (kind_of e) (body_of e) (written_entry e) (state (grown st e)) (k.allows st t e h i)
      (λ rest. k.moves st (grown st e) t e ((kind_of e ∷ body_of e) ++ rest) h
      (rw (formula_record, range_back b e rest i, entry_back e rest) (grows_push n b st e g))))

  -- two formulas, then a record that takes both
  pair_leads : (o : Entry) → arity o ≡ 2 → EntryNames b o → (f g : Formula) (st : Stack) (t : S) → length st.values < b.depth
      → st.count + size f + size g < b.records
      → Leads r t (write_formula f) [] (state (stacked_on st f)) → Leads r (state (stacked_on st f)) (write_formula g) [] (state (stacked_on (stacked_on st f) g))
      → Leads r t (write_formula f ++ (write_formula g ++ write_entry o)) [] (state (grown (stacked_on (stacked_on st f) g) o))
  pair_leads o a i f g st t j c x y =
      let s₁ = stacked_on st f in
      let s₂ = stacked_on s₁ g in
      let u = state (grown s₂ o) in
      leads_then r t (state s₁) u (write_formula f) (write_formula g ++ write_entry o) [] [] x
      (leads_then r (state s₁) (state s₂) u (write_formula g) (write_entry o) [] [] y
      (entry_leads s₂ (state s₂) o (k.ready s₂) i (record { enough = omega arith; room = rw a (omega arith); few = c })))

  pub formula_leads : (f : Formula) (st : Stack) (t : S) → Ready st t → Names b f → length st.values + height f ≤ b.depth
      → st.count + size f ≤ b.records → Leads r t (write_formula f) [] (state (stacked_on st f))
  unfolding Names height size arity build
  formula_leads (leaf x) st t h i j c =
      rw write_leaf (entry_leads st t (put x) h i (record { enough = omega arith; room = omega arith; few = omega arith }))
  formula_leads (inverse f) st t h i j c =
      let s₁ = stacked_on st f in
      let e : st.count + (size f + 1) ≡ st.count + size f + 1 = omega arith in
      rw (write_inverse, e)
      (leads_then r t (state s₁) _ (write_formula f) (write_entry NOT) [] []
      (formula_leads f st t h i j (omega arith))
      (entry_leads s₁ (state s₁) NOT (k.ready s₁) tt (record { enough = omega arith; room = omega (arith, height_some f); few = omega arith })))
  formula_leads (both f g) st t h i j c =
      let s₁ = stacked_on st f in
      let e : st.count + (size f + size g + 1) ≡ st.count + size f + size g + 1 = omega arith in
      rw (write_both, e)
      (pair_leads AND refl tt f g st t (omega (arith, height_some f)) (omega arith)
      (formula_leads f st t h i.0 (omega arith) (omega arith))
      (formula_leads g s₁ (state s₁) (k.ready s₁) i.1 (omega arith) (omega arith)))
  formula_leads (either f g) st t h i j c =
      let s₁ = stacked_on st f in
      let e : st.count + (size f + size g + 1) ≡ st.count + size f + size g + 1 = omega arith in
      rw (write_either, e)
      (pair_leads OR refl tt f g st t (omega (arith, height_some f)) (omega arith)
      (formula_leads f st t h i.0 (omega arith) (omega arith))
      (formula_leads g s₁ (state s₁) (k.ready s₁) i.1 (omega arith) (omega arith)))
