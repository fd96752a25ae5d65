-- Bytes are those of one formula only: its records are found one by one, and a byte of another kind closes it.
-- Assumes nothing.
use Prim.Native.Nat.{ℕ}
use mathlib.Core.Path.{◌≡◌, refl, sym, ap, ◌∙◌}
use mathlib.Core.List.{List, [], ◌∷◌, ◌++◌, append_assoc, append-nil}
use native.Mathlib.Omega.{arith}
use lib.ListN.{length, drop}
use lib.Seq.{drop-append_seam}
use Rattle.base.specs.Lists.{each}
use Rattle.rules.specs.Formula.{Leaf.input, Leaf.coil, Leaf.constant, Formula, Formula.leaf, Formula.inverse, Formula.both, Formula.either, Entry, Entry.put, Entry.NOT, Entry.AND, Entry.OR, postfix}
use Rattle.rules.specs.ReadFormula.{arity, build, operand}
use Rattle.rules.specs.WriteSheet.{write_entry, write_formula}
use Rattle.formulas.specs.Part.{part_for, part_of}
use Rattle.formulas.specs.declared.Part.{Part}
use Rattle.formulas.specs.declared.Part.TheVariants.{Input, Coil, Constant, Not, And, Or, Closing}
use Rattle.formulas.proofs.ReadBack.{read_back, closing_back}
use Rattle.clauses.specs.Formed.{Closes}

-- the record that the code's case is of
unfoldable entry_of : Part → Entry
entry_of (Input n) = put (input n)
entry_of (Coil n) = put (coil n)
entry_of (Constant b) = put (constant b)
entry_of Not = NOT
entry_of And = AND
entry_of Or = OR
entry_of Closing = NOT

entry_back : (e : Entry) → entry_of (part_for e) ≡ e
unfolding entry_of part_for
entry_back (put (input n)) = refl
entry_back (put (coil n)) = refl
entry_back (put (constant b)) = refl
entry_back NOT = refl
entry_back AND = refl
entry_back OR = refl

pub not_closing : (e : Entry) → part_for e ≡ Closing → ⊥
unfolding part_for
not_closing (put (input n)) h = let z : ◌≡◌ {A = ℕ} 0 1 = cc in omega arith
not_closing (put (coil n)) h = let z : ◌≡◌ {A = ℕ} 0 1 = cc in omega arith
not_closing (put (constant b)) h = let z : ◌≡◌ {A = ℕ} 0 1 = cc in omega arith
not_closing NOT h = let z : ◌≡◌ {A = ℕ} 0 1 = cc in omega arith
not_closing AND h = let z : ◌≡◌ {A = ℕ} 0 1 = cc in omega arith
not_closing OR h = let z : ◌≡◌ {A = ℕ} 0 1 = cc in omega arith

-- the first record of some
pub first_part : (e : Entry) (es : List Entry) (rest : List ℕ) → part_of (each write_entry (e ∷ es) ++ rest) ≡ part_for e
first_part e es rest = rw (append_assoc (write_entry e)) (read_back e (each write_entry es ++ rest))

module _ (e e' : Entry) (es es' : List Entry) (rest rest' : List ℕ) (h : each write_entry (e ∷ es) ++ rest ≡ each write_entry (e' ∷ es') ++ rest') where
  same_first : e ≡ e'
  same_first = sym (entry_back e) ∙ ap entry_of (sym (first_part e es rest) ∙ ap part_of h ∙ first_part e' es' rest') ∙ entry_back e'

  same_tails : each write_entry es ++ rest ≡ each write_entry es' ++ rest'
  same_tails =
      let x : write_entry e ++ (each write_entry es ++ rest) ≡ write_entry e ++ (each write_entry es' ++ rest') =
      sym (append_assoc (write_entry e) (each write_entry es) rest) ∙ h ∙ rw same_first (append_assoc (write_entry e') (each write_entry es') rest') in
      sym (drop-append_seam (write_entry e) (each write_entry es ++ rest))
      ∙ ap (drop (length (write_entry e))) x
      ∙ drop-append_seam (write_entry e) (each write_entry es' ++ rest')

same_entries : (es es' : List Entry) (rest rest' : List ℕ) → Closes rest → Closes rest'
    → each write_entry es ++ rest ≡ each write_entry es' ++ rest' → (es ≡ es') × (rest ≡ rest')
same_entries [] [] rest rest' c c' h = (refl, h)
same_entries [] (e ∷ es) rest rest' c c' h =
    absurd (not_closing e (sym (first_part e es rest') ∙ ap part_of (sym h) ∙ closing_back rest c))
same_entries (e ∷ es) [] rest rest' c c' h =
    absurd (not_closing e (sym (first_part e es rest) ∙ ap part_of h ∙ closing_back rest' c'))
same_entries (e ∷ es) (e' ∷ es') rest rest' c c' h =
    let q = same_entries es es' rest rest' c c' (same_tails e e' es es' rest rest' h) in
    (λ i. same_first e e' es es' rest rest' h i ∷ q.0 i, q.1)

-- records put together again
unfoldable grow : List Entry → List Formula → List Formula
grow [] fs = fs
grow (e ∷ es) fs = grow es (build e fs ∷ drop (arity e) fs)

grow_postfix : (f : Formula) (es : List Entry) (fs : List Formula) → grow (postfix f ++ es) fs ≡ grow es (f ∷ fs)
unfolding grow postfix build arity
grow_postfix (leaf x) es fs = refl
grow_postfix (inverse f) es fs = rw (append_assoc (postfix f), grow_postfix f (NOT ∷ es) fs)
grow_postfix (both f g) es fs =
    rw (append_assoc (postfix f), append_assoc (postfix g), grow_postfix f (postfix g ++ (AND ∷ es)) fs, grow_postfix g (AND ∷ es) (f ∷ fs))
grow_postfix (either f g) es fs =
    rw (append_assoc (postfix f), append_assoc (postfix g), grow_postfix f (postfix g ++ (OR ∷ es)) fs, grow_postfix g (OR ∷ es) (f ∷ fs))

regrown : (f : Formula) → operand (grow (postfix f) []) 0 ≡ f
unfolding grow
regrown f = ap (λ (fs : List Formula). operand fs 0) (rw (append-nil (postfix f)) at (grow_postfix f [] []))

pub same_formula : (f f' : Formula) (rest rest' : List ℕ) → Closes rest → Closes rest' → write_formula f ++ rest ≡ write_formula f' ++ rest'
    → (f ≡ f') × (rest ≡ rest')
unfolding write_formula
same_formula f f' rest rest' c c' h =
    let q = same_entries (postfix f) (postfix f') rest rest' c c' h in
    (sym (regrown f) ∙ ap (λ (es : List Entry). operand (grow es []) 0) q.0 ∙ regrown f', q.1)
