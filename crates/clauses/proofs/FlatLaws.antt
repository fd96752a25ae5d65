-- A formula's defining clauses are those of its records in postfix order, from a stack of variables that never runs short.
-- Assumes nothing.
use Prim.Native.Nat.{ℕ, ◌+◌, ◌-◌, ◌*◌, ◌≤◌, ◌<◌}
use mathlib.Core.Path.{◌≡◌, refl}
use mathlib.Core.Bool.{true, false}
use mathlib.Core.List.{List, [], ◌∷◌, ◌++◌, append_assoc, append-nil}
use native.Mathlib.Omega.{arith}
use lib.ListN.{length, drop, length-append}
use Rattle.rules.specs.Formula.{Leaf, Leaf.input, Leaf.coil, Leaf.constant, Formula, Formula.leaf, Formula.inverse, Formula.both, Formula.either, Entry, Entry.put, Entry.NOT, Entry.AND, Entry.OR, postfix, size, height}
use Rattle.rules.specs.ReadFormula.{Bounds, arity}
use Rattle.rules.specs.WriteSheet.{Names}
use Rattle.rules.specs.Clauses.{Vars, Clause, top, leaf_clauses, defining}
use Rattle.formulas.specs.Part.{part_for}
use Rattle.clauses.specs.Stack.{part_clauses, takes}

-- record g's clauses, then those of the records after it
unfoldable pub flat : Vars → ℕ → List Entry → List ℕ → List Clause
flat vs g [] st = []
flat vs g (e ∷ es) st = part_clauses vs g (part_for e) st ++ flat vs (g + 1) es (g ∷ drop (arity e) st)

pub takes_for : (e : Entry) → takes (part_for e) ≡ arity e
unfolding takes part_for arity
takes_for (put (input n)) = refl
takes_for (put (coil n)) = refl
takes_for (put (constant b)) = refl
takes_for NOT = refl
takes_for AND = refl
takes_for OR = refl

leaf_clauses_lem : (vs : Vars) (g : ℕ) (x : Leaf) (st : List ℕ) → part_clauses vs g (part_for (put x)) st ≡ leaf_clauses vs g x
unfolding part_clauses part_for leaf_clauses
leaf_clauses_lem vs g (input n) st = refl
leaf_clauses_lem vs g (coil n) st = refl
leaf_clauses_lem vs g (constant true) st = refl
leaf_clauses_lem vs g (constant false) st = refl

pub flat_postfix : (vs : Vars) (g : ℕ) (f : Formula) (es : List Entry) (st : List ℕ)
    → flat vs g (postfix f ++ es) st ≡ defining vs g f ++ flat vs (g + size f) es (top g f ∷ st)
unfolding flat postfix defining size arity part_clauses part_for
flat_postfix vs g (leaf x) es st =
    let a : g + 1 - 1 ≡ g = omega arith in
    rw (a, leaf_clauses_lem vs g x st)
flat_postfix vs g (inverse f) es st =
    let a : g + (size f + 1) ≡ g + size f + 1 = omega arith in
    let b : g + size f + 1 - 1 ≡ g + size f = omega arith in
    rw (append_assoc (postfix f) (NOT ∷ []) es, flat_postfix vs g f (NOT ∷ es) st, a, b, append_assoc (defining vs g f))
flat_postfix vs g (both f h) es st =
    let a : g + (size f + size h + 1) ≡ g + size f + size h + 1 = omega arith in
    let b : g + size f + size h + 1 - 1 ≡ g + size f + size h = omega arith in
    rw (
      append_assoc (postfix f),
      append_assoc (postfix h),
      flat_postfix vs g f (postfix h ++ (AND ∷ es)) st,
      flat_postfix vs (g + size f) h (AND ∷ es) (top g f ∷ st),
      a,
      b,
      append_assoc (defining vs g f),
      append_assoc (defining vs (g + size f) h),
    )
flat_postfix vs g (either f h) es st =
    let a : g + (size f + size h + 1) ≡ g + size f + size h + 1 = omega arith in
    let b : g + size f + size h + 1 - 1 ≡ g + size f + size h = omega arith in
    rw (
      append_assoc (postfix f),
      append_assoc (postfix h),
      flat_postfix vs g f (postfix h ++ (OR ∷ es)) st,
      flat_postfix vs (g + size f) h (OR ∷ es) (top g f ∷ st),
      a,
      b,
      append_assoc (defining vs g f),
      append_assoc (defining vs (g + size f) h),
    )

pub flat_whole : (vs : Vars) (g : ℕ) (f : Formula) → flat vs g (postfix f) [] ≡ defining vs g f
unfolding flat
flat_whole vs g f = rw (append-nil (postfix f), append-nil (defining vs g f)) at (flat_postfix vs g f [] [])

pub postfix_size : (f : Formula) → length (postfix f) ≡ size f
unfolding postfix size
postfix_size (leaf x) = refl
postfix_size (inverse f) = simp (length-append, postfix_size f)
postfix_size (both f h) = simp (length-append, postfix_size f, postfix_size h) (omega arith)
postfix_size (either f h) = simp (length-append, postfix_size f, postfix_size h) (omega arith)

-- three clauses a record at most
pub few_clauses : (vs : Vars) (g : ℕ) (f : Formula) → length (defining vs g f) ≤ 3 * size f
unfolding defining size leaf_clauses
few_clauses vs g (leaf (input n)) = omega arith
few_clauses vs g (leaf (coil n)) = omega arith
few_clauses vs g (leaf (constant true)) = omega arith
few_clauses vs g (leaf (constant false)) = omega arith
few_clauses vs g (inverse f) = simp length-append (omega (arith, few_clauses vs g f))
few_clauses vs g (both f h) = simp length-append (omega (arith, few_clauses vs g f, few_clauses vs (g + size f) h))
few_clauses vs g (either f h) = simp length-append (omega (arith, few_clauses vs g f, few_clauses vs (g + size f) h))

-- a record finds its operands and room for its own value, and names what is there
unfoldable pub EntryNames : Bounds → Entry → Type 0
EntryNames b (put x) = Names b (leaf x)
EntryNames b NOT = Unit {0}
EntryNames b AND = Unit {0}
EntryNames b OR = Unit {0}

pub record Proper (b : Bounds) (d : ℕ) (e : Entry) : Type 0 where
  pub enough : arity e ≤ d
  pub room : d - arity e < b.depth
  pub named : EntryNames b e

unfoldable pub Sound : Bounds → ℕ → List Entry → Type 0
Sound b d [] = Unit {0}
Sound b d (e ∷ es) = Proper b d e × Sound b (d - arity e + 1) es

some_height : (f : Formula) → 1 ≤ height f
unfolding height
some_height (leaf x) = omega arith
some_height (inverse f) = some_height f
some_height (both f h) = omega (arith, some_height f)
some_height (either f h) = omega (arith, some_height f)

sound_postfix : (b : Bounds) (d : ℕ) (f : Formula) (es : List Entry) → Names b f → d + height f ≤ b.depth → Sound b (d + 1) es
    → Sound b d (postfix f ++ es)
unfolding postfix height Names Sound arity EntryNames
sound_postfix b d (leaf x) es n h q =
    let a : d - 0 + 1 ≡ d + 1 = omega arith in
    (record { enough = omega arith; room = omega arith; named = n }, rw a q)
sound_postfix b d (inverse f) es n h q =
    let a : d + 1 - 1 + 1 ≡ d + 1 = omega arith in
    rw (append_assoc (postfix f))
    (sound_postfix b d f (NOT ∷ es) n h (record { enough = omega arith; room = omega (arith, some_height f); named = tt }, rw a q))
sound_postfix b d (both f g) es n h q =
    let a : d + 1 + 1 - 2 + 1 ≡ d + 1 = omega arith in
    let k : Sound b (d + 1 + 1) (AND ∷ es) = (record { enough = omega arith; room = omega (arith, some_height f); named = tt }, rw a q) in
    rw (append_assoc (postfix f), append_assoc (postfix g))
    (sound_postfix b d f (postfix g ++ (AND ∷ es)) n.0 (omega arith) (sound_postfix b (d + 1) g (AND ∷ es) n.1 (omega arith) k))
sound_postfix b d (either f g) es n h q =
    let a : d + 1 + 1 - 2 + 1 ≡ d + 1 = omega arith in
    let k : Sound b (d + 1 + 1) (OR ∷ es) = (record { enough = omega arith; room = omega (arith, some_height f); named = tt }, rw a q) in
    rw (append_assoc (postfix f), append_assoc (postfix g))
    (sound_postfix b d f (postfix g ++ (OR ∷ es)) n.0 (omega arith) (sound_postfix b (d + 1) g (OR ∷ es) n.1 (omega arith) k))

pub sound_whole : (b : Bounds) (f : Formula) → Names b f → height f ≤ b.depth → Sound b 0 (postfix f)
unfolding Sound
sound_whole b f n h = rw (append-nil (postfix f)) at (sound_postfix b 0 f [] n (omega arith) tt)
