-- What a set's unit clauses say where its defined variables have their computed values.
-- Assumes nothing.
use Prim.Native.Nat.{ℕ, zero, suc, ◌+◌, ◌<◌}
use native.Mathlib.Omega.{arith}
use mathlib.Core.Path.{◌≡◌, refl, sym, ap, ap₂, ◌∙◌}
use mathlib.Core.Logic.Iff
use mathlib.Core.Logic.{◌↔◌, ◌⊎◌.inl, ◌⊎◌.inr}
use mathlib.Core.Bool.{Bool, true, false, not, ◌&&◌, ◌||◌}
use mathlib.Core.List.{List}
use Rattle.base.specs.Pick.{pick}
use Rattle.rules.specs.declared.Limits.{Limits}
use Rattle.rules.specs.Formula.{Inputs, Coils, Leaf.input, Leaf.coil, Leaf.constant, Formula, Formula.leaf, Formula.inverse, Formula.both, Formula.either, reads, value, size}
use Rattle.rules.specs.Sheet.{Start, Sheet, start_of, Begins, scan, holds_after}
use Rattle.rules.specs.WriteSheet.{Names}
use Rattle.rules.specs.WriteCertificate.{WithinInvariant}
use Rattle.rules.specs.Certificate.{Which, Which.start, Which.keep, Which.safe, invariant_bounds}
use Rattle.rules.specs.Clauses.{Lit.plain, Lit.negated, top, condition_at, before_at, after_at, start_units, unit}
use Rattle.solving.specs.Solution.{Assignment, Holds}
use Rattle.solving.specs.Parts.{Chosen, unit_part, Defined}
use Rattle.solving.specs.Statements.{inside, InputsDoNotMatter}
use Rattle.solving.proofs.Gates.{plain_unit, negated_unit}
use Rattle.solving.proofs.Records.{top_right, in_turn}
use Rattle.solving.proofs.Settled.{Settled, Part, before_part, condition_part, after_part}

-- without input contacts the inputs do not matter
no_inputs : (l : Limits) (t : Sheet) (i j : Inputs) (k : Coils) (f : Formula) → Names (invariant_bounds l t) f → value i k f ≡ value j k f
unfolding Names value reads
no_inputs l t i j k (leaf (input n)) m = absurd (omega arith)
no_inputs l t i j k (leaf (coil n)) m = refl
no_inputs l t i j k (leaf (constant c)) m = refl
no_inputs l t i j k (inverse f) m = ap not (no_inputs l t i j k f m)
no_inputs l t i j k (both f g) m = ap₂ ◌&&◌ (no_inputs l t i j k f m.0) (no_inputs l t i j k g m.1)
no_inputs l t i j k (either f g) m = ap₂ ◌||◌ (no_inputs l t i j k f m.0) (no_inputs l t i j k g m.1)

pub inputs_do_not_matter : InputsDoNotMatter
inputs_do_not_matter l t inv invariant i k = no_inputs l t i (λ n. false) k inv invariant.fits.names

-- the start's units give each coil its start value
start_unit : (a : Assignment) (v : ℕ) (x : Bool) → Holds a (unit (pick x (plain v) (negated v))) ↔ (a v ≡ x)
start_unit a v true = plain_unit a v
start_unit a v false = negated_unit a v

-- the n coils from c on have their start values in a
abbrev Started : Assignment → List Start → ℕ → ℕ → Type 0
Started a ss c n = (m : ℕ) → m < n → a (1 + (c + m)) ≡ start_of ss (c + m)

started_more : (a : Assignment) (ss : List Start) (c n : ℕ) → ((a (1 + c) ≡ start_of ss c) × Started a ss (suc c) n) ↔ Started a ss c (suc n)
started_more a ss c n = (there, λ r. (first r, λ m l. next r m l))
  where
    there : (a (1 + c) ≡ start_of ss c) × Started a ss (suc c) n → Started a ss c (suc n)
    there h zero l = let e : c + 0 ≡ c = omega arith in rw e h.0
    there h (suc m) l = let e : c + suc m ≡ suc c + m = omega arith in rw e (h.1 m (omega arith))

    first : Started a ss c (suc n) → a (1 + c) ≡ start_of ss c
    first r = let e : c + 0 ≡ c = omega arith in rw e at (r 0 (omega arith))

    next : Started a ss c (suc n) → (m : ℕ) → m < n → a (1 + (suc c + m)) ≡ start_of ss (suc c + m)
    next r m l = let e : c + suc m ≡ suc c + m = omega arith in rw e at (r (suc m) (omega arith))

start_units_lem : (a : Assignment) (ss : List Start) (c n : ℕ) → Holds a (start_units ss c n) ↔ Started a ss c n
unfolding start_units
start_units_lem a ss c zero = (λ h m l. absurd (omega arith), λ h. tt)
start_units_lem a ss c (suc n) =
    Iff.trans
    (in_turn a (unit (pick (start_of ss c) (plain (1 + c)) (negated (1 + c)))) (start_units ss (suc c) n) (start_unit a (1 + c) (start_of ss c)) (λ x. start_units_lem a ss (suc c) n))
    (started_more a ss c n)

-- what set w's units ask for: a start outside the invariant, or a scan from within it that leaves it or breaks the condition
abbrev pub Breaks : Sheet → Formula → Which → Coils → Inputs → Type 0
Breaks t inv start k i = Begins t k × (inside inv k ≡ false)
Breaks t inv keep k i = (inside inv k ≡ true) × (inside inv (scan t i k) ≡ false)
Breaks t inv safe k i = (inside inv k ≡ true) × (holds_after t i k ≡ false)

module _ (l : Limits) (t : Sheet) (inv : Formula) (invariant : WithinInvariant l t inv) (k : Coils) (i : Inputs) (a : Assignment) where
  begins : (w : Which) → Chosen t w k i a → Holds a (start_units t.starts 0 t.coils) ↔ Begins t k
  unfolding Begins
  begins w c = Iff.trans (start_units_lem a t.starts 0 t.coils) (there, back)
    where
      there : Started a t.starts 0 t.coils → (n : ℕ) → n < t.coils → k n ≡ start_of t.starts n
      there r n h = let e : 0 + n ≡ n = omega arith in sym (c.coils n h) ∙ (rw e at (r n h))

      back : ((n : ℕ) → n < t.coils → k n ≡ start_of t.starts n) → Started a t.starts 0 t.coils
      back r n h = let e : 0 + n ≡ n = omega arith in rw e (c.coils n h ∙ r n h)

  before_is : Part t inv k i a (before_at t) (size inv) → a (top (before_at t) inv) ≡ inside inv k
  before_is p = top_right a i k (before_at t) inv ((before_part t inv k i a).1 p) ∙ inputs_do_not_matter l t inv invariant i k

  in_before : (w : Which) → Settled t inv w k i a → a (top (before_at t) inv) ≡ inside inv k
  unfolding Defined
  in_before start s = before_is s
  in_before keep s = before_is (λ v h. s v (inr (inl h)))
  in_before safe s = before_is (λ v h. s v (inr (inr h)))

  in_after : Settled t inv keep k i a → a (top (after_at t inv) inv) ≡ inside inv (scan t i k)
  unfolding Defined
  in_after s =
      top_right a i (scan t i k) (after_at t inv) inv ((after_part t inv k i a).1 (λ v h. s v (inr (inr h))))
      ∙ inputs_do_not_matter l t inv invariant i (scan t i k)

  in_condition : Settled t inv safe k i a → a (top (condition_at t) t.condition) ≡ holds_after t i k
  unfolding Defined holds_after
  in_condition s = top_right a i (scan t i k) (condition_at t) t.condition ((condition_part t inv k i a).1 (λ v h. s v (inr (inl h))))

  -- a unit clause on a variable whose value is known
  says_true : (v : ℕ) (x : Bool) → a v ≡ x → Holds a (unit (plain v)) ↔ (x ≡ true)
  says_true v x e = Iff.trans (plain_unit a v) (λ h. sym e ∙ h, λ h. e ∙ h)

  says_false : (v : ℕ) (x : Bool) → a v ≡ x → Holds a (unit (negated v)) ↔ (x ≡ false)
  says_false v x e = Iff.trans (negated_unit a v) (λ h. sym e ∙ h, λ h. e ∙ h)

  pub units_say : (w : Which) → Chosen t w k i a → Settled t inv w k i a → Holds a (unit_part t inv w) ↔ Breaks t inv w k i
  unfolding unit_part
  units_say start c s = in_turn a (start_units t.starts 0 t.coils) _ (begins start c) (λ x. says_false _ _ (in_before start s))
  units_say keep c s =
      in_turn a (unit (plain (top (before_at t) inv))) (unit (negated (top (after_at t inv) inv))) (says_true _ _ (in_before keep s)) (λ x. says_false _ _ (in_after s))
  units_say safe c s =
      in_turn a (unit (plain (top (before_at t) inv))) (unit (negated (top (condition_at t) t.condition))) (says_true _ _ (in_before safe s)) (λ x. says_false _ _ (in_condition s))
