-- What a STEP answers and leaves, against the rule.
use Rattle.std.specs.Prelude.{ℕ, ◌+◌, ◌≡◌, Result, Ok, Err, Bool, List, [], ◌∷◌, ◌++◌}
use Rattle.rules.specs.declared.Limits.{Limits}
use Rattle.rules.specs.Certificate.{Step}
use Rattle.rules.specs.Clauses
use Rattle.rules.specs.Resolution.{derive, is_empty, Derived.clause, Derived.fault}
use Rattle.refutation.specs.Memory.{slot_at, Held, Fit, Outside}
use Rattle.rules.specs.declared.refusals.Fault.{Fault}
use Rattle.rules.specs.Fault.{number_of}
use Rattle.refutation.specs.declared.Numbers.{Numbers}

-- the code's STEP, as the rules'
abbrev pub step_of : Numbers → Step
step_of q = record { first = q.first; second = q.second; pivot = q.pivot }

-- the answer is the rule's, and memory holds the derived clause behind the others
pub data Follows (l : Limits) (w : List ℕ) (n from m : ℕ) (cs : List Clauses.Clause) (q : Step) : Result Bool Fault → Type 0 where
  refuses : {f : Fault} → derive l cs m q ≡ fault (number_of f) → Follows l w n from m cs q (Err f)
  derives : {b : Bool} (e : Clauses.Clause) → derive l cs m q ≡ clause e → b ≡ is_empty e → Held l w n from (m + 1) (cs ++ (e ∷ []))
      → Follows l w n from m cs q (Ok b)

-- after a derived clause the next STEP may be made
unfoldable pub FitNext : Limits → List ℕ → ℕ → ℕ → ℕ → Result Bool Fault → Type 0
FitNext l w n from m (Ok b) = Fit l w n from (m + 1)
FitNext l w n from m (Err f) = Unit {0}

-- of any clauses that memory holds; base clauses, earlier slots and the places past this slot are as they were
pub record Stepped (l : Limits) (w : List ℕ) (n from m : ℕ) (q : Step) (w' : List ℕ) (r : Result Bool Fault) : Type 0 where
  pub follows : (cs : List Clauses.Clause) → Held l w n from m cs → Follows l w' n from m cs q r
  pub fit : FitNext l w' n from m r
  pub outside : Outside (slot_at l from m) (slot_at l from (m + 1)) w w'
