-- Earlier rungs affect later ones, and the condition reads the coils after the scan: a ladder of two rungs, worked out.
use Rattle.std.specs.Prelude.{ℕ, ◌≡◌, List, [], ◌∷◌, ◌++◌, replicate}
use Rattle.base.specs.Lists.{All}
use Rattle.rules.specs.Head.{base_limits}
use Rattle.rules.specs.Formula.{Leaf.input, Leaf.coil, Formula.leaf, Formula.inverse, Formula.both, Formula.either}
use Rattle.rules.specs.Sheet.{Sheet, scan}
use Rattle.rules.specs.WriteSheet.{write_sheet}
use Rattle.ladder.specs.Values.{on}
use Rattle.ladder.specs.Scanned.{ScanAnswer.done, scan_of, coils_after}

-- c := a and not b, d := a or c, condition d; a and b are inputs 0 and 1, c and d are coils 0 and 1
abbrev pub two : Sheet
two = record {
  inputs = 2;
  coils = 2;
  starts = [];
  rungs =
      record { coil = 0; formula = both (leaf (input 0)) (inverse (leaf (input 1))) }
      ∷ record { coil = 1; formula = either (leaf (input 0)) (leaf (coil 0)) }
      ∷ [];
  condition = leaf (coil 1);
}

-- the places of a and b, those of c and d before a scan, and those of c and d after it
pub record Case : Type 0 where
  pub inputs : List ℕ
  pub before : List ℕ
  pub after : List ℕ

-- with a place for each input and coil that a sheet may have
abbrev pub lent : List ℕ → List ℕ
lent w = w ++ replicate 254 0

-- the meaning, and the scan of the sheet's bytes, say what the case says
pub record Right (x : Case) : Type 0 where
  pub means : All (λ (c : ℕ). scan two (on x.inputs) (on x.before) c ≡ on x.after c) (0 ∷ 1 ∷ [])
  pub answers : scan_of base_limits (write_sheet two) (lent x.inputs) (lent x.before) ≡ done (on x.after 1)
  pub leaves : coils_after base_limits (write_sheet two) (lent x.inputs) (lent x.before) ≡ lent x.after

-- a and b off and c on before: d comes out off, whatever it was; then a on alone, and both on
abbrev pub cases : List Case
cases =
    record { inputs = 0 ∷ 0 ∷ []; before = 1 ∷ 0 ∷ []; after = 0 ∷ 0 ∷ [] }
    ∷ record { inputs = 0 ∷ 0 ∷ []; before = 1 ∷ 1 ∷ []; after = 0 ∷ 0 ∷ [] }
    ∷ record { inputs = 7 ∷ 0 ∷ []; before = 0 ∷ 0 ∷ []; after = 1 ∷ 1 ∷ [] }
    ∷ record { inputs = 1 ∷ 1 ∷ []; before = 9 ∷ 0 ∷ []; after = 0 ∷ 1 ∷ [] }
    ∷ []

abbrev pub Order : Type 0
Order = All Right cases
