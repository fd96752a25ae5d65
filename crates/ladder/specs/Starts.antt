-- What reading the start values promises: every place of the coils.
use Rattle.std.specs.Prelude.{ℕ, ◌<◌, ◌≡◌, List, [], ◌∷◌, ◌++◌, length, drop, set}
use Rattle.base.specs.Lists.{All, each}
use Rattle.rules.specs.Sheet.{Start}
use Rattle.rules.specs.WriteSheet.{write_start}
use Rattle.ladder.specs.Values.{bit_of}

-- each START's coil takes its value, 0 or 1
unfoldable pub start_places : List ℕ → List Start → List ℕ
start_places w [] = w
start_places w (x ∷ xs) = start_places (set w x.coil (bit_of x.on)) xs

-- the bytes of n STARTs stand at place p
pub record StartsAt (s : List ℕ) (p n coils : ℕ) : Type 0 where
  pub starts : List Start
  pub rest : List ℕ
  pub bytes : drop p s ≡ each write_start starts ++ rest
  pub count : length starts ≡ n
  pub named : All (λ (x : Start). x.coil < coils) starts

abbrev pub Initialises : List ℕ → ℕ → ℕ → List ℕ → List ℕ → Type 0
Initialises s p n w w' = (h : StartsAt s p n (length w)) → w' ≡ start_places w h.starts
