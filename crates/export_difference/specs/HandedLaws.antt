-- From what is known of an answer to what is handed back.
use Rattle.std.specs.Prelude.{ℕ, ◌≡◌, List, [], ◌∷◌, ℤ}
use Rattle.comparison.specs.Comparison.{Comparison}
use Rattle.export_difference.specs.Handed.{HandsDifference}

pub hands_as :
    {answer told : Comparison} {handed : List ℤ} {result : ℕ} → answer ≡ told → (handed ≡ told.difference ∷ []) × (result ≡ told.number)
    → HandsDifference answer handed result
hands_as e h = rw e (record { number = h.1; list = h.0 })
