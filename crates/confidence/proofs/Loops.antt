-- The costs from one confidence on, as the loop goes through the list.
use Rattle.std.specs.Prelude.{ℕ, ◌+◌, ◌≤◌, ◌<◌, ◌≡◌, List, [], ◌∷◌, map, length, get_or, drop}
use Rattle.std.proofs.Common.{ap}
use Rattle.lists.proofs.EachLaws.{drop_here, drop_all}
use Rattle.confidence_rule.specs.Cost.{cost_of}

pub cost_step : (cs : List ℕ) (i : ℕ) → i < length cs → map cost_of (drop i cs) ≡ cost_of (get_or cs i 0) ∷ map cost_of (drop (i + 1) cs)
cost_step cs i l = ap (map cost_of) (drop_here 0 cs i l)

pub cost_end : (cs : List ℕ) (i : ℕ) → length cs ≤ i → map cost_of (drop i cs) ≡ []
cost_end cs i l = ap (map cost_of) (drop_all cs i l)
