-- What is handed back for a comparison, computed.
use Rattle.std.specs.Prelude.{ℕ, ◌≡◌, List, [], ◌∷◌, ℤ, pos, negsuc}
use Rattle.refusal.specs.declared.Refusal.TheVariants.{NoReading}
use Rattle.comparison.specs.Comparison.{compared, turned_away}
use Rattle.export_difference.specs.Handed.{HandsDifference}

record Examples : Type 0 where
  -- the first is cheaper by 3, or dearer by 3
  negative : (handed : List ℤ) (result : ℕ) → HandsDifference (compared (negsuc 2)) handed result → (result ≡ 0) × (handed ≡ negsuc 2 ∷ [])
  positive : (handed : List ℤ) (result : ℕ) → HandsDifference (compared (pos 3)) handed result → (result ≡ 0) × (handed ≡ pos 3 ∷ [])
  -- 'no reading'
  refused : (handed : List ℤ) (result : ℕ) → HandsDifference (turned_away NoReading) handed result → (result ≡ 16) × (handed ≡ pos 0 ∷ [])

examples : Examples
examples = record {
  negative = λ handed result h. (h.number, h.list);
  positive = λ handed result h. (h.number, h.list);
  refused = λ handed result h. (h.number, h.list);
}
