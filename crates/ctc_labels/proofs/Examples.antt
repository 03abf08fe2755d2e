-- Refusal 17 at its limits, computed.
use Rattle.std.specs.Prelude.{◌≡◌, refl, true, false, [], ◌∷◌, map, replicate}
use Rattle.ctc_labels.specs.Calls.{label_fault}

record Examples : Type 0 where
  -- "K not 1 to 95"
  alphabets : map (λ k. label_fault k 0 []) (0 ∷ 1 ∷ 95 ∷ 96 ∷ []) ≡ true ∷ false ∷ false ∷ true ∷ []
  -- "label over K, 0 in a word"
  path_labels : map (λ x. label_fault 2 0 (1 ∷ x ∷ [])) (0 ∷ 1 ∷ 2 ∷ 3 ∷ []) ≡ false ∷ false ∷ false ∷ true ∷ []
  word_labels : map (λ x. label_fault 2 1 (1 ∷ x ∷ [])) (0 ∷ 1 ∷ 2 ∷ 3 ∷ []) ≡ true ∷ false ∷ false ∷ true ∷ []
  highest : map (λ x. label_fault 95 1 (x ∷ [])) (95 ∷ 96 ∷ []) ≡ false ∷ true ∷ []
  -- "list over 255"
  lengths : map (λ n. label_fault 1 1 (replicate n 1)) (0 ∷ 255 ∷ 256 ∷ []) ≡ false ∷ false ∷ true ∷ []

examples : Examples
examples = record { alphabets = refl; path_labels = refl; word_labels = refl; highest = refl; lengths = refl }
