-- Pieces and lines of small texts, computed.
use Rattle.std.specs.Prelude.{◌≡◌, refl, [], ◌∷◌, map}
use Rattle.std.proofs.Math.Option.{some, none}
use Rattle.text.specs.Bytes.{bytes}
use Rattle.text_lines.specs.Lines.{onto, pieces, both, closed, lines_of}

-- one piece more than there are separators
three_pieces : pieces 10 (bytes "a\nb\n") ≡ bytes "a" ∷ bytes "b" ∷ [] ∷ []
unfolding pieces onto
three_pieces = refl

-- nothing has no lines, a newline alone closes an empty one, and a last line without a newline leaves none
lines :
    map (λ s. lines_of (bytes s)) ("" ∷ "\n" ∷ "a\n\nb\n" ∷ "a" ∷ "a\nb" ∷ [])
    ≡ some [] ∷ some ([] ∷ []) ∷ some (bytes "a" ∷ [] ∷ bytes "b" ∷ []) ∷ none ∷ none ∷ []
unfolding pieces onto both closed
lines = refl
