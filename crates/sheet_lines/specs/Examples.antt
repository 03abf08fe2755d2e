-- The lines of a reading and of a refusal: document 01's output and the edges, computed.
use Prim.Native.Char.{code}
use Rattle.std.specs.Prelude.{◌≡◌, refl}
use mathlib.Core.List.{[], ◌∷◌, ◌++◌, flat_map}
use Rattle.text.specs.Bytes.{bytes}
use Rattle.sheet_decimal.specs.Numerals.{digits, decimal}
use Rattle.sheet_path.specs.Labels.{following, spaced}
use Rattle.sheet_lines.specs.Lines.{line, reading_lines, refusal_line}

output_in_full : reading_lines 7 (bytes "aa") (1 ∷ 0 ∷ 1 ∷ []) ≡ line (bytes "7") ++ (line (bytes "aa") ++ line (bytes "1 0 1"))
unfolding spaced following decimal digits flat_map
output_in_full = refl

three_lines : reading_lines 0 [] [] ≡ code "0" ∷ 10 ∷ 10 ∷ 10 ∷ []
unfolding spaced decimal digits
three_lines = refl

no_reading : refusal_line 16 ≡ line (bytes "refused 16")
unfolding decimal digits
no_reading = refl
