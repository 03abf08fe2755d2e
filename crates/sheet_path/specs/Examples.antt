-- The labels of a path as text, computed.
use Rattle.std.specs.Prelude.{◌≡◌, refl}
use mathlib.Core.List.{[], ◌∷◌, flat_map}
use Rattle.text.specs.Bytes.{bytes}
use Rattle.sheet_decimal.specs.Numerals.{digits, decimal}
use Rattle.sheet_path.specs.Labels.{following, spaced}

labels : spaced (1 ∷ 0 ∷ 95 ∷ []) ≡ bytes "1 0 95"
unfolding spaced following decimal digits flat_map
labels = refl
