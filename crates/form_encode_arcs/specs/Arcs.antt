-- The words of the arcs of a follow relation, which has for each letter the set of letters that may follow it, as a list of bools.
use Rattle.std.specs.Prelude.{ℕ, ◌-◌, Bool, get_or}
use mathlib.Core.List.{List, [], map, flat_map}
use Rattle.lists.specs.Lists.{keep, numbers}
use Rattle.automaton.specs.Form.{arc_word}
use Rattle.automaton.specs.Arrays.{has}

-- the arcs of letter i to those of l letters that are in the set `targets`
unfoldable pub letter_arcs : ℕ → List Bool → ℕ → List ℕ
letter_arcs l targets i = map (arc_word i) (keep (has targets) (numbers 1 l))

-- the arcs of letter i, by its entry in `follow`
abbrev pub letter_arcs_at : ℕ → List (List Bool) → ℕ → List ℕ
letter_arcs_at l follow i = letter_arcs l (get_or follow (i - 1) []) i

-- all arcs
unfoldable pub arcs_by : ℕ → List (List Bool) → List ℕ
arcs_by l follow = flat_map (letter_arcs_at l follow) (numbers 1 l)
