-- What is still to be counted or written when a loop is at a letter, and what one iteration takes from that.
use Rattle.std.specs.Prelude.{ℕ, ◌+◌, ◌-◌, ◌<◌, ◌≤◌, ◌≡◌, Bool, get_or}
use Rattle.std.proofs.Common.{sym, ◌∙◌}
use Rattle.std.proofs.Math.Path.{ap}
use mathlib.Core.List.{List, [], ◌++◌, map, flat_map}
use Rattle.std.proofs.Math.ListN.{length, length-append}
use Rattle.std.proofs.lemmas.List.{length-map}
use Rattle.lists.specs.Lists.{keep, keeping, numbers}
use Rattle.lists.proofs.RemainingLoops.{from, from_first, keep_here, keep_past, flat_here, flat_past, length_keeping, map_keeping}
use Rattle.automaton.specs.Form.{bit, arc_word}
use Rattle.form_encode_arcs.specs.Arcs.{letter_arcs, letter_arcs_at, arcs_by}
use Rattle.automaton.specs.Arrays.{has}

module _ (l : ℕ) (targets : List Bool) where
  pub count_here : (j : ℕ) → j ≤ l → length (keep (has targets) (from l j)) ≡ bit (has targets j) + length (keep (has targets) (from l (j + 1)))
  count_here j h = ap length (keep_here l (has targets) j h) ∙ length_keeping (has targets j) j (keep (has targets) (from l (j + 1)))

  pub count_past : (j : ℕ) → l < j → length (keep (has targets) (from l j)) ≡ 0
  count_past j h = ap length (keep_past l (has targets) j h)

  pub letter_first : (i : ℕ) → letter_arcs l targets i ≡ map (arc_word i) (keep (has targets) (from l 1))
  unfolding letter_arcs
  letter_first i = ap (λ js. map (arc_word i) (keep (has targets) js)) (sym (from_first l))

  pub letter_here :
      (i j : ℕ) → j ≤ l
      → map (arc_word i) (keep (has targets) (from l j)) ≡ keeping (has targets j) (arc_word i j) [] ++ map (arc_word i) (keep (has targets) (from l (j + 1)))
  letter_here i j h = ap (map (arc_word i)) (keep_here l (has targets) j h) ∙ map_keeping (arc_word i) (has targets j) j (keep (has targets) (from l (j + 1)))

  pub letter_past : (i j : ℕ) → l < j → map (arc_word i) (keep (has targets) (from l j)) ≡ []
  letter_past i j h = ap (map (arc_word i)) (keep_past l (has targets) j h)

-- all arcs, a letter at a time
module _ (l : ℕ) (follow : List (List Bool)) where
  pub arcs_first : arcs_by l follow ≡ flat_map (letter_arcs_at l follow) (from l 1)
  unfolding arcs_by
  arcs_first = ap (flat_map (letter_arcs_at l follow)) (sym (from_first l))

  pub count_letter_arcs_here :
      (i : ℕ) → i ≤ l
      → length (flat_map (letter_arcs_at l follow) (from l i))
      ≡ length (keep (has (get_or follow (i - 1) [])) (numbers 1 l)) + length (flat_map (letter_arcs_at l follow) (from l (i + 1)))
  unfolding letter_arcs
  count_letter_arcs_here i h =
      ap length (flat_here l (letter_arcs_at l follow) i h)
      ∙ length-append (letter_arcs_at l follow i) (flat_map (letter_arcs_at l follow) (from l (i + 1)))
      ∙ ap (λ n. n + length (flat_map (letter_arcs_at l follow) (from l (i + 1)))) (length-map (keep (has (get_or follow (i - 1) [])) (numbers 1 l)) (arc_word i))

  pub count_letter_arcs_past : (i : ℕ) → l < i → length (flat_map (letter_arcs_at l follow) (from l i)) ≡ 0
  count_letter_arcs_past i h = ap length (flat_past l (letter_arcs_at l follow) i h)
