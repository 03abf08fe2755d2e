-- Form memory for `ab*`, just long enough and a word too short.
use Rattle.std.specs.Prelude.{◌≡◌, refl}
use mathlib.Core.List.{[], ◌∷◌, flat_map}
use Rattle.lists.specs.Lists.{keep, numbers}
use Rattle.refusal.specs.declared.Refusal.TheVariants.{FormMemory}
use Rattle.refusal.specs.Verdict.{unless, passed, refused}
use Rattle.automaton.specs.Form.{encode}
use Rattle.automaton.specs.Arrays.{arrayed}
use Rattle.form_encode.specs.Call.{form_call}
use Rattle.automaton.proofs.Examples.{ab*_by_arrays}

four_words : form_call 2 ab*_by_arrays 4 ≡ refused FormMemory
unfolding encode keep numbers flat_map arrayed ab*_by_arrays form_call unless
four_words = refl

five_words : form_call 2 ab*_by_arrays 5 ≡ passed (0x10020002 ∷ 0x20000301 ∷ 0x20000202 ∷ 0x30000102 ∷ 0x30000202 ∷ [])
unfolding encode keep numbers flat_map arrayed ab*_by_arrays form_call unless
five_words = refl
