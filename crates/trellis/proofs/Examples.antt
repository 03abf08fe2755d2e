-- Extended states, and sums of costs that stop at TOP, on small cases.
use Rattle.std.specs.Prelude.{◌+◌, refl, ◌≡◌, ◌&&◌, [], ◌∷◌, eqb, ltb}
use Rattle.automaton.specs.Automaton.{Automaton}
use Rattle.trellis.specs.Graph.{Leads}
use Rattle.trellis.specs.Extended.{pass, leave, extended}
use Rattle.trellis.specs.Impossible.{TOP, plus}

-- two letters of label 1: the path 1 0 1 goes through the blanks after the first
twice : Automaton
twice = record { letters = 2; label = λ j. 1; follow = λ i j. eqb j (i + 1) && ltb i 2; ends = λ i. eqb i 2 }

example : Leads (extended twice) 0 (1 ∷ 0 ∷ 1 ∷ []) 3
unfolding twice
example = (1, leave 0 1 refl refl refl refl, (2, pass 1 refl refl refl, (3, leave 1 2 refl refl refl refl, refl)))

example_sum : plus 3 4 ≡ 7
example_sum = refl

example_barred : plus 4294967295 0 ≡ TOP
example_barred = refl
