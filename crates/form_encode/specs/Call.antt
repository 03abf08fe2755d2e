-- What writing the form of an automaton gives: the form, or refusal 10 if the lent memory is too short for it (document 01, "Opening and
-- the compiled form" and "What is turned away").
use Rattle.std.specs.Prelude.{ℕ, List, [], ◌∷◌, length, ltb}
use Rattle.refusal.specs.declared.Refusal.TheVariants.{FormMemory}
use Rattle.refusal.specs.Verdict.{Verdict, check, unless}
use Rattle.automaton.specs.Automaton.{Automaton}
use Rattle.automaton.specs.Form.{encode}

-- the form of the automaton over an alphabet of k characters, unless it is longer than the room
unfoldable pub form_call : ℕ → Automaton → ℕ → Verdict (List ℕ)
form_call k A room = unless (check (ltb room (length (encode k A))) FormMemory ∷ []) (encode k A)
