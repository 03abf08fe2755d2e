-- What an alphabet is, and the checks of an alphabet and a text before the text is parsed (document 01, "What is turned away", refusals 1
-- to 3).
use Rattle.std.specs.Prelude.{ℕ, Bool, not, ◌&&◌, List, [], ◌∷◌, length}
use Rattle.lists.specs.Lists.{in_range}
use Rattle.lists.specs.Each.{all}
use Rattle.refusal.specs.declared.Refusal.TheVariants.{Alphabet, TextLength, TextByte}
use Rattle.refusal.specs.Verdict.{Check, check}

-- 1 to 95 bytes, each 32 to 126; a character may be listed more than once (document 02, T-07)
abbrev pub is_alphabet : List ℕ → Bool
is_alphabet A = in_range 1 95 (length A) && all (in_range 32 126) A

-- refusals 1, 2 and 3
abbrev pub text_checks : (A s : List ℕ) → List Check
text_checks A s =
    check (not (is_alphabet A)) Alphabet
    ∷ (check (not (in_range 1 255 (length s))) TextLength
    ∷ (check (not (all (in_range 32 126) s)) TextByte ∷ []))
