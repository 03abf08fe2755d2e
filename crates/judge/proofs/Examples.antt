-- The call Judge on small forms, at its limits, and the order of its checks, computed.
use Rattle.std.specs.Prelude.{ℕ, ◌≡◌, refl, true, false, List, [], ◌∷◌, ◌++◌, map, replicate}
use Rattle.lists.specs.Lists.{numbers}
use Rattle.refusal.specs.declared.Refusal.TheVariants.{BadForm, Label}
use Rattle.refusal.specs.Verdict.{passed, refused, unless}
use Rattle.automaton.specs.Form.{ordered, valid_form, follow_of, ends_of}
use Rattle.automaton.specs.Accepted.{spells}
use Rattle.judge.specs.Judge.{judged}

abbrev form : List ℕ
form = 0x10020002 ∷ 0x20000301 ∷ 0x20000202 ∷ 0x30000102 ∷ 0x30000202 ∷ []

-- its last arc has the kind of a letter
abbrev no_form : List ℕ
no_form = 0x10020002 ∷ 0x20000301 ∷ 0x20000202 ∷ 0x30000102 ∷ 0x20000202 ∷ []

-- `b` over `ab`: one letter, two characters; `aa` over `a`: two letters, one character
abbrev one_letter : List ℕ
one_letter = 0x10020001 ∷ 0x20000302 ∷ []

abbrev one_character : List ℕ
one_character = 0x10010002 ∷ 0x20000101 ∷ 0x20000201 ∷ 0x30000102 ∷ []

record Examples : Type 0 where
  accepted : judged form (1 ∷ 2 ∷ 2 ∷ []) ≡ passed true
  rejected : judged form (2 ∷ []) ≡ passed false
  no_letter : judged form [] ≡ passed false
  bad_form : judged no_form (1 ∷ []) ≡ refused BadForm
  -- a label over K, 0 in a word; 255 labels, and one more
  labels : map (λ x. judged form (1 ∷ x ∷ [])) (0 ∷ 1 ∷ 2 ∷ 3 ∷ []) ≡ refused Label ∷ passed false ∷ passed true ∷ refused Label ∷ []
  lengths : map (λ n. judged form (1 ∷ replicate n 2)) (254 ∷ 255 ∷ []) ≡ passed true ∷ refused Label ∷ []
  -- "label over K": K is the number of characters, not of letters
  over_characters :
      map (λ x. judged one_letter (x ∷ [])) (1 ∷ 2 ∷ 3 ∷ []) ++ map (λ x. judged one_character (1 ∷ x ∷ [])) (1 ∷ 2 ∷ [])
      ≡ passed false ∷ passed true ∷ refused Label ∷ passed true ∷ refused Label ∷ []
  -- refusal 11 before refusal 17
  both : judged no_form (3 ∷ []) ≡ refused BadForm

examples : Examples
unfolding judged unless valid_form ordered spells numbers follow_of ends_of
examples = record { accepted = refl; rejected = refl; no_letter = refl; bad_form = refl; labels = refl; lengths = refl; over_characters = refl; both = refl }
