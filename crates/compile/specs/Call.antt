-- What Compile gives for an alphabet and a text: the form of its expression, or the refusal that applies (document 01, "What is turned
-- away", refusals 1 to 10; document 02, T-01: refusal 19).
use Rattle.std.specs.Prelude.{ℕ, List, [], ◌∷◌, length, ltb}
use Rattle.refusal.specs.declared.Refusal.TheVariants.{Letters, FormMemory}
use Rattle.refusal.specs.Verdict.{Verdict, refused, check, unless, if_passed}
use Rattle.regex_tree.specs.Tree.{Tree}
use Rattle.regex_tree.specs.Parsing.{Parsing, found, fault}
use Rattle.regex_tree.specs.Letters.{letter_count}
use Rattle.regex_tree.specs.Parse.{expression_of}
use Rattle.positions.specs.Compiled.{form_of}
use Rattle.alphabet.specs.Alphabet.{text_checks}

-- the form of a tree, in this much memory, or refusals 9 and 10
abbrev pub formed : List ℕ → ℕ → Tree → Verdict (List ℕ)
formed A room t = unless (check (ltb 127 (letter_count A t)) Letters ∷ (check (ltb room (length (form_of A t))) FormMemory ∷ [])) (form_of A t)

-- refusals 4 to 8 and 19 are the parser's: that of the leftmost fault
abbrev pub parsed_form : List ℕ → ℕ → Parsing Tree → Verdict (List ℕ)
parsed_form A room (found t rest) = formed A room t
parsed_form A room (fault n rest) = refused n

-- what Compile fills, with this much room for the form
unfoldable pub compile_call : (A s : List ℕ) (room : ℕ) → Verdict (List ℕ)
compile_call A s room = if_passed (unless (text_checks A s) s) (λ s. parsed_form A room (expression_of A s))
